use Rattle.std.proofs.Common.{◌≡◌, reverse, vec_len}
use Rattle.qpu_expr.specs.Expressions.{collapse}
use Rattle.qpu_expr.proofs.expression.collapse.Given as goal

abbrev pub invariant-loop-frame : goal.invariant-loop-frame
invariant-loop-frame l = collapse l.least (reverse l.stack.items) l.worth ≡ collapse l.least (reverse l.fn.stack.items) l.fn.last

abbrev pub decreases-loop-frame : goal.decreases-loop-frame
decreases-loop-frame l = vec_len l.stack
