use Rattle.std.proofs.Common.{◌≡◌, take, map}
use Rattle.qpu_expr.specs.Macros.{line_replaced}
use Rattle.qpu_expr.proofs.macros.body_replaced.Given as goal

abbrev pub invariant-loop-line : goal.invariant-loop-line
invariant-loop-line l = l.lines.items ≡ map (line_replaced l.text l.parameters l.arguments) (take l.line-index l.body)
