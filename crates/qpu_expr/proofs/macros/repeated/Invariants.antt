use Rattle.std.proofs.Common.{◌≡◌, [], take, drop}
use Rattle.qpu_expr.specs.Macros.{repeated_in}
use Rattle.qpu_expr.proofs.macros.repeated.Given as goal

abbrev pub invariant-loop-i : goal.invariant-loop-i
invariant-loop-i l = repeated_in l.text (take l.i l.parameters) (drop l.i l.parameters) ≡ repeated_in l.text [] l.parameters
