use Rattle.std.proofs.Common.{◌≡◌, take}
use Rattle.std.specs.Prelude.{fold}
use Rattle.qpu_expr.specs.Operands.{nothing_read, worked_on}
use Rattle.qpu_expr.proofs.operand.instruction.Given as goal

abbrev pub invariant-loop-token : goal.invariant-loop-token
invariant-loop-token l = l.worker ≡ fold (worked_on l.text l.sets) nothing_read (take l.token-index l.tokens)
