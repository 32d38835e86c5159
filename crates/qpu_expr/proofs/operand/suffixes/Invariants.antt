use Rattle.std.proofs.Common.{◌≡◌, ◌≤◌, ◌+◌, ◌-◌, length, drop}
use Rattle.qpu_expr.specs.Operands.{suffixes}
use Rattle.qpu_expr.proofs.operand.suffixes.Given as goal

abbrev pub invariant-loop-at : goal.invariant-loop-at
invariant-loop-at l = record { within : l.at ≤ length l.tokens; same : l.at + suffixes l.text (drop l.at l.tokens) ≡ suffixes l.text l.tokens }

abbrev pub decreases-loop-at : goal.decreases-loop-at
decreases-loop-at l = length l.tokens - l.at
