use Rattle.std.proofs.Common.{◌≢◌, ℕ, ◌<◌}
use Rattle.qpu_word.specs.Operands.{small_value}
use Rattle.qpu_pack.proofs.small.small_code.Given as goal

abbrev pub invariant-loop-code : goal.invariant-loop-code
invariant-loop-code l = (k : ℕ) → k < l.code → small_value k ≢ l.value
