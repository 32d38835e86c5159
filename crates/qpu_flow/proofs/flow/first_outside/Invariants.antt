use Rattle.std.proofs.Common.{ℕ, ◌<◌}
use Rattle.std.specs.Prelude.{slice_index}
use Rattle.qpu_word.specs.Words.{IsInProfile, numbers_of}
use Rattle.qpu_flow.proofs.flow.first_outside.Given as goal

-- the words before are in the profile
abbrev pub invariant-loop-at : goal.invariant-loop-at
invariant-loop-at l = (k : ℕ) → k < l.at → IsInProfile (slice_index (numbers_of l.words) k)
