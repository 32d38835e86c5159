-- Whole values go through as they are under the condition that always holds.
use Rattle.std.proofs.Common.{◌≡◌, ℕ, List, length, refl, arith}
use Rattle.qpu_word.specs.declared.state.Flags.{Flags}
use Rattle.qpu_word.specs.Lanes.{lane}
use Rattle.qpu_word.specs.Flags.{lane_test}
use Rattle.qpu_word.specs.Writing.{packed, left}
use Rattle.qpu_word.proofs.LaneLemmas.{filled_all}

-- a lane of values that go through whole
whole_lane : (old n : ℕ) → n ≡ packed 0 old n
unfolding packed
whole_lane old n = refl

-- whole values under the condition that always holds
pub whole_left : (flags : Flags) (old values : List ℕ) → length values ≡ 16 → values ≡ left 1 flags 0 old values
unfolding left lane_test packed
whole_left flags old values long =
    filled_all {f = λ i. lane values i} {xs = values} {i = 16} (omega arith) (record { long = long; each = λ k low. refl })
