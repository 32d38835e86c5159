-- Lanes of two copies of a value, in the order of a rotation.
use Rattle.std.proofs.Common.{◌≡◌, ℕ, ◌+◌, ◌-◌, ◌%◌, ◌<◌, List, ◌++◌, map, length, get_or, ap, sym, ◌∙◌, arith}
use Rattle.std.specs.List.{range_with_len}
use Rattle.std.proofs.lemmas.List.{get_or_append_left}
use Rattle.qpu_word.specs.Lanes.{lanes}
use Rattle.qpu_word.specs.Writing.{rotated}
use Rattle.qpu_word.proofs.LaneLemmas.{filled_all, lanes_same}

-- the lanes that a rotation by n takes from the first copy
pub turned : (n : ℕ) (values : List ℕ) {result : List ℕ} → length values ≡ 16 → result ≡ map (λ i. get_or (values ++ values) ((i + 16 - n) % 16) 0) (range_with_len 0 16) → result ≡ rotated n values
unfolding rotated lanes
turned n values long is = is ∙ lanes_same (λ i. get_or (values ++ values) ((i + 16 - n) % 16) 0) (λ i. get_or values ((i + 16 - n) % 16) 0) (λ k low. get_or_append_left values values 0 ((k + 16 - n) % 16) (omega (arith, long)))

same_lane : (k : ℕ) → k < 16 → (k + 16 - 0) % 16 ≡ k
same_lane k low = omega arith

-- a rotation by none
pub not_turned : (values : List ℕ) {result : List ℕ} → length values ≡ 16 → result ≡ values → result ≡ rotated 0 values
unfolding rotated
not_turned values long is =
    is ∙ filled_all {f = λ i. get_or values ((i + 16 - 0) % 16) 0} {i = 16} (omega arith)
    (record { long = long; each = λ k low. ap (λ i. get_or values i 0) (sym (same_lane k low)) })
