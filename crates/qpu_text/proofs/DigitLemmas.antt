-- Digits that are written from the last to the first, and what holds of all that are written.
use Rattle.std.proofs.Common.{◌≡◌, ℕ, zero, suc, ◌+◌, ◌-◌, ◌/◌, ◌%◌, ◌<◌, ◌≤◌, Bool, true, List, [], ◌∷◌, ◌++◌, length, drop, set, refl, append_assoc, arith}
use Rattle.std.specs.List.{list_all}
use Rattle.std.proofs.lemmas.List.{length-append, drop-set}
use Rattle.std.proofs.lemmas.List.Folds.{list_all-append}
use Rattle.qpu_text.specs.Digits.{hex_digit, hex_digits}

-- one more digit is written, before those that stand
pub digit_written : (k rest digit : ℕ) (digits : List ℕ) → 0 < k → k ≤ length digits → digit ≡ hex_digit (rest % 16)
    → hex_digits k rest ++ drop k digits ≡ hex_digits (k - 1) (rest / 16) ++ drop (k - 1) (set digits (k - 1) digit)
unfolding hex_digits
digit_written zero rest digit digits some within is = absurd (omega arith)
digit_written (suc k) rest digit digits some within is =
    let place : suc k - 1 ≡ k = omega arith in
    let next : k + 1 ≡ suc k = omega arith in
    let placed = rw next at (drop-set digits k (hex_digit (rest % 16)) (omega arith)) in
    rw (place, is, placed) (append_assoc (hex_digits k (rest / 16)) (hex_digit (rest % 16) ∷ []) (drop (suc k) digits))

pub none_left : (k rest : ℕ) (digits : List ℕ) → k ≤ 0 → hex_digits k rest ++ drop k digits ≡ digits
unfolding hex_digits
none_left zero rest digits none = refl
none_left (suc k) rest digits none = absurd (omega arith)

-- how many digits there are
pub digits_long : (k n : ℕ) → length (hex_digits k n) ≡ k
unfolding hex_digits
digits_long zero n = refl
digits_long (suc k) n =
    let front = digits_long k (n / 16) in omega (arith, length-append (hex_digits k (n / 16)) (hex_digit (n % 16) ∷ []))

-- a test that each digit passes
pub digits_pass : (test : ℕ → Bool) → ((d : ℕ) → d < 16 → test (hex_digit d) ≡ true) → (k n : ℕ) → list_all test (hex_digits k n) ≡ true
unfolding hex_digits
digits_pass test passes zero n = refl
digits_pass test passes (suc k) n =
    rw (list_all-append test (hex_digits k (n / 16)) (hex_digit (n % 16) ∷ []), digits_pass test passes k (n / 16), passes (n % 16) (omega arith)) refl
