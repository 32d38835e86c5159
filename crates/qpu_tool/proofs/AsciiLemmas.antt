-- Bytes of which none is high are ASCII.
use Rattle.std.proofs.Common.{◌≡◌, ℕ, zero, suc, ◌+◌, ◌<◌, Bool, true, false, List, [], ◌∷◌, get_or, length, Option, Some, None, refl, arith}
use Rattle.std.specs.Prelude.{nat_lt, not, position, if◌then◌else◌}
use Rattle.std.specs.List.{position_or_len}
use Rattle.std.proofs.lemmas.Bool.Decides.{nat_tests}
use Rattle.qpu_tool.specs.Ascii.{is_high}

low_head : (byte n m : ℕ) (high : Bool) → is_high byte ≡ high → nat_lt (if not high then 1 + n else 0) (suc m) ≡ false → (byte < 128) × (nat_lt n m ≡ false)
low_head byte n m true is none = let less : nat_lt 0 (suc m) ≡ false = none in absurd (grind (arith, nat_tests))
low_head byte n m false is none =
    let more : nat_lt (1 + n) (suc m) ≡ false = none in (grind (arith, nat_tests), grind (arith, nat_tests))

not_high : (bytes : List ℕ) → nat_lt (position_or_len is_high bytes) (length bytes) ≡ false → (i : ℕ) → get_or bytes i 0 < 128
not_high [] none i = omega arith
not_high (byte ∷ bytes) none zero = (low_head byte (position_or_len is_high bytes) (length bytes) (is_high byte) refl none).0
not_high (byte ∷ bytes) none (suc i) =
    not_high bytes ((low_head byte (position_or_len is_high bytes) (length bytes) (is_high byte) refl none).1) i

no_place : (n : ℕ) (b : Bool) → ◌≡◌ {A = Option ℕ} (if b then Some n else None) None → b ≡ false
no_place n true none = absurd (cc)
no_place n false none = refl

pub all_low : (bytes : List ℕ) → position is_high bytes ≡ None → (i : ℕ) → get_or bytes i 0 < 128
all_low bytes none i =
    not_high bytes (no_place (position_or_len is_high bytes) (nat_lt (position_or_len is_high bytes) (length bytes)) none) i
