-- The immediates of small immediate words have 32 bits.
use Rattle.std.proofs.Common.{◌≡◌, ℕ, ◌<◌, Bool, true, false, refl, arith}
use Rattle.std.specs.Prelude.{nat_lt, if◌then◌else◌}
use Rattle.std.proofs.lemmas.Bool.Decides.{nat_tests}
use Rattle.qpu_word.specs.Operands.{small_value, immediate_of}

small_by : (n : ℕ) (a b c : Bool) → nat_lt n 16 ≡ a → nat_lt n 32 ≡ b → nat_lt n 40 ≡ c → n < 48 → small_value n < 4294967296
unfolding small_value
small_by n true b c e f g near =
    let low : n < 16 = grind (arith, nat_tests, e) in rw e (omega arith)
small_by n false true c e f g near =
    let low : n < 32 = grind (arith, nat_tests, f) in rw (e, f) (omega arith)
small_by n false false true e f g near =
    let low : n < 40 = grind (arith, nat_tests, g) in rw (e, f, g) (omega arith)
small_by n false false false e f g near = rw (e, f, g) (omega arith)

pub small_fits : (n : ℕ) → n < 48 → small_value n < 4294967296
small_fits n near = small_by n (nat_lt n 16) (nat_lt n 32) (nat_lt n 40) refl refl refl near

pub immediate_fits : (code : ℕ) → immediate_of code < 4294967296
immediate_fits code = by_size (nat_lt code 48) refl
  where
    by_size : (b : Bool) → nat_lt code 48 ≡ b → (if b then small_value code else 0) < 4294967296
    by_size true e = small_fits code (grind (arith, nat_tests, e))
    by_size false e = omega arith
