-- One lane or one byte of an operation on whole vectors, as the definitions have it.
use Rattle.std.proofs.Common.{◌≡◌, ℕ, ◌+◌, ◌-◌, ◌*◌, ◌/◌, ◌%◌, ◌^◌, ◌<◌, ◌≤◌, cond, min, max, List, length, refl, arith, bit_and, nat_lt, Fits, w8, w32}
use lib.Lanes.{Each1, zip2, digits_l, number_l}
use Rattle.std.proofs.lemmas.Bool.Decides.{nat_tests}
use Rattle.std.proofs.lemmas.Nat.{and_mask, mul-le}
use Rattle.std.proofs.lemmas.Simd.{Each1-get_or, Each1-from_get_or}
use Rattle.qpu_word.specs.Lanes.{lanes, lane}
use Rattle.qpu_word.specs.Operations.{low32, byte, of_bytes}
use Rattle.qpu_word.proofs.VectorLemmas.{Holds, holds_zip2, holds_same, holds_lanes}
use Rattle.qpu_word.proofs.ByteLemmas.{byte_in, holds_bytes, holds_numbers}

pub low_product : (a b : ℕ) → low32 (bit_and a (2 ^ 24 - 1) * bit_and b (2 ^ 24 - 1)) ≡ low32 (a % 2 ^ 24 * (b % 2 ^ 24))
low_product a b = rw (and_mask a 24, and_mask b 24) refl

-- a lane of a vector of bytes is a byte
pub one_byte : (xs : List ℕ) → (length xs ≡ 64) × Each1 (Fits w8) xs → (k : ℕ) → k < 64 → lane xs k < 256
one_byte xs fits k low = let long = fits.0 in (Each1-get_or (Fits w8) xs k 0 (omega (arith, long)) fits.1).fits

pub one_sum : (x y : ℕ) → x < 256 → y < 256 → cond (nat_lt ((x + y) % 256) x) 255 ((x + y) % 256) ≡ min 255 (x + y)
one_sum x y low_x low_y = grind (arith, nat_tests)

pub one_difference : (x y : ℕ) → x < 256 → y < 256 → cond (nat_lt x y) 0 ((x + (256 - y)) % 256) ≡ x - y
one_difference x y low_x low_y = grind (arith, nat_tests)

pub one_least : (x y : ℕ) → cond (nat_lt x y) x y ≡ min x y
one_least x y = grind (arith, nat_tests)

pub one_most : (x y : ℕ) → cond (nat_lt x y) y x ≡ max x y
one_most x y = grind (arith, nat_tests)

-- a lane of a vector of numbers is a number of 32 bits
pub one_number : (xs : List ℕ) → (length xs ≡ 16) × Each1 (Fits w32) xs → (k : ℕ) → k < 16 → lane xs k < 2 ^ 32
one_number xs fits k low = let long = fits.0 in (Each1-get_or (Fits w32) xs k 0 (omega (arith, long)) fits.1).fits

pub one_less : (a b : ℕ) → b < 2 ^ 32 → low32 (a + (2 ^ 32 - b)) ≡ low32 (a + 2 ^ 32 - b)
one_less a b low = let e : a + (2 ^ 32 - b) ≡ a + 2 ^ 32 - b = omega arith in rw e refl

byte_part : (g : ℕ → ℕ) (j i : ℕ) → i < 4 → byte_in g (4 * j + i) ≡ byte (g j) i
byte_part g j i low =
    let number : (4 * j + i) / 4 ≡ j = omega arith in
    let place : (4 * j + i) % 4 ≡ i = omega arith in
    rw (number, place) refl

two_parts : (f : ℕ → ℕ → ℕ) (g h : ℕ → ℕ) (j i : ℕ) → i < 4 → f (byte_in g (4 * j + i)) (byte_in h (4 * j + i)) ≡ f (byte (g j) i) (byte (h j) i)
two_parts f g h j i low = rw (byte_part g j i low, byte_part h j i low) refl

-- sixteen numbers that an operation on the bytes of two vectors makes
pub numbers_of_two : (f : ℕ → ℕ → ℕ) (xs ys bs : List ℕ) → (length xs ≡ 16) × Each1 (Fits w32) xs → (length ys ≡ 16) × Each1 (Fits w32) ys → bs ≡ zip2 f (digits_l 256 64 (number_l (2 ^ 32) xs)) (digits_l 256 64 (number_l (2 ^ 32) ys)) → ((x y : ℕ) → x < 2 ^ 8 → y < 2 ^ 8 → f x y < 2 ^ 8) → digits_l (2 ^ 32) 16 (number_l 256 bs) ≡ lanes (λ i. of_bytes (λ k. f (byte (lane xs i) k) (byte (lane ys i) k)))
numbers_of_two f xs ys bs fits_x fits_y is below =
    let held : Holds 64 (λ k. f (byte_in (lane xs) k) (byte_in (lane ys) k)) bs = rw is (holds_zip2 f (holds_bytes xs fits_x) (holds_bytes ys fits_y)) in
    holds_lanes (holds_same (λ i. of_bytes (λ k. f (byte (lane xs i) k) (byte (lane ys i) k))) (holds_numbers held (λ k low. below (byte_in (lane xs) k) (byte_in (lane ys) k) (omega arith) (omega arith))) (λ j low.
    rw (two_parts f (lane xs) (lane ys) j 0 (omega arith), two_parts f (lane xs) (lane ys) j 1 (omega arith), two_parts f (lane xs) (lane ys) j 2 (omega arith), two_parts f (lane xs) (lane ys) j 3 (omega arith)) refl))

product_low : (x y : ℕ) → x < 256 → y < 256 → x * y ≤ 65025
product_low x y low_x low_y = let most : x * y ≤ 255 * 255 = mul-le x y 255 255 (omega arith) (omega arith) in omega (arith, most)

-- the raised product, and its quotient by 255
abbrev pub raised : ℕ → ℕ → ℕ
raised x y = (x * y % 2 ^ 16 + 128) % 2 ^ 16

pub one_product : (x y : ℕ) → x < 256 → y < 256 → (raised x y + raised x y / 2 ^ 8) % 2 ^ 16 / 2 ^ 8 ≡ (x * y + 127) / 255
one_product x y low_x low_y = let most = product_low x y low_x low_y in omega (arith, most)

-- numbers of 8 bits fit a byte
pub each_fits : {f : ℕ → ℕ} {xs : List ℕ} → Holds 64 f xs → ((k : ℕ) → k < 64 → f k < 256) → Each1 (Fits w8) xs
each_fits {f} {xs} of low = Each1-from_get_or (Fits w8) xs 0 (λ k within. let long = of.long in rw (of.each k (omega (arith, long))) (record { fits = low k (omega (arith, long)) }))

pub quotient_low : (x y : ℕ) → x < 256 → y < 256 → (raised x y + raised x y / 2 ^ 8) % 2 ^ 16 / 2 ^ 8 < 256
quotient_low x y low_x low_y = let most = product_low x y low_x low_y in omega (arith, most)
