-- Sixteen numbers as a vector of sixty-four bytes, each number's from the low one on, and back.
use Rattle.std.proofs.Common.{◌≡◌, ℕ, zero, suc, ◌+◌, ◌*◌, ◌/◌, ◌%◌, ◌^◌, ◌<◌, List, [], ◌∷◌, length, get_or, refl, ap, sym, ◌∙◌, arith, Fits, w32}
use lib.Lanes.{Each1, chunk, number_l, digits_l}
use Rattle.std.proofs.lemmas.Simd.{get_or_narrower, get_or_wider, below_from_Fits, Each1-from_get_or, length-chunk, get_or-chunk}
use Rattle.qpu_word.specs.Lanes.{lane}
use Rattle.qpu_word.specs.Operations.{byte, of_bytes}
use Rattle.qpu_word.proofs.VectorLemmas.{Holds}

-- byte k of sixteen numbers in a row
abbrev pub byte_in : (ℕ → ℕ) → ℕ → ℕ
byte_in f k = byte (f (k / 4)) (k % 4)

byte_form : (n i : ℕ) → i < 4 → n / 256 ^ i % 256 ≡ byte n i
byte_form n zero low = refl
byte_form n (suc zero) low = refl
byte_form n (suc (suc zero)) low = refl
byte_form n (suc (suc (suc zero))) low = refl
byte_form n (suc (suc (suc (suc i)))) low = absurd (omega arith)

length_digits : (q n x : ℕ) → length (digits_l q n x) ≡ n
length_digits q zero x = refl
length_digits q (suc n) x = ap suc (length_digits q n (x / q))

-- the bytes of sixteen numbers
pub holds_bytes : (xs : List ℕ) → (length xs ≡ 16) × Each1 (Fits w32) xs → Holds 64 (byte_in (lane xs)) (digits_l 256 64 (number_l (2 ^ 32) xs))
holds_bytes xs fits = record {
  long = length_digits 256 64 (number_l (2 ^ 32) xs);
  each = λ k low.
      let part : 4 * (k / 4) + k % 4 ≡ k = omega arith in
      ap (λ m. get_or (digits_l 256 64 (number_l (2 ^ 32) xs)) m 0) (sym part)
      ∙ get_or_narrower (2 ^ 32) 4 256 64 xs (k / 4) (k % 4) refl (below_from_Fits w32 xs fits.1) (omega arith) (omega arith)
      ∙ byte_form (lane xs (k / 4)) (k % 4) (omega arith);
}

four_bytes : (ys : List ℕ) → length ys ≡ 4 → number_l 256 ys ≡ of_bytes (λ i. get_or ys i 0)
four_bytes [] long = absurd (omega (arith, long))
four_bytes (a ∷ []) long = absurd (omega (arith, long))
four_bytes (a ∷ b ∷ []) long = absurd (omega (arith, long))
four_bytes (a ∷ b ∷ c ∷ []) long = absurd (omega (arith, long))
four_bytes (a ∷ b ∷ c ∷ d ∷ []) long =
    let e : a + 256 * (b + 256 * (c + 256 * (d + 256 * 0))) ≡ a + 256 * b + 65536 * c + 16777216 * d = omega arith in e
four_bytes (a ∷ b ∷ c ∷ d ∷ e ∷ ys) long = absurd (omega (arith, long))

-- the numbers of sixty-four bytes
pub holds_numbers : {g : ℕ → ℕ} {bs : List ℕ} → Holds 64 g bs → ((k : ℕ) → k < 64 → g k < 256) → Holds 16 (λ j. of_bytes (λ i. g (4 * j + i))) (digits_l (2 ^ 32) 16 (number_l 256 bs))
holds_numbers {g} {bs} of below = record {
  long = length_digits (2 ^ 32) 16 (number_l 256 bs);
  each = λ j low.
      let long = of.long in
      get_or_wider 256 4 (2 ^ 32) 16 bs j refl (Each1-from_get_or (λ x. x < 256) bs 0 (λ k within. rw (of.each k (omega (arith, long))) (below k (omega (arith, long))))) low
      ∙ four_bytes (chunk (4 * j) 4 bs) (length-chunk (4 * j) 4 bs (omega (arith, long)))
      ∙ rw (byte_there of j 0 low (omega arith), byte_there of j 1 low (omega arith), byte_there of j 2 low (omega arith), byte_there of j 3 low (omega arith)) refl;
} where
  byte_there : {g : ℕ → ℕ} {bs : List ℕ} → Holds 64 g bs → (j i : ℕ) → j < 16 → i < 4 → get_or (chunk (4 * j) 4 bs) i 0 ≡ g (4 * j + i)
  byte_there {g} {bs} of j i low within = get_or-chunk (4 * j) 4 bs i 0 within ∙ of.each (4 * j + i) (omega arith)
