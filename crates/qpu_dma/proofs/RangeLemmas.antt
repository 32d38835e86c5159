-- A test of each number of a range.
use Rattle.std.proofs.Common.{◌≡◌, ℕ, ◌+◌, ◌-◌, ◌<◌, ◌≤◌, Bool, true, false, get_or, refl, arith, ap, ◌∙◌, sym}
use Rattle.std.specs.List.{list_all, range_with_len}
use Rattle.std.proofs.lemmas.List.FromFn.{get_or-range_with_len, length-range_with_len}
use Rattle.std.proofs.lemmas.List.Sums.{AllPass-from_list_all, list_all-from_AllPass}

-- number k of a range
number : (n k d : ℕ) → k < n → get_or (range_with_len 0 n) k d ≡ k
number n k d low = let e : 0 + k ≡ k = omega arith in get_or-range_with_len 0 n k d low ∙ e

-- a test that holds of a whole range holds of each of its numbers
pub range_all : (f : ℕ → Bool) (n k : ℕ) → list_all f (range_with_len 0 n) ≡ true → k < n → f k ≡ true
range_all f n k all low =
    sym (ap f (number n k 0 low)) ∙ AllPass-from_list_all f (range_with_len 0 n) all k 0 (omega (arith, length-range_with_len 0 n))

-- and if it holds of each, of the range
pub all_range : (f : ℕ → Bool) (n : ℕ) → ((k : ℕ) → k < n → f k ≡ true) → list_all f (range_with_len 0 n) ≡ true
all_range f n each =
    list_all-from_AllPass f (range_with_len 0 n) (λ k d low.
    let inside : k < n = omega (arith, length-range_with_len 0 n) in ap f (number n k d inside) ∙ each k inside)

-- a test that doesn't hold where another doesn't
no_more : (a b : Bool) → (b ≡ true → a ≡ true) → a ≡ false → b ≡ false
no_more a true carries not_a = cc (carries refl)
no_more a false carries not_a = refl

-- a test that holds of all numbers before the last where it holds of that: the last alone decides
pub by_last : (f : ℕ → Bool) (n : ℕ) (last : Bool) → 1 ≤ n → f (n - 1) ≡ last → (f (n - 1) ≡ true → (k : ℕ) → k < n → f k ≡ true) → list_all f (range_with_len 0 n) ≡ last
by_last f n true some is before = all_range f n (before is)
by_last f n false some is before = no_more (f (n - 1)) (list_all f (range_with_len 0 n)) (λ all. range_all f n (n - 1) all (omega arith)) is
