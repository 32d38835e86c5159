-- Lanes that a loop fills one by one, what stands in a lane, and masks of lanes.
use Rattle.std.proofs.Common.{◌≡◌, ℕ, zero, suc, ◌+◌, ◌<◌, ◌≤◌, Bool, List, length, get_or, refl, ap, ◌∙◌, arith, replicate}
use Rattle.std.proofs.Math.ListN.{set, length-set}
use Rattle.std.proofs.lemmas.List.FromFn.{fill_by_all, get_or-map-range_with_len, length-map-range_with_len}
use Rattle.std.proofs.lemmas.List.{get_or-replicate}
use Rattle.std.proofs.lemmas.List.Edits.{fill_by_more}
use Rattle.qpu_word.specs.Lanes.{lanes, lane, mask_below, Gives}

-- sixteen lanes of which the first i are those of a function
pub record Filled (f : ℕ → ℕ) (xs : List ℕ) (i : ℕ) : Type 0 where
  pub long : length xs ≡ 16
  pub each : (k : ℕ) → k < i → get_or xs k 0 ≡ f k

-- one more lane is filled
pub filled_more : {f : ℕ → ℕ} {xs : List ℕ} {i : ℕ} (v : ℕ) → i < 16 → v ≡ f i → Filled f xs i → Filled f (set xs i v) (i + 1)
filled_more {f} {xs} {i} v low value before = record {
  long = length-set xs i v ∙ before.long;
  each = rw value (fill_by_more f xs i 0 (omega (arith, before.long)) before.each);
}

-- all lanes are filled
pub filled_all : {f : ℕ → ℕ} {xs : List ℕ} {i : ℕ} → 16 ≤ i → Filled f xs i → xs ≡ lanes f
unfolding lanes
filled_all {f} {xs} {i} high done = fill_by_all f xs 16 0 done.long (λ k low. done.each k (omega arith))

-- a lane of the lanes of a function
pub get_or-lanes : (f : ℕ → ℕ) (i : ℕ) → i < 16 → get_or (lanes f) i 0 ≡ f i
unfolding lanes
get_or-lanes f i low = get_or-map-range_with_len f 0 16 i i 0 low (omega arith)

-- how many lanes there are
pub length-lanes : (f : ℕ → ℕ) → length (lanes f) ≡ 16
unfolding lanes
length-lanes f = length-map-range_with_len f 0 16

-- lanes of functions that agree on sixteen lanes
pub lanes_same : (f g : ℕ → ℕ) → ((k : ℕ) → k < 16 → f k ≡ g k) → lanes f ≡ lanes g
lanes_same f g same = filled_all {f = g} {i = 16} (omega arith) (record {
  long = length-lanes f;
  each = λ k low. get_or-lanes f k low ∙ same k low;
})

-- the lanes of a function give it
pub gives_lanes : {values : List ℕ} (f : ℕ → ℕ) → values ≡ lanes f → Gives values f
gives_lanes f is = record { at = λ i low. rw is (get_or-lanes f i low) }

-- lanes that a loop filled give the function
pub filled_gives : {f : ℕ → ℕ} {xs : List ℕ} {i : ℕ} → 16 ≤ i → Filled f xs i → Gives xs f
filled_gives high done = record { at = λ k low. done.each k (omega arith) }

-- a value gives its own lanes
pub gives_itself : (values : List ℕ) → Gives values (lane values)
gives_itself values = record { at = λ i low. refl }

-- one number in all lanes
pub gives_repeated : (n : ℕ) → Gives (replicate 16 n) (λ i. n)
gives_repeated n = record { at = λ i low. get_or-replicate 16 i n 0 low }

-- lanes made of a value's lanes
pub gives_mapped : {xs ys : List ℕ} {f : ℕ → ℕ} (g : ℕ → ℕ) → ys ≡ lanes (λ i. g (lane xs i)) → Gives xs f → Gives ys (λ i. g (f i))
gives_mapped {xs} {ys} {f} g is gives = record { at = λ i low. (gives_lanes (λ i. g (lane xs i)) is).at i low ∙ ap g (gives.at i low) }

-- lanes made of two values' lanes
pub lanes_of_two : {xs ys : List ℕ} {f h : ℕ → ℕ} (g : ℕ → ℕ → ℕ) → Gives xs f → Gives ys h → lanes (λ i. g (lane xs i) (lane ys i)) ≡ lanes (λ i. g (f i) (h i))
lanes_of_two {xs} {ys} {f} {h} g first second =
    lanes_same (λ i. g (lane xs i) (lane ys i)) (λ i. g (f i) (h i)) (λ k low. rw (first.at k low, second.at k low) refl)

-- masks of tests that agree on the lanes below n
mask_agree : (s t : ℕ → Bool) (n : ℕ) → ((k : ℕ) → k < n → s k ≡ t k) → mask_below s n ≡ mask_below t n
unfolding mask_below
mask_agree s t zero same = refl
mask_agree s t (suc n) same = rw (mask_agree s t n (λ k low. same k (omega arith)), same n (omega arith)) refl

-- masks of tests that agree on sixteen lanes
pub mask_same : (s t : ℕ → Bool) → ((k : ℕ) → k < 16 → s k ≡ t k) → mask_below s 16 ≡ mask_below t 16
mask_same s t same = mask_agree s t 16 same

-- one number in all lanes
pub lanes_repeated : (n : ℕ) → replicate 16 n ≡ lanes (λ i. n)
lanes_repeated n = filled_all {f = λ i. n} {i = 16} (omega arith) (record { long = refl; each = λ k low. get_or-replicate 16 k n 0 low })
