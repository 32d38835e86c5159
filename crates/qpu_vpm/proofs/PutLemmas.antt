-- A vector written lane by lane.
use Rattle.std.proofs.Common.{◌≡◌, ℕ, zero, suc, ◌+◌, ◌<◌, ◌≤◌, List, [], ◌∷◌, length, get_or, take, refl, ap, sym, ◌∙◌, arith, add-one, map}
use Rattle.std.specs.List.{range_with_len}
use Rattle.std.proofs.lemmas.List.{take_all}
use Rattle.qpu_word.specs.Lanes.{lanes}
use Rattle.qpu_word.proofs.LaneLemmas.{get_or-lanes, length-lanes}
use Rattle.qpu_bytes.specs.declared.size.Size.{Size}
use Rattle.qpu_bytes.specs.Elements.{part, with_part}
use Rattle.qpu_vpm.specs.Values.{vpm_values, with_values}

-- one more element is set
with_values_more : (vpm : List ℕ) (size : Size) (places values : List ℕ) (i : ℕ) → i < length places → i < length values → with_values vpm size (take (suc i) places) (take (suc i) values) ≡ with_part (with_values vpm size (take i places) (take i values)) (get_or places i 0) size (get_or values i 0)
with_values_more vpm size [] values i low high = absurd (omega arith)
with_values_more vpm size (p ∷ places) [] i low high = absurd (omega arith)
with_values_more vpm size (p ∷ places) (v ∷ values) zero low high = refl
with_values_more vpm size (p ∷ places) (v ∷ values) (suc i) low high = with_values_more (with_part vpm p size v) size places values i (omega arith) (omega arith)

-- words in which the elements of the first i lanes are set to the lanes' values
pub record IsPut (f : ℕ → ℕ) (size : Size) (values old now : List ℕ) (i : ℕ) : Type 0 where
  pub long : length values ≡ 16
  pub is : now ≡ with_values old size (take i (lanes f)) (take i values)

-- one more element is set
pub put_more : {f : ℕ → ℕ} {size : Size} {values old now next : List ℕ} {i : ℕ} → i < 16 → next ≡ with_part now (f i) size (get_or values i 0) → IsPut f size values old now i → IsPut f size values old next (i + 1)
put_more {f} {size} {values} {old} {now} {next} {i} low made before = record {
  long = before.long;
  is = rw (add-one, with_values_more old size (lanes f) values i (omega (arith, length-lanes f)) (omega (arith, before.long)), get_or-lanes f i low, ← before.is) made;
}

-- all elements are set
pub put_all : {f : ℕ → ℕ} {size : Size} {values old now : List ℕ} {i : ℕ} → 16 ≤ i → IsPut f size values old now i → now ≡ with_values old size (lanes f) values
put_all {f} {size} {values} {old} {now} {i} high done =
    done.is ∙ rw (take_all i (lanes f) (omega (arith, length-lanes f)), take_all i values (omega (arith, done.long))) refl

-- the values of places, lane by lane
map_lanes : (g f : ℕ → ℕ) (a n : ℕ) → map g (map f (range_with_len a n)) ≡ map (λ i. g (f i)) (range_with_len a n)
map_lanes g f a zero = refl
map_lanes g f a (suc n) = ap (λ (more : List ℕ). g (f a) ∷ more) (map_lanes g f (a + 1) n)

pub values_of_lanes : (vpm : List ℕ) (size : Size) (f : ℕ → ℕ) → lanes (λ i. part vpm (f i) size) ≡ vpm_values vpm size (lanes f)
unfolding lanes
values_of_lanes vpm size f = sym (map_lanes (λ at. part vpm at size) f 0 16)
