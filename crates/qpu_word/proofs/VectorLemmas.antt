-- Vectors of sixteen lanes: what an operation on whole vectors gives lane by lane, and the masks
-- that comparisons of whole vectors give.
use Rattle.std.proofs.Common.{◌≡◌, ℕ, zero, suc, ◌+◌, ◌-◌, ◌*◌, ◌%◌, ◌^◌, ◌<◌, Bool, true, false, cond, List, [], ◌∷◌, map, length, get_or, replicate, refl, ap, sym, ◌∙◌, arith, if◌then◌else◌, Fits, w32, nat_lt, nat_le}
use mir.Syntax.{Width}
use mir.Val.{bits, hbits}
use Rattle.std.proofs.lemmas.List.{get_or-map, length-map, ext_get_or}
use lib.Lanes.{zip2, mask_l, sel_l, top, Each1}
use Rattle.std.proofs.lemmas.Bool.Decides.{nat_tests}
use Rattle.std.proofs.lemmas.Grind.{pow_more}
use Rattle.std.proofs.lemmas.Simd.{length-zip2, get_or-zip2, length-replicate, get_or-replicate, length-sel_l, get_or-sel_l, tops_compared, mask_l-lt, mask_l-mod, Each1-get_or}
use Rattle.qpu_word.specs.Lanes.{lanes, lane, mask, mask_below}
use Rattle.qpu_word.proofs.LaneLemmas.{filled_all, mask_same}

-- a vector of n lanes that are those of a function
pub record Holds (n : ℕ) (f : ℕ → ℕ) (xs : List ℕ) : Type 0 where
  pub long : length xs ≡ n
  pub each : (k : ℕ) → k < n → get_or xs k 0 ≡ f k

-- a vector holds its own lanes
pub holds_itself : {n : ℕ} {xs : List ℕ} → length xs ≡ n → Holds n (lane xs) xs
holds_itself long = record { long = long; each = λ k low. refl }

-- one number in all lanes
pub holds_splat : {n : ℕ} (y : ℕ) → Holds n (λ k. y) (replicate n y)
holds_splat {n} y = record { long = length-replicate n y; each = λ k low. get_or-replicate n k y 0 low }

-- an operation on each lane of a vector
pub holds_map : {n : ℕ} {g : ℕ → ℕ} {xs : List ℕ} (f : ℕ → ℕ) → Holds n g xs → Holds n (λ k. f (g k)) (map f xs)
holds_map {n} {g} {xs} f of = record {
  long = length-map xs f ∙ of.long;
  each = λ k low. get_or-map f xs k 0 0 (omega (arith, of.long)) ∙ ap f (of.each k low);
}

-- an operation on the lanes of two vectors
pub holds_zip2 : {n : ℕ} {g h : ℕ → ℕ} {xs ys : List ℕ} (f : ℕ → ℕ → ℕ) → Holds n g xs → Holds n h ys → Holds n (λ k. f (g k) (h k)) (zip2 f xs ys)
holds_zip2 {n} {g} {h} {xs} {ys} f first second = record {
  long = length-zip2 f xs ys (omega (arith, first.long, second.long)) ∙ first.long;
  each = λ k low.
      get_or-zip2 f xs ys k 0 0 0 (omega (arith, first.long)) (omega (arith, second.long))
      ∙ rw (first.each k low, second.each k low) refl;
}

-- a choice in each lane, by a comparison of two vectors
pub holds_chosen : {n : ℕ} {g h u v : ℕ → ℕ} {xs ys us vs : List ℕ} (w : Width) (t : ℕ → ℕ → Bool) → Holds n g xs → Holds n h ys → Holds n u us → Holds n v vs → Holds n (λ k. cond (t (g k) (h k)) (u k) (v k)) (sel_l (map (top (hbits w)) (zip2 (λ a b. cond (t a b) (2 ^ bits w - 1) 0) xs ys)) us vs)
holds_chosen {n} {g} {h} {u} {v} {xs} {ys} {us} {vs} w t first second on off =
    let tests : length (zip2 t xs ys) ≡ n = length-zip2 t xs ys (omega (arith, first.long, second.long)) ∙ first.long in
    let long_on = on.long in
    let long_off = off.long in
    rw (tops_compared w t xs ys) (record {
      long = length-sel_l (zip2 t xs ys) us vs (omega (arith, tests, long_on)) (omega (arith, tests, long_off)) ∙ tests;
      each = λ k low.
          get_or-sel_l (zip2 t xs ys) us vs k 0 (omega (arith, tests)) (omega (arith, long_on)) (omega (arith, long_off))
          ∙ rw (get_or-zip2 t xs ys k 0 0 false (omega (arith, first.long)) (omega (arith, second.long)), first.each k low, second.each k low, on.each k low, off.each k low) refl;
    })

-- a vector holds what agrees on its lanes
pub holds_same : {n : ℕ} {f : ℕ → ℕ} {xs : List ℕ} (g : ℕ → ℕ) → Holds n f xs → ((k : ℕ) → k < n → f k ≡ g k) → Holds n g xs
holds_same g of same = record { long = of.long; each = λ k low. of.each k low ∙ same k low }

-- sixteen lanes as a value
pub holds_lanes : {f : ℕ → ℕ} {xs : List ℕ} → Holds 16 f xs → xs ≡ lanes f
holds_lanes {f} {xs} of = filled_all {f = f} {i = 16} (omega arith) (record { long = of.long; each = of.each })

-- vectors that hold the same are one
pub holds_one : {n : ℕ} {f : ℕ → ℕ} {xs ys : List ℕ} → Holds n f xs → Holds n f ys → xs ≡ ys
holds_one {n} {f} {xs} {ys} first second = ext_get_or 0 xs ys (omega (arith, first.long, second.long)) (λ k low. first.each k (omega (arith, first.long)) ∙ sym (second.each k (omega (arith, first.long))))

-- two vectors, lane by lane
pub lanes_zip2 : (f : ℕ → ℕ → ℕ) (xs ys : List ℕ) → length xs ≡ 16 → length ys ≡ 16 → zip2 f xs ys ≡ lanes (λ i. f (lane xs i) (lane ys i))
lanes_zip2 f xs ys long_x long_y = holds_lanes (holds_zip2 f (holds_itself long_x) (holds_itself long_y))

one_shift : (b : Bool) (first rest n : ℕ) → first + 2 * rest + (if b then 2 ^ suc n else 0) ≡ first + 2 * (rest + (if b then 2 ^ n else 0))
one_shift true first rest n = let e : first + 2 * rest + 2 ^ suc n ≡ first + 2 * (rest + 2 ^ n) = omega (arith, pow_more 2 n) in e
one_shift false first rest n = let e : first + 2 * rest + 0 ≡ first + 2 * (rest + 0) = omega arith in e

first_lane : (b : Bool) → 0 + (if b then 2 ^ 0 else 0) ≡ cond b 1 0 + 2 * 0
first_lane true = refl
first_lane false = refl

-- a mask from its first lane on
mask_shift : (t : ℕ → Bool) (n : ℕ) → mask_below t (suc n) ≡ cond (t 0) 1 0 + 2 * mask_below (λ i. t (suc i)) n
unfolding mask_below
mask_shift t zero = first_lane (t 0)
mask_shift t (suc n) = ap (λ m. m + (if t (suc n) then 2 ^ suc n else 0)) (mask_shift t n) ∙ one_shift (t (suc n)) (cond (t 0) 1 0) (mask_below (λ i. t (suc i)) n) n

-- the mask of a list of tests
mask_of_list : (ms : List Bool) → mask_l ms ≡ mask_below (λ i. get_or ms i false) (length ms)
unfolding mask_below
mask_of_list [] = refl
mask_of_list (m ∷ ms) = rw (mask_of_list ms, mask_shift (λ i. get_or (m ∷ ms) i false) (length ms)) refl

-- the mask of a comparison of two vectors
pub mask_zip2 : (t : ℕ → ℕ → Bool) (xs ys : List ℕ) → length xs ≡ 16 → length ys ≡ 16 → mask_l (map (top 31) (zip2 (λ a b. cond (t a b) (2 ^ 32 - 1) 0) xs ys)) % 2 ^ 64 ≡ mask (λ i. t (lane xs i) (lane ys i))
mask_zip2 t xs ys long_x long_y =
    let long : length (zip2 t xs ys) ≡ 16 = length-zip2 t xs ys (omega arith) ∙ long_x in
    ap (λ ms. mask_l ms % 2 ^ 64) (tops_compared w32 t xs ys)
    ∙ mask_l-mod (zip2 t xs ys) 64 (omega arith)
    ∙ mask_of_list (zip2 t xs ys)
    ∙ ap (mask_below (λ i. get_or (zip2 t xs ys) i false)) long
    ∙ mask_same (λ i. get_or (zip2 t xs ys) i false) (λ i. t (lane xs i) (lane ys i)) (λ k low. get_or-zip2 t xs ys k 0 0 false (omega arith) (omega arith))

-- such a mask is a number of 32 bits
pub mask_fits : (t : ℕ → ℕ → Bool) (xs ys : List ℕ) → length xs ≡ 16 → length ys ≡ 16 → Fits w32 (mask_l (map (top 31) (zip2 (λ a b. cond (t a b) (2 ^ 32 - 1) 0) xs ys)) % 2 ^ 64)
mask_fits t xs ys long_x long_y =
    let long : length (zip2 t xs ys) ≡ 16 = length-zip2 t xs ys (omega arith) ∙ long_x in
    let is = ap (λ ms. mask_l ms % 2 ^ 64) (tops_compared w32 t xs ys) ∙ mask_l-mod (zip2 t xs ys) 64 (omega arith) in
    let low : mask_l (zip2 t xs ys) < 2 ^ 16 = rw long at (mask_l-lt (zip2 t xs ys)) in
    rw is (record { fits = omega arith })

-- the mask of a comparison with one number
pub mask_splat : (t : ℕ → ℕ → Bool) (xs : List ℕ) (y : ℕ) → length xs ≡ 16 → mask_l (map (top 31) (zip2 (λ a b. cond (t a b) (2 ^ 32 - 1) 0) xs (replicate 16 y))) % 2 ^ 64 ≡ mask (λ i. t (lane xs i) y)
mask_splat t xs y long =
    mask_zip2 t xs (replicate 16 y) long refl
    ∙ mask_same (λ i. t (lane xs i) (lane (replicate 16 y) i)) (λ i. t (lane xs i) y) (λ k low. ap (t (lane xs k)) (get_or-replicate 16 k y 0 low))

-- the mask of a comparison of one number with a vector
pub mask_splat_left : (t : ℕ → ℕ → Bool) (x : ℕ) (ys : List ℕ) → length ys ≡ 16 → mask_l (map (top 31) (zip2 (λ a b. cond (t a b) (2 ^ 32 - 1) 0) (replicate 16 x) ys)) % 2 ^ 64 ≡ mask (λ i. t x (lane ys i))
mask_splat_left t x ys long =
    mask_zip2 t (replicate 16 x) ys refl long
    ∙ mask_same (λ i. t (lane (replicate 16 x) i) (lane ys i)) (λ i. t x (lane ys i)) (λ k low. ap (λ n. t n (lane ys k)) (get_or-replicate 16 k x 0 low))

-- a sum passes 32 bits where its low 32 bits are less than a part
one_carry : (a b : ℕ) → a < 2 ^ 32 → b < 2 ^ 32 → nat_lt ((a + b) % 2 ^ 32) a ≡ nat_le (2 ^ 32) (a + b)
one_carry a b low_a low_b = grind (arith, nat_tests)

-- where the sum of two vectors passes 32 bits
pub carries_of_sum : (xs ys : List ℕ) → (length xs ≡ 16) × Each1 (Fits w32) xs → (length ys ≡ 16) × Each1 (Fits w32) ys → mask (λ i. nat_lt (lane (zip2 (λ a b. (a + b) % 2 ^ 32) xs ys) i) (lane xs i)) ≡ mask (λ i. nat_le (2 ^ 32) (lane xs i + lane ys i))
carries_of_sum xs ys fits_x fits_y =
    mask_same (λ i. nat_lt (lane (zip2 (λ a b. (a + b) % 2 ^ 32) xs ys) i) (lane xs i)) (λ i. nat_le (2 ^ 32) (lane xs i + lane ys i)) (λ k low.
    let long_x = fits_x.0 in
    let long_y = fits_y.0 in
    ap (λ n. nat_lt n (lane xs k)) (get_or-zip2 (λ a b. (a + b) % 2 ^ 32) xs ys k 0 0 0 (omega (arith, long_x)) (omega (arith, long_y)))
    ∙ one_carry (lane xs k) (lane ys k)
    (Each1-get_or (Fits w32) xs k 0 (omega (arith, long_x)) fits_x.1).fits
    (Each1-get_or (Fits w32) ys k 0 (omega (arith, long_y)) fits_y.1).fits)
