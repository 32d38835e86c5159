-- The sixteen lanes of a value as a list, and masks of lanes. This project's own.
use Rattle.std.specs.Prelude.{◌≡◌, ◌<◌, ℕ, zero, suc, ◌+◌, ◌/◌, ◌%◌, ◌^◌, ◌==◌, Bool, List, map, slice_index, if◌then◌else◌}
use Rattle.std.specs.List.{range_with_len}

-- the sixteen values of a function of the lane
unfoldable pub lanes : (ℕ → ℕ) → List ℕ
lanes f = map f (range_with_len 0 16)

-- the value of one lane
abbrev pub lane : List ℕ → ℕ → ℕ
lane values i = slice_index values i

-- the lanes below n in which a test holds, lane i at bit i
unfoldable pub mask_below : (ℕ → Bool) → ℕ → ℕ
mask_below test zero = 0
mask_below test (suc n) = mask_below test n + (if test n then 2 ^ n else 0)

-- the lanes in which a test holds, lane i at bit i
abbrev pub mask : (ℕ → Bool) → ℕ
mask test = mask_below test 16

-- whether a lane stands in a mask
abbrev pub in_mask : ℕ → ℕ → Bool
in_mask m i = m / 2 ^ i % 2 == 1

-- sixteen lanes are those of a function
pub record Gives (values : List ℕ) (f : ℕ → ℕ) : Type 0 where
  pub at : (i : ℕ) → i < 16 → lane values i ≡ f i
