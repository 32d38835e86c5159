-- What a count of faults may do in a call. Counts are u64 in code and stand at their last value.
use Rattle.std.specs.Prelude.{◌≡◌, ◌⊎◌, ℕ, ◌+◌, ◌-◌, ◌^◌, ◌<◌, ◌≤◌, min}

-- a count of faults rose in a call: it is greater after the call, or stands at its last value;
-- it never falls
pub record Rose (old new : ℕ) : Type 0 where
  pub never_falls : old ≤ new
  pub rose : (old < new) ⊎ (new ≡ 2 ^ 64 - 1)

-- a count of 64 bits after one more: it stands at its last value
abbrev pub count_up : ℕ → ℕ
count_up n = min (n + 1) (2 ^ 64 - 1)
