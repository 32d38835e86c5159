-- VideoCore IV 3D Architecture Reference Guide, "QPU Instruction Encoding" (conditions, set
-- flags): tests of flags. That an undefined mask tests as 0 is this project's own.
use Rattle.std.specs.Prelude.{ℕ, ◌-◌, ◌^◌, ◌==◌, Bool, true, false, not, Option, Some, None, nat_lt, if◌then◌else◌}
use Rattle.qpu_word.specs.declared.state.Flags.{Flags}
use Rattle.qpu_word.specs.Lanes.{in_mask}

-- the mask Z, 0 where it is undefined
abbrev pub z_of : Option (ℕ × ℕ) → ℕ
z_of None = 0
z_of (Some zn) = zn.0

-- the mask N, 0 where it is undefined
abbrev pub n_of : Option (ℕ × ℕ) → ℕ
n_of None = 0
n_of (Some zn) = zn.1

-- the mask C, 0 where it is undefined
abbrev pub c_of : Option ℕ → ℕ
c_of None = 0
c_of (Some c) = c

-- whether a write condition holds in a lane
unfoldable pub lane_test : ℕ → Flags → ℕ → Bool
lane_test cond flags i =
    if cond == 0 then false
    else if cond == 1 then true
    else if cond == 2 then in_mask (z_of flags.zn) i
    else if cond == 3 then not (in_mask (z_of flags.zn) i)
    else if cond == 4 then in_mask (n_of flags.zn) i
    else if cond == 5 then not (in_mask (n_of flags.zn) i)
    else if cond == 6 then in_mask (c_of flags.c) i
    else not (in_mask (c_of flags.c) i)

-- a test of a whole mask: all set, all clear, any set, any clear
abbrev pub mask_test : ℕ → ℕ → Bool
mask_test which m =
    if which == 0 then m == 2 ^ 16 - 1
    else if which == 1 then m == 0
    else if which == 2 then not (m == 0)
    else not (m == 2 ^ 16 - 1)

-- whether a branch condition holds: four tests each of Z, N and C, and always
unfoldable pub branch_test : ℕ → Flags → Bool
branch_test cond flags =
    if nat_lt cond 4 then mask_test cond (z_of flags.zn)
    else if nat_lt cond 8 then mask_test (cond - 4) (n_of flags.zn)
    else if nat_lt cond 12 then mask_test (cond - 8) (c_of flags.c)
    else cond == 15
