-- VideoCore IV 3D Architecture Reference Guide, "QPU Register Address Map": which write addresses
-- say something else in file A than in file B. That a target names its file only there is this
-- project's own.
use Rattle.std.specs.Prelude.{ℕ, ◌||◌, Bool, true, false, nat_lt, if◌then◌else◌}
use Rattle.qpu_word.specs.declared.name.Place.{Place}
use Rattle.qpu_word.specs.declared.name.Place.TheVariants.{Both, FileA, FileB}
use Rattle.qpu_word.specs.declared.code.TheConstants.{ROWS}
use Rattle.qpu_word.specs.Canonical.{file_matters}

-- the target of a write address of file A or B
unfoldable pub target_at_address : Bool → ℕ → Place
target_at_address in_b a = if file_matters a then (if in_b then FileB a else FileA a) else Both a

-- the write address of a target
abbrev pub address_of : Place → ℕ
address_of (Both a) = a
address_of (FileA a) = a
address_of (FileB a) = a

-- a target of file A alone
abbrev pub in_file_a : Place → Bool
in_file_a (Both a) = false
in_file_a (FileA a) = true
in_file_a (FileB a) = false

-- a target of file B alone
abbrev pub in_file_b : Place → Bool
in_file_b (Both a) = false
in_file_b (FileA a) = false
in_file_b (FileB a) = true

-- a row of file A
abbrev pub is_row_a : Place → Bool
is_row_a (Both a) = false
is_row_a (FileA a) = nat_lt a ROWS
is_row_a (FileB a) = false

-- 1 where the add unit's target is of file B or the mul unit's of file A, so that the units' files
-- are exchanged
abbrev pub exchange_of : Place → Place → ℕ
exchange_of add mul = if in_file_b add || in_file_a mul then 1 else 0
