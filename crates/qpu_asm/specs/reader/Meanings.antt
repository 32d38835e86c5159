-- The instruction that a line's parts are, where no fault is found in them. What isn't a place, operand or
-- number then doesn't matter; it stands for `-`, r0 or 0. This project's own.
use Rattle.std.specs.Prelude.{ℕ, ◌+◌, ◌%◌, ◌||◌, Bool, true, false, List, [], ◌∷◌, Option, Some, None, is_some, unwrap_or, if◌then◌else◌}
use Rattle.std.specs.Option.{option_or}
use Rattle.qpu_word.specs.declared.name.Place.{Place}
use Rattle.qpu_word.specs.declared.name.Place.TheVariants as place
use Rattle.qpu_word.specs.declared.code.TheConstants.{NOWHERE, ROTATE_BY_R5}
use Rattle.qpu_line.specs.declared.operand.Operand.{Operand}
use Rattle.qpu_line.specs.declared.operand.Operand.TheVariants as operand
use Rattle.qpu_line.specs.declared.part.Part.{Part as UnitDoes}
use Rattle.qpu_line.specs.declared.units.Signal.{Signal}
use Rattle.qpu_line.specs.declared.units.Signal.TheVariants as signal
use Rattle.qpu_line.specs.declared.units.Units.{Units}
use Rattle.qpu_line.specs.declared.load.Load.{Load}
use Rattle.qpu_line.specs.declared.load.Write.{Write}
use Rattle.qpu_line.specs.declared.semaphore.Semaphore.{Semaphore}
use Rattle.qpu_line.specs.declared.branch.Branch.{Branch}
use Rattle.qpu_line.specs.declared.instruction.Instruction.{Instruction}
use Rattle.qpu_line.specs.declared.instruction.Instruction.TheVariants as instruction
use Rattle.qpu_line.specs.declared.name.Name.{Name}
use Rattle.qpu_line.specs.declared.name.Name.TheVariants as name
use Rattle.qpu_line.specs.declared.name.Register.TheVariants as register
use Rattle.qpu_asm.specs.declared.piece.Core.{Core}
use Rattle.qpu_asm.specs.declared.piece.Core.TheVariants as core
use Rattle.qpu_asm.specs.declared.piece.Suffix.{Suffix}
use Rattle.qpu_asm.specs.declared.piece.Piece.{Piece}
use Rattle.qpu_asm.specs.declared.part.Suffixes.{Suffixes}
use Rattle.qpu_asm.specs.declared.part.UnitPart.{UnitPart}
use Rattle.qpu_asm.specs.declared.part.LoadPart.{LoadPart}
use Rattle.qpu_asm.specs.declared.part.BranchPart.{BranchPart}
use Rattle.qpu_asm.specs.declared.part.Part.{Part}
use Rattle.qpu_asm.specs.declared.part.Part.TheVariants as part
use Rattle.qpu_asm.specs.Roles.{op_in_add, op_in_mul, pack_of}
use Rattle.qpu_asm.specs.SpelledPieces.{is_nowhere, way}
use Rattle.qpu_asm.specs.Roles.{code_of, unpack_name, is_set_flags}
use Rattle.qpu_asm.specs.reader.Marks.{target_place, source_in, is_r5}

-- suffixes

abbrev pub condition_of : Option Name → Option ℕ
condition_of (Some (name.Condition n)) = Some n
condition_of _ = None

abbrev pub condition_in : Option Suffix → ℕ
condition_in None = 1
condition_in (Some s) = unwrap_or (condition_of s.name) 1

abbrev pub branch_condition_of : Option Name → Option ℕ
branch_condition_of (Some (name.BranchCondition n)) = Some n
branch_condition_of _ = None

-- a branch without a condition is always taken
abbrev pub branch_condition_in : Option Suffix → ℕ
branch_condition_in None = 15
branch_condition_in (Some s) = unwrap_or (branch_condition_of s.name) 15

abbrev pub sets_flags : Option Suffix → Bool
sets_flags None = false
sets_flags (Some s) = is_set_flags s.name

abbrev pub sets_in : Suffixes → Bool
sets_in s = sets_flags s.first || sets_flags s.second

abbrev pub pack_name : Option Name → Option ℕ
pack_name None = None
pack_name (Some n) = pack_of n

abbrev pub pack_in : Option Suffix → ℕ
pack_in None = 0
pack_in (Some s) = unwrap_or (pack_name s.name) 0

abbrev pub unpack_in : Option Suffix → ℕ
unpack_in None = 0
unpack_in (Some s) = unwrap_or (unpack_name s.name) 0

-- pieces

abbrev pub nowhere_place : Place
nowhere_place = place.Both NOWHERE

abbrev pub place_of : Core → Place
place_of c = unwrap_or (target_place c) nowhere_place

abbrev pub number_of : Core → ℕ
number_of (core.Number n) = n
number_of _ = 0

abbrev pub with_unpack : ℕ → Operand → Operand
with_unpack unpack (operand.FileA n u) = operand.FileA n unpack
with_unpack unpack o = o

abbrev pub operand_of_core : Core → Operand
operand_of_core (core.Number n) = operand.Small (unwrap_or (code_of n) 0)
operand_of_core c = unwrap_or (source_in c) (operand.Accumulator 0)

abbrev pub operand_of : Piece → Operand
operand_of p = with_unpack (unpack_in p.suffix) (operand_of_core p.core)

-- units

-- a condition at `-` is dropped
abbrev pub condition_at : Place → Option Suffix → ℕ
condition_at to s = if is_nowhere to then 1 else condition_in s

unfoldable pub unit_of : ℕ → UnitPart → UnitDoes
unit_of op u = record {
  op = op;
  cond = condition_at (place_of u.to.core) u.suffixes.first;
  to = place_of u.to.core;
  pack = pack_in u.to.suffix;
  a = operand_of u.a;
  b = operand_of u.b;
}

-- the unit's part among a line's first two
abbrev pub unit_in : Part → Option UnitPart
unit_in (part.Unit u) = Some u
unit_in _ = None

abbrev pub mul_in : List Part → Option UnitPart
mul_in [] = None
mul_in (p ∷ later) = unit_in p

abbrev pub unit_does : (Name → Option ℕ) → Option UnitPart → Option UnitDoes
unit_does op_in None = None
unit_does op_in (Some u) = Some (unit_of (unwrap_or (op_in u.op) 0) u)

abbrev pub unit_sets : Option UnitPart → Bool
unit_sets None = false
unit_sets (Some u) = sets_in u.suffixes

-- the code of a rotation
abbrev pub rotation_of : Core → ℕ
rotation_of c = if is_r5 c then ROTATE_BY_R5 else ROTATE_BY_R5 + number_of c % 16

abbrev pub signal_part : Part → Option Signal
signal_part (part.Signal s token) = Some s
signal_part (part.Rotate token by) = Some (signal.Rotate (rotation_of by.core))
signal_part _ = None

abbrev pub signal_in : List Part → Signal
signal_in [] = signal.Nothing
signal_in (p ∷ later) = unwrap_or (signal_part p) (signal_in later)

-- an operand names a read address of its own file already
abbrev pub address_a : Operand → Option ℕ
address_a (operand.FileA n unpack) = Some n
address_a _ = None

abbrev pub address_b : Operand → Option ℕ
address_b (operand.FileB n) = Some n
address_b _ = None

abbrev pub reads_by : (Operand → Option ℕ) → Option UnitDoes → Bool
reads_by address None = false
reads_by address (Some u) = is_some (address u.a) || is_some (address u.b)

abbrev pub address_of_source : (Operand → Option ℕ) → Option Operand → Option ℕ
address_of_source address None = None
address_of_source address (Some o) = address o

abbrev pub other_a_part : Part → Option ℕ
other_a_part (part.ReadA p) = address_of_source address_a (source_in p.core)
other_a_part _ = None

abbrev pub other_b_part : Part → Option ℕ
other_b_part (part.ReadB p) = address_of_source address_b (source_in p.core)
other_b_part _ = None

-- the first that a part tells
abbrev pub first_told : (Part → Option ℕ) → List Part → Option ℕ
first_told told [] = None
first_told told (p ∷ later) = option_or (told p) (first_told told later)

-- a read that an operand makes already isn't another
abbrev pub unless : Bool → Option ℕ → Option ℕ
unless named other = if named then None else other

unfoldable pub units_of_parts : Option UnitPart → List Part → Units
units_of_parts first later =
    let add = unit_does op_in_add first in
    let mul = unit_does op_in_mul (mul_in later) in
    record {
      add = add;
      mul = mul;
      sets = unit_sets first || unit_sets (mul_in later);
      signal = signal_in later;
      other_a = unless (reads_by address_a add || reads_by address_a mul) (first_told other_a_part later);
      other_b = unless (reads_by address_b add || reads_by address_b mul) (first_told other_b_part later);
    }

-- loads

abbrev pub write_in : Place → Option Suffix → Option Write
write_in to s = if is_nowhere to then None else Some (record { cond = condition_in s; to = to })

abbrev pub also_in : List Part → Option Write
also_in [] = None
also_in (part.Also a ∷ later) = write_in (place_of a.to.core) a.suffix
also_in (p ∷ later) = also_in later

unfoldable pub load_of_part : LoadPart → List Part → Load
load_of_part l later = record {
  kind = l.kind;
  sets = sets_in l.suffixes;
  add = write_in (place_of l.to.core) l.suffixes.first;
  mul = also_in later;
  immediate = number_of l.value.core;
}

-- branches

-- the immediate of a branch at a place
abbrev pub distance : Bool → ℕ → Core → ℕ
distance relative at (core.Number n) = n
distance relative at (core.Label (Some word)) = way relative at word
distance relative at _ = 0

abbrev pub target_row : Core → Option ℕ
target_row (core.Name (name.Register (register.RowA n))) = Some n
target_row _ = None

abbrev pub row_part : Part → Option ℕ
row_part (part.Row p) = target_row p.core
row_part _ = None

abbrev pub link_in : List Part → Place
link_in [] = nowhere_place
link_in (part.Link p ∷ later) = place_of p.core
link_in (p ∷ later) = link_in later

unfoldable pub branch_of_part : ℕ → BranchPart → List Part → Branch
branch_of_part at b later = record {
  cond = branch_condition_in b.suffix;
  relative = b.relative;
  register = option_or (target_row b.target.core) (first_told row_part later);
  add = place_of b.to.core;
  mul = link_in later;
  immediate = distance b.relative at b.target.core;
}

-- the whole

abbrev pub step : Bool → Piece → Semaphore
step down p = record { down = down; number = number_of p.core }

-- the instruction of a line's parts at a place of the program
unfoldable pub meaning : ℕ → Part → List Part → Instruction
meaning at part.Nop later = instruction.Both (units_of_parts None later)
meaning at (part.Unit u) later = instruction.Both (units_of_parts (Some u) later)
meaning at (part.Load l) later = instruction.Load (load_of_part l later)
meaning at (part.Increment p) later = instruction.Semaphore (step false p)
meaning at (part.Decrement p) later = instruction.Semaphore (step true p)
meaning at (part.Branch b) later = instruction.Branch (branch_of_part at b later)
meaning at _ later = instruction.Both (units_of_parts None later)
