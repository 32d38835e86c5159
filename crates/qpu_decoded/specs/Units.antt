-- What the units of a plain word do: both compute, and what they write goes whole to a row or
-- accumulator. This project's own.
use Rattle.std.specs.Prelude.{ℕ, ◌==◌, ◌&&◌, ◌||◌, Bool, not, nat_le, List, Option, None, if◌then◌else◌}
use Rattle.qpu_word.specs.declared.word.Fields.{Fields}
use Rattle.qpu_word.specs.declared.state.Flags.{Flags}
use Rattle.qpu_word.specs.declared.code.TheConstants.{ROTATE_BY_R5}
use Rattle.qpu_word.specs.Operations.{add_op, mul_op}
use Rattle.qpu_word.specs.Words.{fields_of, is_local, is_unit_word, is_small, is_program_end, is_tmu_load, swaps_writes, add_active, mul_active, add_writes, mul_writes}
use Rattle.qpu_word.specs.Instruction.{flags_of}
use Rattle.qpu_decoded.specs.Sources.{IsSourceThere, source_of}
use Rattle.qpu_decoded.specs.Targets.{IsTargetThere, target_of, is_whole}
use Rattle.qpu_decoded.specs.declared.units.Setter.{Setter}
use Rattle.qpu_decoded.specs.declared.units.Setter.TheVariants.{Neither, Add, Mul}
use Rattle.qpu_decoded.specs.declared.units.Units.{Units}
use Rattle.qpu_decoded.specs.declared.decoded.Deed.{Deed}
use Rattle.qpu_decoded.specs.declared.decoded.Deed.TheVariants.{Plain, Other}
use Rattle.qpu_decoded.specs.declared.decoded.Decoded.{Decoded}

-- the unit whose results set the flags
unfoldable pub setter_of : Fields → Setter
setter_of f =
    if not (f.sf == 1) then Neither
    else if add_active f then Add
    else if mul_active f then Mul
    else Neither

-- the flags after a unit's results, with the carries of the add unit
abbrev pub flags_by : Setter → Flags → List ℕ → Option ℕ → List ℕ → Flags
flags_by Neither flags add carries mul = flags
flags_by Add flags add carries mul = flags_of add carries
flags_by Mul flags add carries mul = flags_of mul None

-- what the units of a word do
unfoldable pub units_of : Fields → Units
units_of f = record {
  add = add_op f.op_add;
  add_a = source_of f f.add_a;
  add_b = source_of f f.add_b;
  add_to = target_of (add_writes f) (swaps_writes f) f.waddr_add;
  mul = mul_op f.op_mul;
  mul_a = source_of f f.mul_a;
  mul_b = source_of f f.mul_b;
  mul_to = target_of (mul_writes f) (not (swaps_writes f)) f.waddr_mul;
  sets = setter_of f;
}

-- the mul unit's result rotates
abbrev pub rotates : Fields → Bool
rotates f = is_small f && nat_le ROTATE_BY_R5 f.raddr_b

-- both units compute and write whole, and the word does nothing else: no unpacking, no rotation,
-- no program end, no look-up
unfoldable pub is_plain : Fields → Bool
is_plain f =
    is_unit_word f && not (is_program_end f) && not (is_tmu_load f 0 || is_tmu_load f 1)
    && not (rotates f) && (f.unpack == 0) && is_whole f

-- what a word does
unfoldable pub deed_of : Fields → Deed
deed_of f = if is_plain f then Plain (units_of f) else Other

-- a word decoded: its fields, whether it is local, and what it does
abbrev pub decoded_of : ℕ → Decoded
decoded_of number = record { fields = fields_of number; local = is_local (fields_of number); deed = deed_of (fields_of number) }

-- sources and targets of units are registers, or none
pub record AreThere (u : Units) : Type 0 where
  pub add_a : IsSourceThere u.add_a
  pub add_b : IsSourceThere u.add_b
  pub add_to : IsTargetThere u.add_to
  pub mul_a : IsSourceThere u.mul_a
  pub mul_b : IsSourceThere u.mul_b
  pub mul_to : IsTargetThere u.mul_to
