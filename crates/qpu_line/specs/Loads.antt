-- VideoCore IV 3D Architecture Reference Guide, "QPU Instruction Encoding": load immediates.
use Rattle.std.specs.Prelude.{ℕ, ◌+◌, ◌*◌, ◌%◌, ◌^◌, ◌==◌, ◌||◌, Bool, not, Option, Some, None, if◌then◌else◌}
use Rattle.qpu_word.specs.declared.word.Fields.{Fields}
use Rattle.qpu_word.specs.declared.name.Place.{Place}
use Rattle.qpu_word.specs.declared.name.Place.TheVariants.{Both}
use Rattle.qpu_word.specs.declared.code.TheConstants.{SIGNAL_LOAD_IMMEDIATE, KIND_LOAD, KIND_LOAD_SIGNED, KIND_LOAD_UNSIGNED, NOWHERE}
use Rattle.qpu_line.specs.declared.load.Load.{Load}
use Rattle.qpu_line.specs.declared.load.LoadKind.{LoadKind}
use Rattle.qpu_line.specs.declared.load.LoadKind.TheVariants.{Whole, Signed, Unsigned}
use Rattle.qpu_line.specs.declared.load.Write.{Write}
use Rattle.qpu_line.specs.Targets.{target_at_address, address_of, exchange_of}

-- the kinds of loads and their codes
abbrev pub kind_of : ℕ → LoadKind
kind_of n = if n == KIND_LOAD then Whole else if n == KIND_LOAD_SIGNED then Signed else Unsigned

abbrev pub kind_code : LoadKind → ℕ
kind_code Whole = KIND_LOAD
kind_code Signed = KIND_LOAD_SIGNED
kind_code Unsigned = KIND_LOAD_UNSIGNED

-- a unit writes where its condition isn't never and its address isn't 39
abbrev pub write_of : ℕ → Bool → ℕ → Option Write
write_of cond in_b address =
    if (cond == 0) || (address == NOWHERE) then None else Some (record { cond = cond; to = target_at_address in_b address })

-- the load immediate of a word's fields
abbrev pub load_of : Fields → Load
load_of f = record {
  kind = kind_of f.kind;
  sets = (f.sf == 1);
  add = write_of f.cond_add (f.ws == 1) f.waddr_add;
  mul = write_of f.cond_mul (not (f.ws == 1)) f.waddr_mul;
  immediate = f.immediate;
}

-- the condition and the target of a unit that writes or doesn't
abbrev pub write_cond : Option Write → ℕ
write_cond None = 0
write_cond (Some w) = w.cond

abbrev pub write_target : Option Write → Place
write_target None = Both NOWHERE
write_target (Some w) = w.to

-- the upper half of a load's word; of each number as many low bits count as its field has
abbrev pub load_high : Load → ℕ
load_high l =
    SIGNAL_LOAD_IMMEDIATE * 2 ^ 28
    + kind_code l.kind * 2 ^ 25
    + write_cond l.add % 8 * 2 ^ 17
    + write_cond l.mul % 8 * 2 ^ 14
    + (if l.sets then 1 else 0) * 2 ^ 13
    + exchange_of (write_target l.add) (write_target l.mul) * 2 ^ 12
    + address_of (write_target l.add) % 64 * 2 ^ 6
    + address_of (write_target l.mul) % 64

-- the canonical word of a load immediate
abbrev pub load_word : Load → ℕ
load_word l = load_high l * 2 ^ 32 + l.immediate
