-- What canonical words of both units keep of their fields, in tests of the fields that such words
-- have, and that a word whose fields keep it is canonical.
use Rattle.std.proofs.Common.{◌≡◌, ℕ, Bool, true, false, refl, arith}
use Rattle.std.specs.Prelude.{◌==◌, ◌||◌, ◌&&◌, not, nat_lt, nat_le, if◌then◌else◌}
use Rattle.std.proofs.lemmas.Bool.Decides.{nat_tests}
use Rattle.qpu_word.specs.declared.word.Fields.{Fields}
use Rattle.qpu_word.specs.declared.fault.WordFault.TheVariants.{Signal, FloatOp, ReservedOp, ReadAddress, WriteAddress, Packing, BranchCond, LoadKind, Rotation, SemaphoreTarget, NoSource}
use Rattle.qpu_word.specs.Words.{fields_of, has_fault, word_fault, IsInProfile, is_unit_word, is_unary, is_read_address, is_write_address, between}
use Rattle.qpu_line.specs.declared.slots.UnitFields.{UnitFields}
use Rattle.qpu_word.specs.Canonical.{IsCanonical, unit_rule, add_rule, mul_rule, operand_rule, flags_rule, exchange_rule, row_rule, small_rule, load_rule, semaphore_rule, branch_rule, file_matters}
use Rattle.qpu_line.specs.Slots.{unit_fields}
use Rattle.qpu_line.specs.Units.{any_uses}
use Rattle.qpu_line.proofs.OwnLemmas.{uses_same}

-- a unit with an operation and a condition acts
abbrev pub acts : ℕ → ℕ → Bool
acts op cond = not (op == 0) && not (cond == 0)

-- the unit of file A writes a row
abbrev pub packs : UnitFields → Bool
packs s =
    if s.ws == 1 then acts s.op_mul s.cond_mul && nat_lt s.waddr_mul 32 else acts s.op_add s.cond_add && nat_lt s.waddr_add 32

pub record IsSaid (s : UnitFields) : Type 0 where
  pub signal : (((s.sig == 1) || (s.sig == 3) || (s.sig == 10) || (s.sig == 11)) || (s.sig == 13)) ≡ true
  pub float : (between 1 s.op_add 8 || (s.op_mul == 1)) ≡ false
  pub reserved : (between 9 s.op_add 11 || between 25 s.op_add 29) ≡ false
  pub read : (not (is_read_address s.raddr_a) || (not (s.sig == 13) && not (is_read_address s.raddr_b))) ≡ false
  pub add_to : (acts s.op_add s.cond_add && not (is_write_address s.waddr_add)) ≡ false
  pub mul_to : (acts s.op_mul s.cond_mul && not (is_write_address s.waddr_mul)) ≡ false
  pub packing : ((s.pack == 8) || (not (s.pack == 0) && not (packs s))) ≡ false
  pub unpacking : (not (s.unpack == 0) && (nat_le 32 s.raddr_a || not (any_uses s 6))) ≡ false
  pub rotation : ((s.sig == 13) && nat_le 48 s.raddr_b && ((acts s.op_mul s.cond_mul && (nat_lt 3 s.mul_a || nat_lt 3 s.mul_b)) || any_uses s 7)) ≡ false
  pub source_a : (any_uses s 6 && (s.raddr_a == 39)) ≡ false
  pub source_b : (any_uses s 7 && not (s.sig == 13) && (s.raddr_b == 39)) ≡ false
  pub adds : unit_rule (acts s.op_add s.cond_add) s.op_add s.cond_add s.waddr_add s.add_a s.add_b ≡ true
  pub muls : unit_rule (acts s.op_mul s.cond_mul) s.op_mul s.cond_mul s.waddr_mul s.mul_a s.mul_b ≡ true
  pub operands : (not (acts s.op_add s.cond_add && is_unary s.op_add) || (s.add_b == s.add_a)) ≡ true
  pub flags : ((s.sf == 0) || acts s.op_add s.cond_add || acts s.op_mul s.cond_mul) ≡ true
  pub exchange : ((s.ws == 0) || (acts s.op_add s.cond_add && file_matters s.waddr_add) || (acts s.op_mul s.cond_mul && file_matters s.waddr_mul)) ≡ true
  pub row_a : (not (nat_lt s.raddr_a 32) || any_uses s 6) ≡ true
  pub row_b : ((s.sig == 13) || not (nat_lt s.raddr_b 32) || any_uses s 7) ≡ true
  pub small : (not (s.sig == 13) || (if nat_lt s.raddr_b 48 then any_uses s 7 else acts s.op_mul s.cond_mul)) ≡ true

-- a word of both units has neither the signal of load immediates nor that of branches
pub record IsUnits (f : Fields) : Type 0 where
  pub unit : is_unit_word f ≡ true
  pub no_load : (f.sig == 14) ≡ false
  pub no_branch : (f.sig == 15) ≡ false

pub units_there : (f : Fields) → is_unit_word f ≡ true → IsUnits f
units_there f unit = record { unit = unit; no_load = grind (arith, nat_tests, unit); no_branch = grind (arith, nat_tests, unit) }

-- the rules
operands_kept : (f : Fields) → IsUnits f → f.pm ≡ 0 → IsSaid (unit_fields f) → operand_rule f ≡ true
unfolding operand_rule
operands_kept f u pm s = rw (pm, u.unit) s.operands

add_kept : (f : Fields) → IsUnits f → IsSaid (unit_fields f) → add_rule f ≡ true
unfolding add_rule
add_kept f u s = rw u.unit s.adds

mul_kept : (f : Fields) → IsUnits f → IsSaid (unit_fields f) → mul_rule f ≡ true
unfolding mul_rule
mul_kept f u s = rw u.unit s.muls

flags_kept : (f : Fields) → IsUnits f → IsSaid (unit_fields f) → flags_rule f ≡ true
unfolding flags_rule
flags_kept f u s = rw u.unit s.flags

pub writes_too : (active matters somewhere : Bool) → ((active || (somewhere && (active || false || false))) && matters) ≡ (active && matters)
writes_too true matters somewhere = refl
writes_too false matters true = refl
writes_too false matters false = refl

exchange_kept : (f : Fields) → IsUnits f → IsSaid (unit_fields f) → exchange_rule f ≡ true
unfolding exchange_rule
exchange_kept f u s =
    rw (
      u.unit,
      u.no_load,
      u.no_branch,
      writes_too (acts f.op_add f.cond_add) (file_matters f.waddr_add) (not (f.waddr_add == 39)),
      writes_too (acts f.op_mul f.cond_mul) (file_matters f.waddr_mul) (not (f.waddr_mul == 39)),
    )
    s.exchange

both_true : (a b : Bool) → a ≡ true → b ≡ true → (a && b) ≡ true
both_true a b left right = rw (left, right) refl

row_kept : (f : Fields) → IsUnits f → f.pm ≡ 0 → IsSaid (unit_fields f) → row_rule f ≡ true
unfolding row_rule
row_kept f u pm s =
    rw (uses_same f 6 u.unit (operands_kept f u pm s), uses_same f 7 u.unit (operands_kept f u pm s))
    (rw u.unit (both_true _ _ s.row_a s.row_b))

small_kept : (f : Fields) → IsUnits f → f.pm ≡ 0 → IsSaid (unit_fields f) → small_rule f ≡ true
unfolding small_rule
small_kept f u pm s = rw (uses_same f 7 u.unit (operands_kept f u pm s)) (rw u.unit s.small)

load_kept : (f : Fields) → IsUnits f → load_rule f ≡ true
unfolding load_rule
load_kept f u = rw u.no_load refl

semaphore_kept : (f : Fields) → IsUnits f → semaphore_rule f ≡ true
unfolding semaphore_rule
semaphore_kept f u = rw u.no_load refl

branch_kept : (f : Fields) → IsUnits f → branch_rule f ≡ true
unfolding branch_rule
branch_kept f u = rw u.no_branch refl

-- the profile
no_signal : (f : Fields) → IsUnits f → has_fault f Signal ≡ false
unfolding has_fault
no_signal f u = rw u.unit refl

no_float : (f : Fields) → IsUnits f → IsSaid (unit_fields f) → has_fault f FloatOp ≡ false
unfolding has_fault
no_float f u s = rw u.unit s.float

no_reserved : (f : Fields) → IsUnits f → IsSaid (unit_fields f) → has_fault f ReservedOp ≡ false
unfolding has_fault
no_reserved f u s = rw u.unit s.reserved

no_read : (f : Fields) → IsUnits f → IsSaid (unit_fields f) → has_fault f ReadAddress ≡ false
unfolding has_fault
no_read f u s = rw u.unit s.read

write_by : (add mul named_add named_mul named : Bool) → (add && not named_add) ≡ false → (mul && not named_mul) ≡ false
    → (((add || (false && false)) && not named_add) || ((mul || (false && false)) && not named_mul) || (false && named)) ≡ false
write_by true true named_add named_mul named a m = rw (a, m) refl
write_by true false named_add named_mul named a m = rw a refl
write_by false true named_add named_mul named a m = rw m refl
write_by false false named_add named_mul named a m = refl

no_write : (f : Fields) → IsUnits f → IsSaid (unit_fields f) → has_fault f WriteAddress ≡ false
unfolding has_fault
no_write f u s =
    rw (u.unit, u.no_load, u.no_branch)
    (write_by (acts f.op_add f.cond_add) (acts f.op_mul f.cond_mul) (is_write_address f.waddr_add) (is_write_address f.waddr_mul) true s.add_to s.mul_to)

packing_by : (eighth packed unpacked : Bool) → (eighth || packed) ≡ false → unpacked ≡ false → (eighth || packed || unpacked || false) ≡ false
packing_by true packed unpacked a b = a
packing_by false true unpacked a b = a
packing_by false false unpacked a b = rw b refl

no_packing : (f : Fields) → IsUnits f → f.pm ≡ 0 → IsSaid (unit_fields f) → has_fault f Packing ≡ false
unfolding has_fault
no_packing f u pm s =
    rw (uses_same f 6 u.unit (operands_kept f u pm s))
    (rw (u.unit, pm, u.no_load) (packing_by (f.pack == 8) (not (f.pack == 0) && not (packs (unit_fields f))) (not (f.unpack == 0) && (nat_le 32 f.raddr_a || not (any_uses (unit_fields f) 6))) s.packing s.unpacking))

no_branch_cond : (f : Fields) → IsUnits f → has_fault f BranchCond ≡ false
unfolding has_fault
no_branch_cond f u = rw u.no_branch refl

no_load_kind : (f : Fields) → IsUnits f → has_fault f LoadKind ≡ false
unfolding has_fault
no_load_kind f u = rw u.no_load refl

no_rotation : (f : Fields) → IsUnits f → f.pm ≡ 0 → IsSaid (unit_fields f) → has_fault f Rotation ≡ false
unfolding has_fault
no_rotation f u pm s = rw (uses_same f 7 u.unit (operands_kept f u pm s)) (rw u.unit s.rotation)

no_target : (f : Fields) → IsUnits f → has_fault f SemaphoreTarget ≡ false
unfolding has_fault
no_target f u = rw u.no_load refl

both_false : (a b : Bool) → a ≡ false → b ≡ false → (a || b) ≡ false
both_false a b left right = rw (left, right) refl

no_lost_source : (f : Fields) → IsUnits f → f.pm ≡ 0 → IsSaid (unit_fields f) → has_fault f NoSource ≡ false
unfolding has_fault
no_lost_source f u pm s =
    rw (uses_same f 6 u.unit (operands_kept f u pm s), uses_same f 7 u.unit (operands_kept f u pm s))
    (both_false _ _ s.source_a s.source_b)

none_found : (w : ℕ) → IsUnits (fields_of w) → (fields_of w).pm ≡ 0 → IsSaid (unit_fields (fields_of w)) → IsInProfile w
unfolding word_fault
none_found w u pm s =
    rw (
      no_signal (fields_of w) u,
      no_float (fields_of w) u s,
      no_reserved (fields_of w) u s,
      no_read (fields_of w) u s,
      no_write (fields_of w) u s,
      no_packing (fields_of w) u pm s,
      no_branch_cond (fields_of w) u,
      no_load_kind (fields_of w) u,
      no_rotation (fields_of w) u pm s,
      no_target (fields_of w) u,
      no_lost_source (fields_of w) u pm s,
    )
    refl

-- a word whose fields keep all this is canonical
pub canonical_of_said : (w : ℕ) → (fields_of w).pm ≡ 0 → IsUnits (fields_of w) → IsSaid (unit_fields (fields_of w)) → IsCanonical w
canonical_of_said w pm u s = record {
  inside = none_found w u pm s;
  adds = add_kept (fields_of w) u s;
  muls = mul_kept (fields_of w) u s;
  operands = operands_kept (fields_of w) u pm s;
  flags = flags_kept (fields_of w) u s;
  exchange = exchange_kept (fields_of w) u s;
  rows = row_kept (fields_of w) u pm s;
  small = small_kept (fields_of w) u pm s;
  loads = load_kept (fields_of w) u;
  semaphores = semaphore_kept (fields_of w) u;
  branches = branch_kept (fields_of w) u;
}
