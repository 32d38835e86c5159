-- A canonical word of both units keeps all tests of its fields.
use Rattle.std.proofs.Common.{◌≡◌, ℕ, Bool, true, false, refl, arith}
use Rattle.std.specs.Prelude.{◌==◌, ◌||◌, ◌&&◌, not, nat_lt, nat_le, if◌then◌else◌}
use Rattle.qpu_word.specs.declared.word.Fields.{Fields}
use Rattle.qpu_word.specs.declared.fault.WordFault.TheVariants.{Signal, FloatOp, ReservedOp, ReadAddress, WriteAddress, Rotation, NoSource}
use Rattle.qpu_word.specs.Words.{fields_of, has_fault, all_faults, word_fault, IsInProfile, is_unit_word, is_unary, is_read_address, is_write_address, between, bad_packing}
use Rattle.qpu_word.proofs.ProfileLemmas.{every_row, field_below}
use Rattle.qpu_word.specs.Canonical.{IsCanonical, unit_rule, add_rule, mul_rule, operand_rule, flags_rule, exchange_rule, row_rule, small_rule, file_matters}
use Rattle.qpu_line.specs.Slots.{unit_fields}
use Rattle.qpu_line.specs.Units.{any_uses}
use Rattle.qpu_line.proofs.FormLemmas.{plain}
use Rattle.qpu_line.proofs.OwnLemmas.{uses_same, unary_twice, no_bad_packing}
use Rattle.qpu_line.proofs.WordLaw.{no_pm}
use Rattle.qpu_line.proofs.BothLaw.{IsWhole}
use Rattle.qpu_line.proofs.SaidLemmas.{acts, packs, IsUnits, units_there, writes_too, IsSaid}

-- tests that hold or fail together
record BothFail (a b : Bool) : Type 0 where
  one : a ≡ false
  two : b ≡ false

both_fail : (a b : Bool) → (a || b) ≡ false → BothFail a b
both_fail true b none = absurd (grind (arith, none))
both_fail false b none = record { one = refl; two = none }

record BothHold (a b : Bool) : Type 0 where
  one : a ≡ true
  two : b ≡ true

both_hold : (a b : Bool) → (a && b) ≡ true → BothHold a b
both_hold true b all = record { one = refl; two = all }
both_hold false b all = absurd (grind (arith, all))

-- operations and addresses
float_of : (f : Fields) → IsUnits f → has_fault f FloatOp ≡ false → (between 1 f.op_add 8 || (f.op_mul == 1)) ≡ false
unfolding has_fault
float_of f u none = rw u.unit at none

reserved_of : (f : Fields) → IsUnits f → has_fault f ReservedOp ≡ false → (between 9 f.op_add 11 || between 25 f.op_add 29) ≡ false
unfolding has_fault
reserved_of f u none = rw u.unit at none

read_of : (f : Fields) → IsUnits f → has_fault f ReadAddress ≡ false → (not (is_read_address f.raddr_a) || (not (f.sig == 13) && not (is_read_address f.raddr_b))) ≡ false
unfolding has_fault
read_of f u none = rw u.unit at none

write_by : (add mul named_add named_mul : Bool) → (((add || false) && not named_add) || ((mul || false) && not named_mul) || false) ≡ false → BothFail (add && not named_add) (mul && not named_mul)
write_by true true named_add named_mul none = let n : BothFail (not named_add || not named_mul) false = both_fail _ _ none in both_fail (not named_add) (not named_mul) n.one
write_by true false named_add named_mul none = let n : BothFail (not named_add || false) false = both_fail _ _ none in both_fail (not named_add) false n.one
write_by false true named_add named_mul none = let n : BothFail (not named_mul) false = both_fail _ _ none in record { one = refl; two = n.one }
write_by false false named_add named_mul none = record { one = refl; two = refl }

write_of : (f : Fields) → IsUnits f → has_fault f WriteAddress ≡ false
    → BothFail (acts f.op_add f.cond_add && not (is_write_address f.waddr_add)) (acts f.op_mul f.cond_mul && not (is_write_address f.waddr_mul))
unfolding has_fault
write_of f u none =
    write_by (acts f.op_add f.cond_add) (acts f.op_mul f.cond_mul) (is_write_address f.waddr_add) (is_write_address f.waddr_mul) (rw (u.unit, u.no_load, u.no_branch) at none)

-- packing
packing_of : (f : Fields) → IsUnits f → f.pm ≡ 0 → operand_rule f ≡ true → bad_packing f ≡ false
    → BothFail ((f.pack == 8) || (not (f.pack == 0) && not (packs (unit_fields f)))) (not (f.unpack == 0) && (nat_le 32 f.raddr_a || not (any_uses (unit_fields f) 6)))
packing_of f u pm rule none =
    let first = rw (uses_same f 6 u.unit rule) at none in
    both_fail _ _ (rw (u.unit, pm) at first)

-- rotations and sources
rotation_of : (f : Fields) → IsUnits f → operand_rule f ≡ true → has_fault f Rotation ≡ false
    → ((f.sig == 13) && nat_le 48 f.raddr_b && ((acts f.op_mul f.cond_mul && (nat_lt 3 f.mul_a || nat_lt 3 f.mul_b)) || any_uses (unit_fields f) 7)) ≡ false
unfolding has_fault
rotation_of f u rule none = let first = rw (uses_same f 7 u.unit rule) at none in rw u.unit at first

source_of : (f : Fields) → IsUnits f → operand_rule f ≡ true → has_fault f NoSource ≡ false
    → BothFail (any_uses (unit_fields f) 6 && (f.raddr_a == 39)) (any_uses (unit_fields f) 7 && not (f.sig == 13) && (f.raddr_b == 39))
unfolding has_fault
source_of f u rule none = both_fail _ _ (rw (uses_same f 6 u.unit rule, uses_same f 7 u.unit rule) at none)

-- the rules
adds_of : (f : Fields) → IsUnits f → add_rule f ≡ true → unit_rule (acts f.op_add f.cond_add) f.op_add f.cond_add f.waddr_add f.add_a f.add_b ≡ true
unfolding add_rule
adds_of f u rule = rw u.unit at rule

muls_of : (f : Fields) → IsUnits f → mul_rule f ≡ true → unit_rule (acts f.op_mul f.cond_mul) f.op_mul f.cond_mul f.waddr_mul f.mul_a f.mul_b ≡ true
unfolding mul_rule
muls_of f u rule = rw u.unit at rule

operands_of : (f : Fields) → IsUnits f → operand_rule f ≡ true → (not (acts f.op_add f.cond_add && is_unary f.op_add) || (f.add_b == f.add_a)) ≡ true
operands_of f u rule = let twice = unary_twice f rule in rw u.unit at twice

flags_of : (f : Fields) → IsUnits f → flags_rule f ≡ true → ((f.sf == 0) || acts f.op_add f.cond_add || acts f.op_mul f.cond_mul) ≡ true
unfolding flags_rule
flags_of f u rule = rw u.unit at rule

exchange_of : (f : Fields) → IsUnits f → exchange_rule f ≡ true
    → ((f.ws == 0) || (acts f.op_add f.cond_add && file_matters f.waddr_add) || (acts f.op_mul f.cond_mul && file_matters f.waddr_mul)) ≡ true
unfolding exchange_rule
exchange_of f u rule =
    rw (
      u.unit,
      u.no_load,
      u.no_branch,
      writes_too (acts f.op_add f.cond_add) (file_matters f.waddr_add) (not (f.waddr_add == 39)),
      writes_too (acts f.op_mul f.cond_mul) (file_matters f.waddr_mul) (not (f.waddr_mul == 39)),
    ) at
    rule

rows_of : (f : Fields) → IsUnits f → operand_rule f ≡ true → row_rule f ≡ true
    → BothHold (not (nat_lt f.raddr_a 32) || any_uses (unit_fields f) 6) ((f.sig == 13) || not (nat_lt f.raddr_b 32) || any_uses (unit_fields f) 7)
unfolding row_rule
rows_of f u rule rows =
    let first = rw (uses_same f 6 u.unit rule, uses_same f 7 u.unit rule) at rows in
    both_hold _ _ (rw u.unit at first)

small_of : (f : Fields) → IsUnits f → operand_rule f ≡ true → small_rule f ≡ true
    → (not (f.sig == 13) || (if nat_lt f.raddr_b 48 then any_uses (unit_fields f) 7 else acts f.op_mul f.cond_mul)) ≡ true
unfolding small_rule
small_of f u rule small = let first = rw (uses_same f 7 u.unit rule) at small in rw u.unit at first

-- rows of the table of faults that don't hold
record IsClean (f : Fields) : Type 0 where
  float : has_fault f FloatOp ≡ false
  reserved : has_fault f ReservedOp ≡ false
  read : has_fault f ReadAddress ≡ false
  write : has_fault f WriteAddress ≡ false
  rotation : has_fault f Rotation ≡ false
  source : has_fault f NoSource ≡ false

clean : (w : ℕ) → IsInProfile w → IsClean (fields_of w)
unfolding word_fault
clean w inside = record {
  float = every_row (has_fault (fields_of w)) all_faults inside 1 Signal (omega arith);
  reserved = every_row (has_fault (fields_of w)) all_faults inside 2 Signal (omega arith);
  read = every_row (has_fault (fields_of w)) all_faults inside 3 Signal (omega arith);
  write = every_row (has_fault (fields_of w)) all_faults inside 4 Signal (omega arith);
  rotation = every_row (has_fault (fields_of w)) all_faults inside 8 Signal (omega arith);
  source = every_row (has_fault (fields_of w)) all_faults inside 10 Signal (omega arith);
}

said_by : (f : Fields) → IsUnits f → f.pm ≡ 0 → IsClean f → bad_packing f ≡ false → operand_rule f ≡ true → add_rule f ≡ true → mul_rule f ≡ true → flags_rule f ≡ true → exchange_rule f ≡ true
    → row_rule f ≡ true → small_rule f ≡ true → IsSaid (unit_fields f)
said_by f u pm c packing rule adds muls flags exchange rows small =
    let written : BothFail (acts f.op_add f.cond_add && not (is_write_address f.waddr_add)) (acts f.op_mul f.cond_mul && not (is_write_address f.waddr_mul)) = write_of f u c.write in
    let packed : BothFail ((f.pack == 8) || (not (f.pack == 0) && not (packs (unit_fields f)))) (not (f.unpack == 0) && (nat_le 32 f.raddr_a || not (any_uses (unit_fields f) 6))) =
    packing_of f u pm rule packing in
    let sources : BothFail (any_uses (unit_fields f) 6 && (f.raddr_a == 39)) (any_uses (unit_fields f) 7 && not (f.sig == 13) && (f.raddr_b == 39)) = source_of f u rule c.source in
    let named : BothHold (not (nat_lt f.raddr_a 32) || any_uses (unit_fields f) 6) ((f.sig == 13) || not (nat_lt f.raddr_b 32) || any_uses (unit_fields f) 7) = rows_of f u rule rows in
    record {
      signal = u.unit;
      float = float_of f u c.float;
      reserved = reserved_of f u c.reserved;
      read = read_of f u c.read;
      add_to = written.one;
      mul_to = written.two;
      packing = packed.one;
      unpacking = packed.two;
      rotation = rotation_of f u rule c.rotation;
      source_a = sources.one;
      source_b = sources.two;
      adds = adds_of f u adds;
      muls = muls_of f u muls;
      operands = operands_of f u rule;
      flags = flags_of f u flags;
      exchange = exchange_of f u exchange;
      row_a = named.one;
      row_b = named.two;
      small = small_of f u rule small;
    }

pub said_of_canonical : (w : ℕ) → IsCanonical w → is_unit_word (fields_of w) ≡ true → IsSaid (unit_fields (fields_of w))
said_of_canonical w c unit =
    said_by (fields_of w) (units_there (fields_of w) unit) (no_pm (fields_of w) c.operands) (clean w c.inside) (no_bad_packing (fields_of w) (plain w c.inside) unit) c.operands c.adds c.muls c.flags c.exchange c.rows c.small

-- the numbers of its fields
pub whole_of_word : (w : ℕ) → IsWhole (unit_fields (fields_of w))
whole_of_word w = record {
  range = record {
    unpack = field_below w 57 3;
    pack = field_below w 52 4;
    cond_add = field_below w 49 3;
    cond_mul = field_below w 46 3;
    waddr_add = field_below w 38 6;
    waddr_mul = field_below w 32 6;
    op_mul = field_below w 29 3;
    op_add = field_below w 24 5;
    raddr_a = field_below w 18 6;
    raddr_b = field_below w 12 6;
  };
  sig = field_below w 60 4;
  sf = field_below w 45 1;
  ws = field_below w 44 1;
  add_a = field_below w 9 3;
  add_b = field_below w 6 3;
  mul_a = field_below w 3 3;
  mul_b = field_below w 0 3;
}
