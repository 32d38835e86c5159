-- VideoCore IV 3D Architecture Reference Guide, "QPU Instruction Encoding": where the fields of ALU
-- and small immediate words stand.
use Rattle.std.specs.Prelude.{ℕ, ◌+◌, ◌*◌, ◌%◌, ◌^◌}
use Rattle.qpu_word.specs.declared.word.Fields.{Fields}
use Rattle.qpu_line.specs.declared.slots.UnitFields.{UnitFields}

-- the fields that such a word has
abbrev pub unit_fields : Fields → UnitFields
unit_fields f = record {
  sig = f.sig;
  unpack = f.unpack;
  pack = f.pack;
  cond_add = f.cond_add;
  cond_mul = f.cond_mul;
  sf = f.sf;
  ws = f.ws;
  waddr_add = f.waddr_add;
  waddr_mul = f.waddr_mul;
  op_mul = f.op_mul;
  op_add = f.op_add;
  raddr_a = f.raddr_a;
  raddr_b = f.raddr_b;
  add_a = f.add_a;
  add_b = f.add_b;
  mul_a = f.mul_a;
  mul_b = f.mul_b;
}

-- the upper half of a word; of each number as many low bits count as its field has
abbrev pub unit_high : UnitFields → ℕ
unit_high f =
    f.sig % 16 * 2 ^ 28
    + f.unpack % 8 * 2 ^ 25
    + f.pack % 16 * 2 ^ 20
    + f.cond_add % 8 * 2 ^ 17
    + f.cond_mul % 8 * 2 ^ 14
    + f.sf % 2 * 2 ^ 13
    + f.ws % 2 * 2 ^ 12
    + f.waddr_add % 64 * 2 ^ 6
    + f.waddr_mul % 64

-- the lower half
abbrev pub units_low : UnitFields → ℕ
units_low f =
    f.op_mul % 8 * 2 ^ 29
    + f.op_add % 32 * 2 ^ 24
    + f.raddr_a % 64 * 2 ^ 18
    + f.raddr_b % 64 * 2 ^ 12
    + f.add_a % 8 * 2 ^ 9
    + f.add_b % 8 * 2 ^ 6
    + f.mul_a % 8 * 2 ^ 3
    + f.mul_b % 8

-- the word of the fields
unfoldable pub units_word : UnitFields → ℕ
units_word f = unit_high f * 2 ^ 32 + units_low f
