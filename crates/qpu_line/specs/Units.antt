-- VideoCore IV 3D Architecture Reference Guide, "QPU Instruction Encoding": ALU and small immediate
-- words. The instruction, in which each operand names what it reads, is this project's own.
use Rattle.std.specs.Prelude.{ℕ, ◌==◌, ◌&&◌, ◌||◌, Bool, not, nat_lt, nat_le, Option, Some, None, if◌then◌else◌}
use Rattle.qpu_word.specs.declared.name.Place.{Place}
use Rattle.qpu_word.specs.declared.name.Place.TheVariants.{Both}
use Rattle.qpu_word.specs.declared.code.TheConstants.{SIGNAL_NONE, SIGNAL_PROGRAM_END, SIGNAL_LOAD_TMU0, SIGNAL_LOAD_TMU1, SIGNAL_SMALL_IMMEDIATE, MUX_FILE_A, MUX_FILE_B, NOWHERE, ROTATE_BY_R5}
use Rattle.qpu_line.specs.declared.operand.Operand.{Operand}
use Rattle.qpu_line.specs.declared.operand.Operand.TheVariants.{Accumulator, FileA, FileB, Small}
use Rattle.qpu_line.specs.declared.part.Part.{Part}
use Rattle.qpu_line.specs.declared.units.Signal.{Signal}
use Rattle.qpu_line.specs.declared.units.Signal.TheVariants.{Nothing, End, Load0, Load1, Rotate}
use Rattle.qpu_line.specs.declared.units.Units.{Units}
use Rattle.qpu_line.specs.declared.slots.UnitFields.{UnitFields}
use Rattle.qpu_line.specs.Targets.{target_at_address, address_of, is_row_a, exchange_of}

-- from fields to an instruction

-- what a mux reads
abbrev pub operand_of : UnitFields → ℕ → Operand
operand_of f mux =
    if nat_lt mux MUX_FILE_A then Accumulator mux
    else if mux == MUX_FILE_A then FileA f.raddr_a f.unpack
    else if f.sig == SIGNAL_SMALL_IMMEDIATE then Small f.raddr_b
    else FileB f.raddr_b

-- the pack mode counts at a row of file A
abbrev pub pack_at : Place → ℕ → ℕ
pack_at to pack = if is_row_a to then pack else 0

-- the part of a unit that computes and writes to a target
abbrev pub part_to : UnitFields → Place → ℕ → ℕ → ℕ → ℕ → Part
part_to f to op cond x y = record { op = op; cond = cond; to = to; pack = pack_at to f.pack; a = operand_of f x; b = operand_of f y }

-- the part of a unit; none where its operation is nop or its condition never
unfoldable pub part_of : UnitFields → Bool → ℕ → ℕ → ℕ → ℕ → ℕ → Option Part
part_of f in_b op cond address x y =
    if (op == 0) || (cond == 0) then None else Some (part_to f (target_at_address in_b address) op cond x y)

-- a unit that computes uses a mux
abbrev pub part_uses : ℕ → ℕ → ℕ → ℕ → ℕ → Bool
part_uses op cond x y mux = not ((op == 0) || (cond == 0)) && ((x == mux) || (y == mux))

abbrev pub any_uses : UnitFields → ℕ → Bool
any_uses f mux = part_uses f.op_add f.cond_add f.add_a f.add_b mux || part_uses f.op_mul f.cond_mul f.mul_a f.mul_b mux

-- the signal, or the rotation, whose code is 48 or more
unfoldable pub signal_of : ℕ → ℕ → Signal
signal_of sig code =
    if sig == SIGNAL_PROGRAM_END then End
    else if sig == SIGNAL_LOAD_TMU0 then Load0
    else if sig == SIGNAL_LOAD_TMU1 then Load1
    else if (sig == SIGNAL_SMALL_IMMEDIATE) && nat_le ROTATE_BY_R5 code then Rotate code
    else Nothing

-- an address that is read though no operand names it
abbrev pub other_read : Bool → ℕ → Option ℕ
other_read named address = if named || (address == NOWHERE) then None else Some address

-- the instruction of the fields
unfoldable pub units_of : UnitFields → Units
units_of f = record {
  add = part_of f (f.ws == 1) f.op_add f.cond_add f.waddr_add f.add_a f.add_b;
  mul = part_of f (not (f.ws == 1)) f.op_mul f.cond_mul f.waddr_mul f.mul_a f.mul_b;
  sets = (f.sf == 1);
  signal = signal_of f.sig f.raddr_b;
  other_a = other_read (any_uses f MUX_FILE_A) f.raddr_a;
  other_b = other_read ((f.sig == SIGNAL_SMALL_IMMEDIATE) || any_uses f MUX_FILE_B) f.raddr_b;
}

-- from an instruction to its fields

-- the mux of an operand
abbrev pub mux_of : Operand → ℕ
mux_of (Accumulator n) = n
mux_of (FileA n unpack) = MUX_FILE_A
mux_of (FileB n) = MUX_FILE_B
mux_of (Small code) = MUX_FILE_B

-- a field that several operands share, as the first of them has it: the read address of file A
abbrev pub row_a : Operand → ℕ → ℕ
row_a (Accumulator n) rest = rest
row_a (FileA n unpack) rest = n
row_a (FileB n) rest = rest
row_a (Small code) rest = rest

-- the unpack mode
abbrev pub unpack_of : Operand → ℕ → ℕ
unpack_of (Accumulator n) rest = rest
unpack_of (FileA n unpack) rest = unpack
unpack_of (FileB n) rest = rest
unpack_of (Small code) rest = rest

-- the read address of file B, or the small immediate's code
abbrev pub row_b : Operand → ℕ → ℕ
row_b (Accumulator n) rest = rest
row_b (FileA n unpack) rest = rest
row_b (FileB n) rest = n
row_b (Small code) rest = code

-- the signal, where a small immediate asks for it
abbrev pub small_signal : Operand → ℕ → ℕ
small_signal (Accumulator n) rest = rest
small_signal (FileA n unpack) rest = rest
small_signal (FileB n) rest = rest
small_signal (Small code) rest = SIGNAL_SMALL_IMMEDIATE

-- a field that the operands of a part share
abbrev pub over : (Operand → ℕ → ℕ) → Option Part → ℕ → ℕ
over read None rest = rest
over read (Some p) rest = read p.a (read p.b rest)

-- a field that the operands of both parts share
abbrev pub over_units : (Operand → ℕ → ℕ) → Units → ℕ → ℕ
over_units read u rest = over read u.add (over read u.mul rest)

-- a part's own fields; an idle unit has 0, and the address 39
abbrev pub op_of : Option Part → ℕ
op_of None = 0
op_of (Some p) = p.op

abbrev pub cond_of : Option Part → ℕ
cond_of None = 0
cond_of (Some p) = p.cond

abbrev pub to_of : Option Part → Place
to_of None = Both NOWHERE
to_of (Some p) = p.to

abbrev pub first_of : Option Part → ℕ
first_of None = 0
first_of (Some p) = mux_of p.a

abbrev pub second_of : Option Part → ℕ
second_of None = 0
second_of (Some p) = mux_of p.b

-- the pack mode of the part that writes a row of file A
abbrev pub pack_of : Option Part → ℕ → ℕ
pack_of None rest = rest
pack_of (Some p) rest = if is_row_a p.to then p.pack else rest

-- the code of a signal
abbrev pub signal_code : Signal → ℕ
signal_code Nothing = SIGNAL_NONE
signal_code End = SIGNAL_PROGRAM_END
signal_code Load0 = SIGNAL_LOAD_TMU0
signal_code Load1 = SIGNAL_LOAD_TMU1
signal_code (Rotate code) = SIGNAL_SMALL_IMMEDIATE

-- the code of a rotation
abbrev pub rotation_or : Signal → ℕ → ℕ
rotation_or Nothing rest = rest
rotation_or End rest = rest
rotation_or Load0 rest = rest
rotation_or Load1 rest = rest
rotation_or (Rotate code) rest = code

-- an address that is read though no operand names it, or 39
abbrev pub other_or : Option ℕ → ℕ
other_or None = NOWHERE
other_or (Some address) = address

-- the fields of an instruction
unfoldable pub fields_of_units : Units → UnitFields
fields_of_units u = record {
  sig = over_units small_signal u (signal_code u.signal);
  unpack = over_units unpack_of u 0;
  pack = pack_of u.add (pack_of u.mul 0);
  cond_add = cond_of u.add;
  cond_mul = cond_of u.mul;
  sf = (if u.sets then 1 else 0);
  ws = exchange_of (to_of u.add) (to_of u.mul);
  waddr_add = address_of (to_of u.add);
  waddr_mul = address_of (to_of u.mul);
  op_mul = op_of u.mul;
  op_add = op_of u.add;
  raddr_a = over_units row_a u (other_or u.other_a);
  raddr_b = over_units row_b u (rotation_or u.signal (other_or u.other_b));
  add_a = first_of u.add;
  add_b = second_of u.add;
  mul_a = first_of u.mul;
  mul_b = second_of u.mul;
}
