-- This project's own: the canonical line of an instruction, as bits that follow one another. It is the
-- one place that says what is written, in which order, and where spaces stand.
use Rattle.std.specs.Prelude.{ℕ, ◌-◌, ◌^◌, ◌==◌, ◌&&◌, Bool, false, not, nat_lt, nat_le, List, [], ◌∷◌, ◌++◌, flat_map, Option, Some, None, is_some, if◌then◌else◌}
use Rattle.qpu_word.specs.declared.name.Place.{Place}
use Rattle.qpu_word.specs.declared.name.Place.TheVariants as place
use Rattle.qpu_word.specs.declared.operation.AddOp.{AddOp}
use Rattle.qpu_word.specs.declared.operation.AddOp.TheVariants.{V8adds, V8subs}
use Rattle.qpu_word.specs.declared.operation.MulOp.{MulOp}
use Rattle.qpu_word.specs.declared.operation.MulOp.TheVariants as mul
use Rattle.qpu_word.specs.declared.code.TheConstants.{ROWS, NOWHERE, READ_VPM, WRITE_R0, WRITE_R3, WRITE_VPM, ROTATE_BY_R5}
use Rattle.qpu_word.specs.Operations.{add_op, mul_op}
use Rattle.qpu_word.specs.Operands.{immediate_of}
use Rattle.qpu_word.specs.Words.{is_unary}
use Rattle.qpu_line.specs.declared.operand.Operand.{Operand}
use Rattle.qpu_line.specs.declared.operand.Operand.TheVariants as operand
use Rattle.qpu_line.specs.declared.part.Part.{Part}
use Rattle.qpu_line.specs.declared.units.Signal.{Signal}
use Rattle.qpu_line.specs.declared.units.Signal.TheVariants as signal
use Rattle.qpu_line.specs.declared.units.Units.{Units}
use Rattle.qpu_line.specs.declared.load.Load.{Load}
use Rattle.qpu_line.specs.declared.load.Write.{Write}
use Rattle.qpu_line.specs.declared.semaphore.Semaphore.{Semaphore}
use Rattle.qpu_line.specs.declared.branch.Branch.{Branch}
use Rattle.qpu_line.specs.declared.instruction.Instruction.{Instruction}
use Rattle.qpu_line.specs.declared.instruction.Instruction.TheVariants as instruction
use Rattle.qpu_line.specs.declared.name.Name.{Name}
use Rattle.qpu_line.specs.declared.name.Name.TheVariants as name
use Rattle.qpu_line.specs.declared.name.Register.TheVariants as register
use Rattle.qpu_line.specs.declared.symbol.Symbol.{Symbol}
use Rattle.qpu_line.specs.declared.symbol.Symbol.TheVariants as symbol
use Rattle.qpu_line.specs.Loads.{write_target}

-- how a number is written: in decimal, with a sign `-` before it, or with `0x` and eight digits
pub data Figure : Type 0 where
  Decimal : (n : ℕ) → Figure
  Negative : (n : ℕ) → Figure
  Hexadecimal : (n : ℕ) → Figure

pub data Bit : Type 0 where
  Word : (name : Name) → Bit
  Number : (figure : Figure) → Bit
  Comma : Bit
  Semicolon : Bit
  Dot : Bit
  Dash : Bit
  Space : Bit

-- registers

-- what a read address of file A or B is called
abbrev pub source_a : ℕ → Name
source_a n =
    if nat_lt n ROWS then name.Register (register.RowA n)
    else if n == READ_VPM then name.Register register.Vpm
    else name.Register (register.Source (place.FileA n))

abbrev pub source_b : ℕ → Name
source_b n = if nat_lt n ROWS then name.Register (register.RowB n) else name.Register (register.Source (place.FileB n))

-- what a target is called
abbrev pub target_bits : Place → List Bit
target_bits (place.Both n) =
    if n == NOWHERE then Dash ∷ []
    else if nat_le WRITE_R0 n && nat_le n WRITE_R3 then Word (name.Register (register.Accumulator (n - WRITE_R0))) ∷ []
    else if n == WRITE_VPM then Word (name.Register register.Vpm) ∷ []
    else Word (name.Register (register.Target (place.Both n))) ∷ []
target_bits (place.FileA n) =
    if nat_lt n ROWS then Word (name.Register (register.RowA n)) ∷ [] else Word (name.Register (register.Target (place.FileA n))) ∷ []
target_bits (place.FileB n) =
    if nat_lt n ROWS then Word (name.Register (register.RowB n)) ∷ [] else Word (name.Register (register.Target (place.FileB n))) ∷ []

-- suffixes

abbrev pub suffix : Name → List Bit
suffix n = Dot ∷ Word n ∷ []

-- the condition always isn't written
abbrev pub condition_bits : ℕ → List Bit
condition_bits cond = if nat_lt cond 2 then [] else suffix (name.Condition cond)

abbrev pub branch_condition_bits : ℕ → List Bit
branch_condition_bits cond = if nat_lt cond 12 then suffix (name.BranchCondition cond) else []

abbrev pub flags_bits : Bool → List Bit
flags_bits sets = if sets then suffix name.SetFlags else []

abbrev pub pack_bits : ℕ → List Bit
pack_bits pack = if pack == 0 then [] else suffix (name.Pack pack)

abbrev pub unpack_bits : ℕ → List Bit
unpack_bits unpack =
    if unpack == 0 then [] else if unpack == 3 then suffix name.Replicate else suffix (name.Pack unpack)

-- numbers

-- a number of 32 bits with a sign
abbrev pub signed_figure : ℕ → Figure
signed_figure n = if nat_lt n (2 ^ 31) then Decimal n else Negative (2 ^ 32 - n)

-- the immediate of a code: a whole number from -16 to 15, or a power of 2 as a floating point number
abbrev pub small_figure : ℕ → Figure
small_figure code = if nat_lt code 32 then signed_figure (immediate_of code) else Hexadecimal (immediate_of code)

-- both units

abbrev pub operand_bits : Operand → List Bit
operand_bits (operand.Accumulator n) = Word (name.Register (register.Accumulator n)) ∷ []
operand_bits (operand.FileA n unpack) = Word (source_a n) ∷ unpack_bits unpack
operand_bits (operand.FileB n) = Word (source_b n) ∷ []
operand_bits (operand.Small code) = Number (small_figure code) ∷ []

-- what stands behind a comma or semicolon
abbrev pub and_then : List Bit → List Bit
and_then bits = Comma ∷ Space ∷ bits

abbrev pub behind : List Bit → List Bit
behind bits = Semicolon ∷ Space ∷ bits

-- a part: operations with one operand write it once
abbrev pub part_bits : Name → Bool → Bool → Part → List Bit
part_bits op one sets p =
    Word op ∷ condition_bits p.cond ++ flags_bits sets ++ Space ∷ target_bits p.to ++ pack_bits p.pack
    ++ and_then (operand_bits p.a) ++ (if one then [] else and_then (operand_bits p.b))

-- the name of an operation's code
abbrev pub add_name : Option AddOp → Name
add_name None = name.Nop
add_name (Some op) = name.Add op

-- operations of both units have the add unit's name
abbrev pub mul_name : Option MulOp → Name
mul_name None = name.Nop
mul_name (Some mul.V8adds) = name.Add V8adds
mul_name (Some mul.V8subs) = name.Add V8subs
mul_name (Some op) = name.Mul op

abbrev pub add_bits : Bool → Option Part → List Bit
add_bits sets None = Word name.Nop ∷ []
add_bits sets (Some p) = part_bits (add_name (add_op p.op)) (is_unary p.op) sets p

abbrev pub mul_bits : Bool → Option Part → List Bit
mul_bits sets None = []
mul_bits sets (Some p) = behind (part_bits (mul_name (mul_op p.op)) false sets p)

abbrev pub signal_bits : Signal → List Bit
signal_bits signal.Nothing = []
signal_bits signal.End = behind (Word name.End ∷ [])
signal_bits signal.Load0 = behind (Word name.Load0 ∷ [])
signal_bits signal.Load1 = behind (Word name.Load1 ∷ [])
signal_bits (signal.Rotate code) =
    behind (Word name.Rotate ∷ Space
    ∷ (if code == ROTATE_BY_R5 then Word (name.Register (register.Accumulator 5)) else Number (Decimal (code - ROTATE_BY_R5))) ∷ [])

-- an address that is read though no operand names it
abbrev pub other_bits : Name → (ℕ → Name) → Option ℕ → List Bit
other_bits before source None = []
other_bits before source (Some n) = behind (Word before ∷ Space ∷ Word (source n) ∷ [])

-- the flags are written at the add unit's part, where there is one
unfoldable pub units_bits : Units → List Bit
units_bits u =
    add_bits u.sets u.add ++ mul_bits (u.sets && not (is_some u.add)) u.mul ++ signal_bits u.signal
    ++ other_bits name.ReadA source_a u.other_a ++ other_bits name.ReadB source_b u.other_b

-- loads

abbrev pub write_bits : Option Write → List Bit
write_bits None = []
write_bits (Some w) = condition_bits w.cond

abbrev pub also_bits : Option Write → List Bit
also_bits None = []
also_bits (Some w) = behind (Word name.Also ∷ condition_bits w.cond ++ Space ∷ target_bits w.to)

unfoldable pub load_bits : Load → List Bit
load_bits l =
    Word (name.Load l.kind) ∷ write_bits l.add ++ flags_bits l.sets ++ Space ∷ target_bits (write_target l.add)
    ++ and_then (Number (Hexadecimal l.immediate) ∷ []) ++ also_bits l.mul

-- semaphores

unfoldable pub semaphore_bits : Semaphore → List Bit
semaphore_bits s = Word (if s.down then name.Decrement else name.Increment) ∷ Space ∷ Number (Decimal s.number) ∷ []

-- branches

abbrev pub is_nowhere : Place → Bool
is_nowhere (place.Both n) = n == NOWHERE
is_nowhere (place.FileA n) = false
is_nowhere (place.FileB n) = false

abbrev pub link_bits : Place → List Bit
link_bits to = if is_nowhere to then [] else behind (Word name.Link ∷ Space ∷ target_bits to)

abbrev pub row_bits : Option ℕ → List Bit
row_bits None = []
row_bits (Some row) = behind (Word name.Row ∷ Space ∷ Word (name.Register (register.RowA row)) ∷ [])

unfoldable pub branch_bits : Branch → List Bit
branch_bits b =
    Word (if b.relative then name.RelativeBranch else name.Branch) ∷ branch_condition_bits b.cond ++ Space ∷ target_bits b.add
    ++ and_then (Number (if b.relative then signed_figure b.immediate else Hexadecimal b.immediate) ∷ [])
    ++ link_bits b.mul ++ row_bits b.register

-- the whole

unfoldable pub line_bits : Instruction → List Bit
line_bits (instruction.Both u) = units_bits u
line_bits (instruction.Load l) = load_bits l
line_bits (instruction.Semaphore s) = semaphore_bits s
line_bits (instruction.Branch b) = branch_bits b

-- the number that a figure stands for, modulo 2^32
abbrev pub worth : Figure → ℕ
worth (Decimal n) = n
worth (Negative n) = 2 ^ 32 - n
worth (Hexadecimal n) = n

-- what the tokens of a line are once its numbers are worked out
abbrev pub bit_symbols : Bit → List Symbol
bit_symbols (Word n) = symbol.Name n ∷ []
bit_symbols (Number figure) = symbol.Number (worth figure) ∷ []
bit_symbols Comma = symbol.Comma ∷ []
bit_symbols Semicolon = symbol.Semicolon ∷ []
bit_symbols Dot = symbol.Dot ∷ []
bit_symbols Dash = symbol.Minus ∷ []
bit_symbols Space = []

abbrev pub symbols_of : List Bit → List Symbol
symbols_of bits = flat_map bit_symbols bits

abbrev pub line_symbols : Instruction → List Symbol
line_symbols i = symbols_of (line_bits i)
