-- This project's own: what a line can name. The operations, conditions, targets, packs and operands
-- of an instruction of both units, part by part, by the names that there are; and with that, which
-- instructions of each form have a word.
use Rattle.std.specs.Prelude.{◌≡◌, ℕ, ◌+◌, ◌<◌, ◌==◌, ◌&&◌, ◌||◌, Bool, true, false, not, nat_lt, nat_le, Option, IfSome, IsSome, IsSomeAnd, is_some}
use Rattle.qpu_word.specs.declared.name.Place.{Place}
use Rattle.qpu_word.specs.declared.code.TheConstants.{NOWHERE, ROWS, ACCUMULATORS, ROTATE_BY_R5}
use Rattle.qpu_word.specs.Words.{between, is_unary, is_read_address, is_write_address}
use Rattle.qpu_word.specs.Operations.{add_op, mul_op}
use Rattle.qpu_line.specs.declared.operand.Operand.{Operand}
use Rattle.qpu_line.specs.declared.operand.Operand.TheVariants.{Accumulator, FileA, FileB, Small}
use Rattle.qpu_line.specs.declared.part.Part.{Part}
use Rattle.qpu_line.specs.declared.units.Signal.{Signal}
use Rattle.qpu_line.specs.declared.units.Signal.TheVariants.{Nothing, End, Load0, Load1, Rotate}
use Rattle.qpu_line.specs.declared.units.Units.{Units}
use Rattle.qpu_line.specs.declared.instruction.Instruction.{Instruction}
use Rattle.qpu_line.specs.declared.instruction.Instruction.TheVariants.{Both, Load, Semaphore, Branch}
use Rattle.qpu_line.specs.Targets.{address_of, is_row_a}
use Rattle.qpu_line.specs.Worded.{IsSemaphore, IsLoad, IsBranch}
use Rattle.qpu_line.specs.Both.{IsBoth}

-- a read address whose name stands as an operand
abbrev pub is_source : ℕ → Bool
is_source address = is_read_address address && not (address == NOWHERE)

-- an unpack mode of a read address of file A: only rows are unpacked
abbrev pub is_unpack_at : ℕ → ℕ → Bool
is_unpack_at address unpack = (unpack == 0) || (nat_lt address ROWS && between 1 unpack 7)

-- an operand that a line can name
abbrev pub IsNamedOperand : Operand → Type 0
IsNamedOperand (Accumulator n) = n < ACCUMULATORS
IsNamedOperand (FileA address unpack) = (is_source address ≡ true) × (is_unpack_at address unpack ≡ true)
IsNamedOperand (FileB address) = is_source address ≡ true
IsNamedOperand (Small code) = code < ROTATE_BY_R5

-- a pack mode at a target: only rows of file A are packed, and mode 8 is none
abbrev pub is_pack_at : Place → ℕ → Bool
is_pack_at to pack = (pack == 0) || (is_row_a to && (between 1 pack 7 || between 9 pack 15))

-- a part, whichever its unit: what is written nowhere has the condition always
pub record IsNamedPart (p : Part) : Type 0 where
  pub cond : between 1 p.cond 7 ≡ true
  pub always : (address_of p.to == NOWHERE) ≡ true → p.cond ≡ 1
  pub to : is_write_address (address_of p.to) ≡ true
  pub pack : is_pack_at p.to p.pack ≡ true
  pub a : IsNamedOperand p.a
  pub b : IsNamedOperand p.b

-- a part of the add unit; an operation with one operand has it twice
pub record IsAddPart (p : Part) : Type 0 where
  pub op : IsSome (add_op p.op)
  pub twice : is_unary p.op ≡ true → p.b ≡ p.a
  pub part : IsNamedPart p

-- a part of the mul unit
pub record IsMulPart (p : Part) : Type 0 where
  pub op : IsSome (mul_op p.op)
  pub part : IsNamedPart p

-- an operand that can be rotated: r0 to r3
abbrev pub is_turned : Operand → Bool
is_turned (Accumulator n) = nat_lt n 4
is_turned (FileA address unpack) = false
is_turned (FileB address) = false
is_turned (Small code) = false

abbrev pub CanTurn : Part → Type 0
CanTurn p = (is_turned p.a && is_turned p.b) ≡ true

-- a signal beside the mul unit's part: a rotation is by r5 or by 1 to 15, and turns what the mul
-- unit computes of accumulators
abbrev pub IsNamedSignal : Signal → Option Part → Type 0
IsNamedSignal Nothing mul = Unit
IsNamedSignal End mul = Unit
IsNamedSignal Load0 mul = Unit
IsNamedSignal Load1 mul = Unit
IsNamedSignal (Rotate code) mul = (between ROTATE_BY_R5 code (ROTATE_BY_R5 + 15) ≡ true) × IsSomeAnd mul CanTurn

-- an address that a line can name beside the units' operands: none of a row
abbrev pub IsOther : ℕ → Type 0
IsOther address = (is_source address && nat_le ROWS address) ≡ true

-- an instruction of both units; flags are set by one of them
pub record IsNamed (u : Units) : Type 0 where
  pub add : IfSome u.add IsAddPart
  pub mul : IfSome u.mul IsMulPart
  pub sets : u.sets ≡ true → (is_some u.add || is_some u.mul) ≡ true
  pub signal : IsNamedSignal u.signal u.mul
  pub other_a : IfSome u.other_a IsOther
  pub other_b : IfSome u.other_b IsOther

-- which instructions have a word
abbrev pub HasWord : Instruction → Type 0
HasWord (Both u) = IsBoth u × IsNamed u
HasWord (Load l) = IsLoad l
HasWord (Semaphore s) = IsSemaphore s
HasWord (Branch b) = IsBranch b
