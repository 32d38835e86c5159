-- This project's own: which instructions of both units have a word. What the fields hold is what
-- each part and operand names.
use Rattle.std.specs.Prelude.{◌≡◌, ◌<◌, ◌==◌, ◌||◌, Bool, true, false, not, IfSome}
use Rattle.qpu_word.specs.declared.code.TheConstants.{SIGNAL_SMALL_IMMEDIATE, MUX_FILE_A, MUX_FILE_B}
use Rattle.qpu_line.specs.declared.operand.Operand.{Operand}
use Rattle.qpu_line.specs.declared.operand.Operand.TheVariants.{Accumulator, FileA, FileB, Small}
use Rattle.qpu_line.specs.declared.part.Part.{Part}
use Rattle.qpu_line.specs.declared.units.Units.{Units}
use Rattle.qpu_line.specs.declared.slots.UnitFields.{UnitFields}
use Rattle.qpu_line.specs.Units.{fields_of_units, pack_at, any_uses, signal_of, other_read}
use Rattle.qpu_line.specs.Worded.{IsTarget}

-- each number is below the bound of its field
pub record InRange (s : UnitFields) : Type 0 where
  pub unpack : s.unpack < 8
  pub pack : s.pack < 16
  pub cond_add : s.cond_add < 8
  pub cond_mul : s.cond_mul < 8
  pub waddr_add : s.waddr_add < 64
  pub waddr_mul : s.waddr_mul < 64
  pub op_mul : s.op_mul < 8
  pub op_add : s.op_add < 32
  pub raddr_a : s.raddr_a < 64
  pub raddr_b : s.raddr_b < 64

-- the fields hold what an operand names
abbrev pub IsOperand : UnitFields → Operand → Type 0
IsOperand s (Accumulator n) = n < 6
IsOperand s (FileA n unpack) = (s.raddr_a ≡ n) × (s.unpack ≡ unpack)
IsOperand s (FileB n) = (s.raddr_b ≡ n) × ((s.sig == SIGNAL_SMALL_IMMEDIATE) ≡ false)
IsOperand s (Small code) = (s.raddr_b ≡ code) × ((s.sig == SIGNAL_SMALL_IMMEDIATE) ≡ true)

-- the fields hold what a part names; it isn't idle
pub record IsPart (s : UnitFields) (in_b : Bool) (p : Part) : Type 0 where
  pub acts : ((p.op == 0) || (p.cond == 0)) ≡ false
  pub target : IsTarget in_b p.to
  pub packs : pack_at p.to s.pack ≡ p.pack
  pub first : IsOperand s p.a
  pub second : IsOperand s p.b

-- the fields hold what an instruction names
pub record IsHeld (s : UnitFields) (u : Units) : Type 0 where
  pub range : InRange s
  pub add : IfSome u.add (IsPart s (s.ws == 1))
  pub mul : IfSome u.mul (IsPart s (not (s.ws == 1)))
  pub signal : signal_of s.sig s.raddr_b ≡ u.signal
  pub other_a : other_read (any_uses s MUX_FILE_A) s.raddr_a ≡ u.other_a
  pub other_b : other_read ((s.sig == SIGNAL_SMALL_IMMEDIATE) || any_uses s MUX_FILE_B) s.raddr_b ≡ u.other_b

abbrev pub IsBoth : Units → Type 0
IsBoth u = IsHeld (fields_of_units u) u
