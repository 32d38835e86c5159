-- An instruction of both units whose parts are said by a line in which no fault is found has a canonical word.
use Rattle.std.proofs.Common.{◌≡◌, ℕ, Bool, true, false, List, ◌++◌, Option, Some, None, refl, arith}
use Rattle.std.specs.Prelude.{◌||◌, IfSome, IsSomeAnd, is_some}
use Rattle.qpu_line.specs.declared.part.Part.{Part as UnitDoes}
use Rattle.qpu_line.specs.declared.units.Signal.{Signal}
use Rattle.qpu_line.specs.declared.units.Signal.TheVariants as signal
use Rattle.qpu_line.specs.declared.units.Units.{Units}
use Rattle.qpu_line.specs.Units.{fields_of_units}
use Rattle.qpu_line.specs.Both.{IsBoth}
use Rattle.qpu_line.specs.Named.{IsAddPart, IsMulPart, CanTurn, IsNamedSignal, IsOther, IsNamed}
use Rattle.qpu_asm.specs.declared.mark.What.{What}
use Rattle.qpu_asm.specs.declared.mark.What.TheVariants as what
use Rattle.qpu_asm.specs.declared.mark.Mark.{Mark}
use Rattle.qpu_asm.specs.reader.Meanings.{address_a, address_b, reads_by, unless}
use Rattle.qpu_asm.proofs.MarkLemmas.{Has, before_join, IsClear}
use Rattle.qpu_asm.proofs.UnitMarks.{AddSaid, MulSaid}
use Rattle.qpu_asm.proofs.ExtraMarks.{SignalSaid, is_turn, OtherSaid}
use Rattle.qpu_asm.proofs.UnitsLine.{IsLine, there}
use Rattle.qpu_asm.proofs.FieldRanges.{in_range}
use Rattle.qpu_asm.proofs.UnitsHeld.{no_turn_number, add_held, mul_held, signal_held}
use Rattle.qpu_asm.proofs.OtherReads.{other_a_held, other_b_held}

pub held : (u : Units) (a b : Option ℕ) (early late : List Mark) → IsLine u a b early late → IsBoth u
unfolding fields_of_units
held u a b early late l = record {
  range = in_range u a b early late l;
  add = add_held u a b early late l;
  mul = mul_held u a b early late l;
  signal = signal_held u u.signal a b early late refl l l.signal;
  other_a = other_a_held u a b early late l;
  other_b = other_b_held u a b early late l;
}

-- names

can_turn : (early late : List Mark) (o : Option UnitDoes) → IsClear (early ++ late) → Has what.Rotates late → IfSome o (MulSaid early) → is_some o ≡ true → IsSomeAnd o CanTurn
can_turn early late None clear has said some = absurd (grind (arith, some))
can_turn early late (Some p) clear has said some =
    let still : Has what.Fixed early → ⊥ = λ fixed. clear.fixed (before_join what.Fixed what.Rotates early late fixed has) in
    let none : (v : ℕ) → Has (what.Number v) early → ⊥ = no_turn_number early late clear has in
    rw (said.does.a.turned refl still none, said.does.b.turned refl still none) refl

signal_named : (early late : List Mark) (s : Signal) (o : Option UnitDoes) → IsClear (early ++ late) → SignalSaid late s → IfSome o (MulSaid early) → (is_turn s ≡ true → is_some o ≡ true) → IsNamedSignal s o
signal_named early late signal.Nothing o clear said mul turning = tt
signal_named early late signal.End o clear said mul turning = tt
signal_named early late signal.Load0 o clear said mul turning = tt
signal_named early late signal.Load1 o clear said mul turning = tt
signal_named early late (signal.Rotate code) o clear said mul turning = (said.1, can_turn early late o clear said.0 mul (turning refl))

other_named : (reading : ℕ → What) (late : List Mark) (b : Bool) (o other : Option ℕ) → other ≡ unless b o → IfSome o (OtherSaid reading late) → IfSome other IsOther
other_named reading late true o other e said = rw e tt
other_named reading late false None other e said = rw e tt
other_named reading late false (Some n) other e said = rw e said.fits

pub named : (u : Units) (a b : Option ℕ) (early late : List Mark) → IsLine u a b early late → IsNamed u
named u a b early late l = record {
  add = there (AddSaid early) IsAddPart u.add (λ p e said. said.fits) l.add;
  mul = there (MulSaid early) IsMulPart u.mul (λ p e said. said.fits) l.mul;
  sets = l.sets;
  signal = signal_named early late u.signal u.mul l.clear l.signal l.mul l.turning;
  other_a = other_named what.ReadsA late (reads_by address_a u.add || reads_by address_a u.mul) a u.other_a l.is_a l.other_a;
  other_b = other_named what.ReadsB late (reads_by address_b u.add || reads_by address_b u.mul) b u.other_b l.is_b l.other_b;
}
