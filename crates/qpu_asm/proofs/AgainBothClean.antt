-- The parts of a line of both units have no fault.
use Rattle.std.proofs.Common.{◌≡◌, Bool, true, false, refl, sym, subst}
use Rattle.std.specs.Prelude.{◌==◌, ◌&&◌, not, Option, Some, None, IfSome, IsSomeAnd}
use Rattle.qpu_word.specs.declared.name.Place.{Place}
use Rattle.qpu_line.specs.declared.part.Part.{Part as UnitDoes}
use Rattle.qpu_line.specs.declared.units.Signal.{Signal}
use Rattle.qpu_line.specs.declared.units.Signal.TheVariants.{Nothing, End, Load0, Load1, Rotate}
use Rattle.qpu_line.specs.declared.slots.UnitFields.{UnitFields}
use Rattle.qpu_line.specs.Worded.{IsTarget}
use Rattle.qpu_line.specs.Both.{IsPart}
use Rattle.qpu_line.specs.Named.{IsNamedSignal, CanTurn}
use Rattle.qpu_asm.specs.Clashes.{cross}
use Rattle.qpu_asm.proofs.AgainMarks.{NoTarget, Only}
use Rattle.qpu_asm.proofs.AgainHeld.{no_cross, is_rotation}

-- what a rotation asks

pub turned_by : (g : Signal) (o : Option UnitDoes) → IsNamedSignal g o → is_rotation g ≡ true → IsSomeAnd o CanTurn
turned_by Nothing o named e = absurd cc
turned_by End o named e = absurd cc
turned_by Load0 o named e = absurd cc
turned_by Load1 o named e = absurd cc
turned_by (Rotate code) o named e = named.1

pub two_true : (a b : Bool) → (a && b) ≡ true → (a ≡ true) × (b ≡ true)
two_true true true e = (refl, refl)
two_true true false e = absurd cc
two_true false b e = absurd cc

-- the first part

-- targets behind the first part
abbrev pub AddTarget : Option UnitDoes → Place → Type 0
AddTarget None = NoTarget
AddTarget (Some p) = Only p.to

-- the mul unit's part

pub mul_apart : (s : UnitFields) (add : Option UnitDoes) (q : Place) → IfSome add (IsPart s (s.ws == 1)) → IsTarget (not (s.ws == 1)) q
    → (p : Place) → AddTarget add p → cross p q ≡ false
mul_apart s None q held to p h = absurd h
mul_apart s (Some d) q held to p h = subst (λ (z : Place). cross z q ≡ false) (sym h) (no_cross (s.ws == 1) d.to q held.target to)
