-- What a line of both units means, by its parts.
use Rattle.std.proofs.Common.{◌≡◌, ℕ, Bool, List, refl}
use Rattle.std.specs.Prelude.{Option, Some, None}
use Rattle.qpu_line.specs.declared.part.Part.{Part as UnitDoes}
use Rattle.qpu_line.specs.declared.units.Signal.{Signal}
use Rattle.qpu_line.specs.declared.units.Units.{Units}
use Rattle.qpu_line.specs.declared.instruction.Instruction.TheVariants as instruction
use Rattle.qpu_asm.specs.declared.part.UnitPart.{UnitPart}
use Rattle.qpu_asm.specs.declared.part.Part.{Part}
use Rattle.qpu_asm.specs.reader.Meanings.{units_of_parts, meaning}
use Rattle.qpu_asm.proofs.AgainBoth.{head_part}

pub same_units : (u : Units) (add mul : Option UnitDoes) (sets : Bool) (signal : Signal) (a b : Option ℕ) → add ≡ u.add → mul ≡ u.mul → sets ≡ u.sets → signal ≡ u.signal
    → a ≡ u.other_a → b ≡ u.other_b → record { add = add; mul = mul; sets = sets; signal = signal; other_a = a; other_b = b } ≡ u
same_units u add mul sets signal a b e f g h i j = rw (e, f, g, h, i, j) refl

pub head_meaning : (at : ℕ) (f : Option UnitPart) (later : List Part) → meaning at (head_part f) later ≡ instruction.Both (units_of_parts f later)
unfolding meaning
head_meaning at None later = refl
head_meaning at (Some v) later = refl
