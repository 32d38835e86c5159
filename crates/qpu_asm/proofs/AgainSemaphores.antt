-- The line of a semaphore instruction is read.
use Rattle.std.proofs.Common.{◌≡◌, ℕ, ◌<◌, Bool, true, false, List, [], ◌∷◌, refl, arith}
use Rattle.std.proofs.lemmas.Bool.Decides.{nat_tests}
use Rattle.std.specs.Prelude.{◌&&◌, nat_le, None, Ok, if◌then◌else◌}
use Rattle.qpu_token.specs.declared.token.Token.{Token}
use Rattle.qpu_line.specs.declared.instruction.Instruction.TheVariants as instruction
use Rattle.qpu_line.specs.declared.name.Name.TheVariants as name
use Rattle.qpu_asm.specs.declared.placed.Placed.{Placed}
use Rattle.qpu_asm.specs.declared.piece.Core.TheVariants as core
use Rattle.qpu_asm.specs.declared.piece.Piece.{Piece}
use Rattle.qpu_asm.specs.declared.part.Part.{Part}
use Rattle.qpu_asm.specs.declared.part.Part.TheVariants as part
use Rattle.qpu_asm.specs.reader.Pieces.{bare}
use Rattle.qpu_asm.specs.reader.Parts.{last_value, part_by}
use Rattle.qpu_asm.specs.Forms.{begins}
use Rattle.qpu_asm.specs.Roles.{is_mnemonic}
use Rattle.qpu_asm.specs.reader.Marks.{part_marks, marks_of}
use Rattle.qpu_asm.specs.reader.Judging.{line_fault}
use Rattle.qpu_asm.specs.reader.Meanings.{meaning}
use Rattle.qpu_asm.proofs.AgainMarks.{nothing_given, NoTarget, clean_start, no_fault}

abbrev pub step_part : Bool → Piece → Part
step_part true p = part.Decrement p
step_part false p = part.Increment p

pub step_by : (down : Bool) (token end : Token) (rest : List Placed) (p : Piece) → last_value end rest ≡ Ok p
    → part_by (if down then name.Decrement else name.Increment) token end rest ≡ Ok (step_part down p)
unfolding part_by
step_by true token end rest p e = rw e refl
step_by false token end rest p e = rw e refl

pub step_begins : (down : Bool) → begins (if down then name.Decrement else name.Increment) ≡ true
step_begins true = refl
step_begins false = refl

pub step_mnemonic : (down : Bool) → is_mnemonic (if down then name.Decrement else name.Increment) ≡ true
step_mnemonic true = refl
step_mnemonic false = refl

near_by : (n : ℕ) → n < 16 → (nat_le 0 n && nat_le n 15) ≡ true
near_by n near = grind (arith, nat_tests)

step_marks : (down : Bool) (n : ℕ) (t : Token) → (nat_le 0 n && nat_le n 15) ≡ true → marks_of (step_part down (bare (core.Number n) t) ∷ []) ≡ []
unfolding marks_of part_marks
step_marks true n t e = rw e refl
step_marks false n t e = rw e refl

pub step_fault : (down : Bool) (n : ℕ) (t : Token) → n < 16 → line_fault (marks_of (step_part down (bare (core.Number n) t) ∷ [])) ≡ None
step_fault down n t near =
    rw (step_marks down n t (near_by n near)) (no_fault NoTarget nothing_given [] (clean_start NoTarget nothing_given))

pub step_says : (at : ℕ) (down : Bool) (n : ℕ) (t : Token) → meaning at (step_part down (bare (core.Number n) t)) [] ≡ instruction.Semaphore (record { down = down; number = n })
unfolding meaning
step_says at true n t = refl
step_says at false n t = refl
