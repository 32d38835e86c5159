-- What an operand asks of the word, and the marks of a target.
use Rattle.std.proofs.Common.{◌≡◌, ◌<◌, Bool, true, false, List, refl}
use Rattle.std.specs.Prelude.{◌&&◌, nat_lt, Some}
use Rattle.qpu_word.specs.declared.name.Place.{Place}
use Rattle.qpu_line.specs.declared.operand.Operand.{Operand}
use Rattle.qpu_line.specs.declared.operand.Operand.TheVariants.{Accumulator, FileA, FileB, Small}
use Rattle.qpu_line.specs.Named.{is_unpack_at}
use Rattle.qpu_asm.specs.declared.piece.Piece.{Piece}
use Rattle.qpu_asm.specs.declared.mark.What.TheVariants as what
use Rattle.qpu_asm.specs.declared.mark.Mark.{Mark}
use Rattle.qpu_asm.specs.reader.Marks.{pack_marks, target_place, target_marks, mark}
use Rattle.qpu_asm.proofs.AgainMarks.{Given}

-- operands

-- what the word holds is what an operand names
abbrev pub Holds : Given → Bool → Operand → Type 0
Holds g mul (Accumulator n) = (mul && nat_lt 3 n) ≡ true → g.turns ≡ false
Holds g mul (FileA n u) = (g.a ≡ n) × (g.unpack ≡ u) × (is_unpack_at n u ≡ true) × (mul ≡ true → g.turns ≡ false)
Holds g mul (FileB n) = (g.b ≡ n) × (g.small ≡ false) × (mul ≡ true → g.turns ≡ false)
Holds g mul (Small code) = (g.b ≡ code) × (g.small ≡ true) × (code < 48) × (g.turns ≡ false)

-- targets
pub target_marks_are : (p : Piece) (to : Place) (ms : List Mark) → target_place p.core ≡ Some to → target_marks p ms ≡ pack_marks (Some to) p.suffix (mark (what.Writes to) p.token ms)
unfolding target_marks
target_marks_are p to ms e = rw e refl
