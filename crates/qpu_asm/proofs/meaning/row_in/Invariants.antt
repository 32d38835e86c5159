use Rattle.std.proofs.Common.{◌≡◌, drop}
use Rattle.qpu_asm.specs.reader.Meanings.{first_told, row_part}
use Rattle.qpu_asm.proofs.meaning.row_in.Given as goal

abbrev pub invariant-loop-part : goal.invariant-loop-part
invariant-loop-part l = first_told row_part (drop l.part-index l.later) ≡ first_told row_part l.later
