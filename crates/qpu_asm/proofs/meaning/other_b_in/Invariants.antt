use Rattle.std.proofs.Common.{◌≡◌, drop}
use Rattle.qpu_asm.specs.reader.Meanings.{first_told, other_b_part}
use Rattle.qpu_asm.proofs.meaning.other_b_in.Given as goal

abbrev pub invariant-loop-part : goal.invariant-loop-part
invariant-loop-part l = first_told other_b_part (drop l.part-index l.later) ≡ first_told other_b_part l.later
