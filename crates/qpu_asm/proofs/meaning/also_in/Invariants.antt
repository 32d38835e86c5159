use Rattle.std.proofs.Common.{◌≡◌, drop}
use Rattle.qpu_asm.specs.reader.Meanings.{also_in}
use Rattle.qpu_asm.proofs.meaning.also_in.Given as goal

abbrev pub invariant-loop-part : goal.invariant-loop-part
invariant-loop-part l = also_in (drop l.part-index l.later) ≡ also_in l.later
