use Rattle.std.proofs.Common.{◌≡◌, drop}
use Rattle.qpu_asm.specs.reader.Meanings.{link_in}
use Rattle.qpu_asm.proofs.meaning.link_in.Given as goal

abbrev pub invariant-loop-part : goal.invariant-loop-part
invariant-loop-part l = link_in (drop l.part-index l.later) ≡ link_in l.later
