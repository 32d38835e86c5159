use Rattle.std.proofs.Common.{◌≡◌, drop}
use Rattle.qpu_asm.specs.reader.Meanings.{signal_in}
use Rattle.qpu_asm.proofs.meaning.signal_in.Given as goal

abbrev pub invariant-loop-part : goal.invariant-loop-part
invariant-loop-part l = signal_in (drop l.part-index l.later) ≡ signal_in l.later
