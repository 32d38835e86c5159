use Rattle.qpu_word.proofs.LaneLemmas.{Filled}
use Rattle.qpu_word.specs.Instruction.{loaded}
use Rattle.qpu_local.proofs.sending.load_values.Given as goal

abbrev pub invariant-loop-i : goal.invariant-loop-i
invariant-loop-i l = Filled (loaded l.f) l.out l.i
