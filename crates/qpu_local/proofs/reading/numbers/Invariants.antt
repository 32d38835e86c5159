use Rattle.qpu_word.proofs.LaneLemmas.{Filled}
use Rattle.qpu_local.proofs.reading.numbers.Given as goal

abbrev pub invariant-loop-i : goal.invariant-loop-i
invariant-loop-i l = Filled (λ k. k) l.out l.i
