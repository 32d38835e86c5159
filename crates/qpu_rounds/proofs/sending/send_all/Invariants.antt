use Rattle.qpu_rounds.proofs.SentLemmas.{SentSoFar}
use Rattle.qpu_rounds.proofs.sending.send_all.Given as goal

abbrev pub invariant-loop-q : goal.invariant-loop-q
invariant-loop-q l = SentSoFar l.fn.machine.state l.away l.q
