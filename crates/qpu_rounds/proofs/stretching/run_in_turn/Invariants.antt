use Rattle.qpu_rounds.proofs.RunLemmas.{RunSoFar}
use Rattle.qpu_rounds.proofs.stretching.run_in_turn.Given as goal

abbrev pub invariant-loop-at : goal.invariant-loop-at
invariant-loop-at l = RunSoFar l.fn.programs.list.items l.fn.limit l.fn.away l.away l.at
