use Rattle.qpu_hazard.proofs.BestLemmas.{KeptSoFar}
use Rattle.qpu_hazard.proofs.best.keep_all.Given as goal

-- the best of what came before
abbrev pub invariant-loop-b : goal.invariant-loop-b
invariant-loop-b l = KeptSoFar l.fn.best l.best l.at l.breaks l.b-index
