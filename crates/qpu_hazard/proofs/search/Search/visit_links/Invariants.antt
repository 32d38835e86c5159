use Rattle.qpu_hazard.proofs.StepLemmas.{LinksSoFar}
use Rattle.qpu_hazard.proofs.search.Search.visit_links.Given as goal

-- the link points before were looked at
abbrev pub invariant-loop-at : goal.invariant-loop-at
invariant-loop-at l = LinksSoFar l.needs l.flow l.fn.self l.self l.r l.at-items l.at-index
