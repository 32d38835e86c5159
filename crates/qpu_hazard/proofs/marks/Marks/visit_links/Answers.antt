use Rattle.std.proofs.Common.{arith}
use Rattle.qpu_hazard.proofs.VisitLemmas.{link_low, first_done_more, links_done}
use Rattle.qpu_hazard.proofs.marks.Marks.visit_links.Goals as goal

pub visit-requires-clause-there : goal.visit-requires-clause-there
visit-requires-clause-there c = link_low _ _ _ c.links-at-items.ensures c.loop-at-test.true

pub loop-at-preserved : goal.loop-at-preserved
loop-at-preserved c =
    first_done_more _ _ _ _ _ _ _ _ c.loop-at-test.true c.in_ok-visit.ensures.grows c.in_ok-visit.ensures.done c.loop-at.invariant

pub returns-clause-done : goal.returns-clause-done
returns-clause-done c = links_done _ _ _ _ _ _ c.links-at-items.ensures (omega arith) c.loop-at.invariant.done
