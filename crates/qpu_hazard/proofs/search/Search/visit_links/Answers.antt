use Rattle.std.proofs.Common.{arith}
use Rattle.qpu_hazard.proofs.StepLemmas.{link_follows, links_more, links_all}
use Rattle.qpu_hazard.proofs.search.Search.visit_links.Goals as goal

pub visit-requires-clause-follows : goal.visit-requires-clause-follows
visit-requires-clause-follows c = link_follows _ _ _ _ c.links-at-items.ensures c.loop-at-test.true c.requires.any

pub loop-at-preserved : goal.loop-at-preserved
loop-at-preserved c =
    links_more _ _ _ _ _ _ _ _ c.loop-at-test.true c.in_ok-visit.ensures.sound c.in_ok-visit.ensures.grows c.in_ok-visit.ensures.settled c.loop-at.invariant

pub returns-clause-settled : goal.returns-clause-settled
returns-clause-settled c = links_all _ _ _ _ _ _ c.links-at-items.ensures (omega arith) c.loop-at.invariant.settled
