use Rattle.std.proofs.Common.{subst, ◌≡◌, ◌*◌, true}
use Rattle.qpu_flow.specs.declared.slots.Successors.{Successors}
use Rattle.qpu_flow.specs.Control.{asks_for}
use Rattle.qpu_hazard.proofs.Basics.{not_true}
use Rattle.qpu_hazard.proofs.KnownLemmas.{fits_known}
use Rattle.qpu_hazard.proofs.StepLemmas.{by_ahead, by_jump, without_links, with_links, on_ok_with, on_ok_both}
use Rattle.qpu_hazard.proofs.search.Search.visit_all.Goals as goal

pub next_from-next-requires-clause-slots : goal.next_from-next-requires-clause-slots
next_from-next-requires-clause-slots c = (fits_known _ _ _ c.requires.known).slots

pub next_from-next-requires-clause-last : goal.next_from-next-requires-clause-last
next_from-next-requires-clause-last c = (fits_known _ _ _ c.requires.known).last

pub visit_ahead-requires-clause-follows : goal.visit_ahead-requires-clause-follows
visit_ahead-requires-clause-follows c = λ a asks low.
    by_ahead _ _ a (subst (λ (x : Successors). asks_for x.ahead a ≡ true) c.next_from-next.ensures asks) low

pub visit_jump-requires-clause-follows : goal.visit_jump-requires-clause-follows
visit_jump-requires-clause-follows c = λ a asks low.
    by_jump _ _ a (subst (λ (x : Successors). asks_for x.jump (8 * a) ≡ true) c.next_from-next.ensures asks) low

pub returns-then-not-next-clause-settled : goal.returns-then-not-next-clause-settled
returns-then-not-next-clause-settled c =
    without_links _ _ _ _ _ _ c.next_from-next.ensures c.in_ok-visit_jump.ensures.grows c.in_ok-visit_ahead.ensures.settled
    c.in_ok-visit_jump.ensures.settled (not_true _ c.if-not-next.true)

pub returns-clause-settled : goal.returns-clause-settled
returns-clause-settled c =
    on_ok_with c.visit_links.result (on_ok_both _ _ c.visit_links.result c.visit_links.ensures.grows c.visit_links.ensures.settled) (λ done.
    with_links _ _ _ _ _ _ _ c.next_from-next.ensures c.in_ok-visit_jump.ensures.grows done.0 c.in_ok-visit_ahead.ensures.settled
    c.in_ok-visit_jump.ensures.settled done.1)
