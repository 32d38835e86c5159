use Rattle.std.proofs.Common.{List, sym, ◌∙◌, subst, arith}
use Rattle.std.specs.Prelude.{All, Contains}
use Rattle.std.proofs.lemmas.List.Elements.{All-nil}
use Rattle.qpu_hazard.specs.declared.trail.Trail.{Trail}
use Rattle.qpu_hazard.specs.Search.{Known}
use Rattle.qpu_hazard.proofs.StepLemmas.{going_first, going_on, known_more, opens_known, opening_kept}
use Rattle.qpu_hazard.proofs.search.explore.Goals as goal

pub loop-next-init : goal.loop-next-init
loop-next-init c =
    let opens : Known c.args.needs c.args.flow.now c.opening.result =
    subst (λ (r : Trail). Known c.args.needs c.args.flow.now r) (sym c.opening.ensures) (opens_known _ _ c.requires.sparing c.requires.some) in
    let none : All (Known c.args.needs c.args.flow.now) c.new.result =
    subst (λ (l : List Trail). All (Known c.args.needs c.args.flow.now) l) (sym c.new.ensures) (All-nil (Known c.args.needs c.args.flow.now)) in
    going_first _ _ _
    (subst (λ (r : Trail). Contains c.add.new.self r) (c.opening.ensures ∙ opening_kept _ _) c.in_ok-add.ensures.has)
    (record { known = known_more _ _ _ _ _ none opens c.in_ok-add.ensures.one; best = tt })

pub visit_all-requires-clause-known : goal.visit_all-requires-clause-known
visit_all-requires-clause-known c =
    subst (λ (r : Trail). Known c.args.needs c.args.flow.now r) (sym (c.at-r.ensures c.at-r.result))
    (c.loop-next.invariant.sound.known c.loop-next.next c.at-r.result (omega arith))

pub loop-next-preserved : goal.loop-next-preserved
loop-next-preserved c =
    going_on _ _ _ _ _ _ (omega arith) c.at-r.ensures c.in_ok-visit_all.ensures.sound c.in_ok-visit_all.ensures.grows
    c.in_ok-visit_all.ensures.settled c.loop-next.invariant
