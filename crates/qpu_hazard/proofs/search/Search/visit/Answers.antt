use Rattle.std.proofs.Common.{◌≡◌, [], sym, ◌∙◌, subst}
use Rattle.qpu_hazard.specs.declared.trail.Trail.{Trail}
use Rattle.qpu_hazard.specs.Search.{Known}
use Rattle.qpu_hazard.proofs.KnownLemmas.{fits_known, there_known, known_onward}
use Rattle.qpu_hazard.proofs.StepLemmas.{empty_from_test, best_after, known_more, on_ok_with}
use Rattle.qpu_hazard.proofs.search.Search.visit.Goals as goal

pub breaks_after-requires-clause-fits : goal.breaks_after-requires-clause-fits
breaks_after-requires-clause-fits c = fits_known _ _ _ c.requires.known

pub breaks_after-requires-clause-there : goal.breaks_after-requires-clause-there
breaks_after-requires-clause-there c = there_known _ _ _ _ c.requires.known c.requires.follows

pub further-requires-clause-fits : goal.further-requires-clause-fits
further-requires-clause-fits c = fits_known _ _ _ c.requires.known

pub further-requires-clause-there : goal.further-requires-clause-there
further-requires-clause-there c = there_known _ _ _ _ c.requires.known c.requires.follows

pub returns-then-not-is_empty-clause-sound : goal.returns-then-not-is_empty-clause-sound
returns-then-not-is_empty-clause-sound c = record {
  known = c.requires.sound.known;
  best = best_after _ _ _ _ _ _ _ c.requires.known c.requires.follows (c.as_slice-told.ensures.value ∙ c.in_ok-breaks.ensures) c.requires.sound.best c.keep_all.ensures.one;
}

pub returns-clause-sound : goal.returns-clause-sound
returns-clause-sound c =
    let none : c.in_ok-breaks.breaks.items ≡ [] = sym c.as_slice-told.ensures.value ∙ empty_from_test _ (sym c.is_empty.ensures ∙ c.if-not-is_empty.false) in
    let known : Known c.args.needs c.args.flow.now c.further.result =
    subst (λ (x : Trail). Known c.args.needs c.args.flow.now x) (sym c.further.ensures)
    (known_onward _ _ _ _ c.requires.known c.requires.follows (sym c.in_ok-breaks.ensures ∙ none)) in
    on_ok_with c.add.result c.add.ensures.one (λ one. record {
      known = known_more _ _ _ _ _ c.requires.sound.known known one;
      best = best_after _ _ _ _ _ _ _ c.requires.known c.requires.follows (c.as_slice-told.ensures.value ∙ c.in_ok-breaks.ensures) c.requires.sound.best c.keep_all.ensures.one;
    })
