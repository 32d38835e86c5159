use Rattle.std.proofs.Common.{Bool, ◌&&◌, refl, ap, sym, ◌∙◌}
use Rattle.qpu_dma.specs.States.{state_of}
use Rattle.qpu_dma.proofs.FitLemmas.{fits_of_tests, aligned_test}
use Rattle.qpu_dma.proofs.places.Places.fits.Goals as goal

pub returns-then-is_inside : goal.returns-then-is_inside
returns-then-is_inside c =
    sym (fits_of_tests (state_of c.args.self.now 0) c.args.words c.spot-last.result.at c.spot-last.result.row c.spot-last.result.column
    c.is_inside.result c.is_aligned.result c.requires.some_rows c.requires.some_elements
    c.spot-last.ensures.at c.spot-last.ensures.row c.spot-last.ensures.column c.is_inside.ensures c.is_aligned.ensures
    ∙ ap (λ (inside : Bool). inside && c.is_aligned.result) c.if-is_inside.true)

pub returns-else-is_inside : goal.returns-else-is_inside
returns-else-is_inside c =
    c.if-is_inside.false
    ∙ sym (fits_of_tests (state_of c.args.self.now 0) c.args.words c.spot-last.result.at c.spot-last.result.row c.spot-last.result.column
    c.is_inside.result (aligned_test (state_of c.args.self.now 0)) c.requires.some_rows c.requires.some_elements
    c.spot-last.ensures.at c.spot-last.ensures.row c.spot-last.ensures.column c.is_inside.ensures refl
    ∙ ap (λ (inside : Bool). inside && aligned_test (state_of c.args.self.now 0)) c.if-is_inside.false)
