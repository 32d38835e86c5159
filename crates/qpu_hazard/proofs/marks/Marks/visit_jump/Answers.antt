use Rattle.qpu_hazard.specs.Marks.{IsStepDone}
use Rattle.qpu_hazard.proofs.StepLemmas.{on_ok_with}
use Rattle.qpu_hazard.proofs.VisitLemmas.{jump_done}
use Rattle.qpu_hazard.proofs.marks.Marks.visit_jump.Goals as goal

pub returns-clause-done : goal.returns-clause-done
returns-clause-done c =
    on_ok_with c.visit.result c.visit.ensures.done (λ step a asks low.
    jump_done (IsStepDone c.args.part c.args.flow.now c.visit.new.self c.args.m.now) _ _ _ a c.in-Some.is c.in-Some-place_of.ensures.1 step asks)
