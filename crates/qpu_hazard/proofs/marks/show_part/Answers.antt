use Rattle.std.proofs.Common.{subst, arith}
use Rattle.std.specs.Prelude.{Contains}
use Rattle.qpu_hazard.specs.declared.mark.Mark.{Mark}
use Rattle.qpu_hazard.proofs.ClosedLemmas.{clean_from_done}
use Rattle.qpu_hazard.proofs.VisitLemmas.{going_at_first, going_further, going_to_the_end}
use Rattle.qpu_hazard.proofs.marks.show_part.Goals as goal

pub loop-next-init : goal.loop-next-init
loop-next-init c =
    going_at_first _ _ _ (subst (λ (m : Mark). Contains c.add.new.self m) c.opening_mark.ensures c.in_ok-add.ensures.has)

pub loop-next-preserved : goal.loop-next-preserved
loop-next-preserved c =
    going_further _ _ _ _ _ _ (omega arith) c.at-m.ensures c.in_ok-visit_all.ensures.grows c.in_ok-visit_all.ensures.done c.loop-next.invariant

pub returns : goal.returns
returns c = clean_from_done _ _ _ (going_to_the_end _ _ _ _ (omega arith) c.loop-next.invariant)
