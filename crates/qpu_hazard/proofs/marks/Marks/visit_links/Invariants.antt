use Rattle.qpu_hazard.specs.Marks.{AreFirstDone}
use Rattle.qpu_hazard.proofs.marks.Marks.visit_links.Given as goal

-- the link points before were looked at
abbrev pub invariant-loop-at : goal.invariant-loop-at
invariant-loop-at l = AreFirstDone l.part l.flow l.fn.self l.self l.m l.at-items l.at-index
