use Rattle.qpu_hazard.proofs.SeenLemmas.{same_slots, found_at}
use Rattle.qpu_hazard.proofs.VisitLemmas.{same_mark}
use Rattle.qpu_hazard.proofs.marks.Marks.insert.Goals as goal

pub returns-clause-has : goal.returns-clause-has
returns-clause-has c =
    let stored = c.in-Ok.ensures.stored in
    found_at _ _ _ _ stored.1 (same_mark _ same_slots c.args.m stored.0 stored.2)
