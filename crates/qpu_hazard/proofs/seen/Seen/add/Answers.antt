use Rattle.qpu_hazard.proofs.SeenLemmas.{same_slots, same_trail, found_at}
use Rattle.qpu_hazard.proofs.seen.Seen.add.Goals as goal

pub returns-clause-has : goal.returns-clause-has
returns-clause-has c =
    let stored = c.in_ok-insert_full.ensures.stored in
    found_at _ _ _ _ stored.1 (same_trail _ same_slots c.args.r stored.0 stored.2)
