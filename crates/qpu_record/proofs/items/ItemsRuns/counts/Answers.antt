-- There are no more runs than bytes.
use Rattle.qpu_record.proofs.LeftLemmas.{left_counts}
use Rattle.qpu_record.proofs.items.ItemsRuns.counts.Goals as goal

pub returns : goal.returns
returns c = rw (← c.self.view_is) (left_counts c.self.inside.number c.self.inside.begun c.self.inside.text.now c.self.invariant)
