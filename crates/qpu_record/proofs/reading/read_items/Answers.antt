-- Lines of which all are items give these.
use Rattle.qpu_record.proofs.LeftLemmas.{has_items}
use Rattle.qpu_record.proofs.reading.read_items.Goals as goal

pub of-requires : goal.of-requires
of-requires c = has_items c.args.first c.args.text.now c.in_ok-ended.ended c.requires c.in_ok-ended.ensures.is
