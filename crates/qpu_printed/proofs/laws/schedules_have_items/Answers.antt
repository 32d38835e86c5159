use Rattle.qpu_printed.proofs.laws.schedules_have_items.Goals as goal
use Rattle.qpu_printed.proofs.ItemLemmas.{schedules_items}

pub returns : goal.returns
returns c = schedules_items
