use Rattle.qpu_printed.proofs.laws.merged_spells.Goals as goal
use Rattle.qpu_printed.proofs.SpellLemmas.{merged_spells}

pub returns : goal.returns
returns c = merged_spells
