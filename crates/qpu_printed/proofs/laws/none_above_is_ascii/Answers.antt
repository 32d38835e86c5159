use Rattle.qpu_printed.proofs.laws.none_above_is_ascii.Goals as goal
use Rattle.qpu_printed.proofs.HighLemmas.{none_high_back}

pub returns : goal.returns
returns c = none_high_back
