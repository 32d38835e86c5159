use Rattle.qpu_printed.proofs.laws.ascii_has_none_above.Goals as goal
use Rattle.qpu_printed.proofs.HighLemmas.{none_high}

pub returns : goal.returns
returns c = none_high
