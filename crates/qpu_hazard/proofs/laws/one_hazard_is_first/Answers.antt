use Rattle.qpu_hazard.proofs.FirstLemmas.{one_first}
use Rattle.qpu_hazard.proofs.laws.one_hazard_is_first.Goals as goal

pub returns : goal.returns
returns c = one_first
