use Rattle.qpu_hazard.proofs.StandLemmas.{opens}
use Rattle.qpu_hazard.proofs.laws.opens_on_a_path.Goals as goal

pub returns : goal.returns
returns c = opens
