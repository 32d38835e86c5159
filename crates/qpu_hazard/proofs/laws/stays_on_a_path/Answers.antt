use Rattle.qpu_hazard.proofs.StandLemmas.{stays_by}
use Rattle.qpu_hazard.proofs.laws.stays_on_a_path.Goals as goal

pub returns : goal.returns
returns c = stays_by
