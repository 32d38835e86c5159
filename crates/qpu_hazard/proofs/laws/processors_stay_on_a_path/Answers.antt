use Rattle.qpu_hazard.proofs.ProcessorLemmas.{processor_stays}
use Rattle.qpu_hazard.proofs.laws.processors_stay_on_a_path.Goals as goal

pub returns : goal.returns
returns c = processor_stays
