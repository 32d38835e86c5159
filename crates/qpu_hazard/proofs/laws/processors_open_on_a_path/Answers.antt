use Rattle.qpu_hazard.proofs.ProcessorLemmas.{processor_opens}
use Rattle.qpu_hazard.proofs.laws.processors_open_on_a_path.Goals as goal

pub returns : goal.returns
returns c = processor_opens
