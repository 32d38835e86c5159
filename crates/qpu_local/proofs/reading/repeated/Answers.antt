use Rattle.qpu_word.proofs.LaneLemmas.{lanes_repeated}
use Rattle.qpu_local.proofs.reading.repeated.Goals as goal

pub returns-clause-lanes : goal.returns-clause-lanes
returns-clause-lanes c = lanes_repeated _
