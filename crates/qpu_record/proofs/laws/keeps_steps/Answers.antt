use Rattle.qpu_record.proofs.MergedLemmas.{keeps_steps}
use Rattle.qpu_record.proofs.laws.keeps_steps.Goals as goal

pub returns : goal.returns
returns c = keeps_steps
