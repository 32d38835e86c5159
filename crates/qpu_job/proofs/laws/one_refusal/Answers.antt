-- One refusal at most is due.
use Rattle.qpu_job.proofs.OneMachineLaw as law
use Rattle.qpu_job.proofs.laws.one_refusal.Goals as goal

pub returns : goal.returns
returns c = law.one_refusal
