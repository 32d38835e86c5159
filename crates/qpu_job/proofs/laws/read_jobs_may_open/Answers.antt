use Rattle.qpu_job.proofs.MayOpenLaw as law
use Rattle.qpu_job.proofs.laws.read_jobs_may_open.Goals as goal

pub returns : goal.returns
returns c = record { keeps = law.read_jobs_keep; opens = law.read_jobs_may_open }
