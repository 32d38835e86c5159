-- A job that has a machine is refused for nothing, and others for one thing. This project's own.
use Rattle.std.specs.Prelude.{◌≡◌, ◌≢◌, ℕ, List}
use Rattle.qpu_job.specs.declared.fault.JobFault.{JobFault}
use Rattle.qpu_job.specs.declared.fault.JobFault.TheVariants as fault
use Rattle.qpu_job.specs.Plan.{Plan}
use Rattle.qpu_job.specs.Opening.{AreClean, IsMakeFault}

-- where a job's programs are assembled and clean no fault of it is due
abbrev pub CleanJobsAreAccepted : Type 0
CleanJobsAreAccepted = (plan : Plan) (codes : List (List ℕ)) (e : JobFault) → AreClean plan codes → IsMakeFault plan e → e ≢ fault.Memory → ⊥

-- of one job one refusal at most is due, want of memory aside
abbrev pub OneRefusal : Type 0
OneRefusal = (plan : Plan) (e f : JobFault) → IsMakeFault plan e → IsMakeFault plan f → e ≢ fault.Memory → f ≢ fault.Memory → e ≡ f
