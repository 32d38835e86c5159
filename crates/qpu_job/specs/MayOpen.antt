-- What is read as a job keeps the bounds on its parts, and its machine may open. This project's own.
use Rattle.std.specs.Prelude.{◌≡◌, ℕ, ◌≤◌, List, length, Ok}
use Rattle.qpu_machine.specs.Opening.{MayOpen}
use Rattle.qpu_job.specs.declared.job.TheConstants.{MOST_TEXT}
use Rattle.qpu_job.specs.Plan.{Plan}
use Rattle.qpu_job.specs.Reading.{job_of}
use Rattle.qpu_job.specs.ReadJob.{IsReadJob}
use Rattle.qpu_job.specs.Opening.{AreClean}

-- what is read as a job keeps the bounds on its parts
abbrev pub ReadJobsKeep : Type 0
ReadJobsKeep = (text : List ℕ) (plan : Plan) → length text ≤ MOST_TEXT → job_of text ≡ Ok plan → IsReadJob plan

-- where its programs are assembled and clean its machine may open
abbrev pub ReadJobsMayOpen : Type 0
ReadJobsMayOpen =
    (text : List ℕ) (plan : Plan) (codes : List (List ℕ)) → length text ≤ MOST_TEXT → job_of text ≡ Ok plan
    → AreClean plan codes → MayOpen plan.limit codes plan.starts
