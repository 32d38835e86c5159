-- The generated job is read as what it asks for. This project's own.
use Rattle.std.specs.Prelude.{◌≡◌, ℕ, ◌^◌, ◌<◌, Ok}
use Rattle.qpu_job.specs.Reading.{job_of}
use Rattle.qpu_gen.specs.Generated.{generated_job}
use Rattle.qpu_gen.specs.Plan.{generated_plan}

abbrev pub GeneratedJobsAreRead : Type 0
GeneratedJobsAreRead = (n : ℕ) → n < 2 ^ 32 → job_of (generated_job n) ≡ Ok (generated_plan n)
