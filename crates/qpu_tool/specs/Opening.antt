-- The machine of a job's text, and why it has none. This project's own.
use Rattle.std.specs.Prelude.{◌≡◌, ◌≢◌, ℕ, List, Some, Result, Ok, Err}
use Rattle.qpu_machine.specs.Machine.{MachineState}
use Rattle.qpu_machine.specs.Views.{Started}
use Rattle.qpu_job.specs.declared.fault.JobFault.{JobFault}
use Rattle.qpu_job.specs.declared.fault.JobFault.TheVariants as fault
use Rattle.qpu_job.specs.Plan.{Plan}
use Rattle.qpu_job.specs.Reading.{job_of, IsReadFault}
use Rattle.qpu_job.specs.Opening.{AreClean, opening_machine, Opens, IsMakeFault}
use Rattle.qpu_tool.specs.declared.refusal.Refusal.{Refusal}
use Rattle.qpu_tool.specs.declared.refusal.Refusal.TheVariants.{Asm, Job, Hazard}
use Rattle.qpu_tool.specs.Refusals.{name_at, names_of}

-- a machine is the job's before any step: no path of its programs' words breaks a hazard rule
pub record OpensJob (text : List ℕ) (m : MachineState) : Type 0 where
  pub plan : Plan
  pub codes : List (List ℕ)
  pub is_job : job_of text ≡ Ok plan
  pub are_clean : AreClean plan codes
  pub opens : m ≡ opening_machine plan codes

-- the refusal that tells a fault of a job whose programs have these names
abbrev pub refusal_of : List (List ℕ) → JobFault → Refusal
refusal_of names (fault.Asm told) = Asm told
refusal_of names (fault.Check program why) = Hazard (Some (name_at names program)) why
refusal_of names e = Job e

-- why a job is refused, in the order in which refusals are tried: the first failing line; the first
-- program that isn't assembled; of the first program that the checker refuses, the least word outside
-- the profile, or the first hazard
pub data JobRefusal (text : List ℕ) : Refusal → Type 0 where
  no_job : (e : JobFault) → job_of text ≡ Err e → IsReadFault e → e ≢ fault.Memory → JobRefusal text (Job e)
  no_machine : (plan : Plan) (e : JobFault) → job_of text ≡ Ok plan → IsMakeFault plan e → e ≢ fault.Memory
      → JobRefusal text (refusal_of (names_of plan) e)

-- what a job's text comes to
abbrev pub IsOpened : List ℕ → Result Started Refusal → Type 0
IsOpened text (Ok machine) = OpensJob text machine.state
IsOpened text (Err refusal) = JobRefusal text refusal

-- what a job that was read comes to
abbrev pub IsMade : Plan → Result Started Refusal → Type 0
IsMade plan (Ok machine) = Opens plan machine
IsMade plan (Err refusal) = (e : JobFault) × IsMakeFault plan e × (e ≢ fault.Memory) × (refusal ≡ refusal_of (names_of plan) e)
