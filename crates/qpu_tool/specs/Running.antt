-- The answer of `run -w 0`, and the promise of a run. This project's own.
use Rattle.std.specs.Prelude.{◌≤◌, ℕ, List, length}
use Rattle.qpu_machine.specs.declared.actor.Actor.{Actor}
use Rattle.qpu_machine.specs.Machine.{MachineState}
use Rattle.qpu_machine.specs.Schedule.{After}
use Rattle.qpu_machine.specs.Ending.{IsFinal}
use Rattle.qpu_machine.specs.Serial.{SerialSchedule}
use Rattle.qpu_tool.specs.declared.command.TheConstants.{MOST_INPUT}
use Rattle.qpu_tool.specs.declared.answer.Answer.{Answer}
use Rattle.qpu_tool.specs.declared.answer.Answer.TheVariants.{Ran, Refused}
use Rattle.qpu_tool.specs.declared.refusal.Refusal.{Refusal}
use Rattle.qpu_tool.specs.Ascii.{IsAscii}
use Rattle.qpu_tool.specs.Opening.{OpensJob, JobRefusal}

-- a schedule and a machine are what the run of a job comes to
pub record FaithfulRun (job : List ℕ) (s : List Actor) (m : MachineState) : Type 0 where
  -- the job's machine, whose programs break no hazard rule on any path
  pub opening : MachineState
  pub opens : OpensJob job opening
  -- the schedule leads from there to this machine, each step permitted where it stands
  pub permitted : After opening s m
  -- there nothing can move
  pub complete : IsFinal m
  -- the schedule is the serial one
  pub serial : SerialSchedule opening s m

-- the answer to a text of ASCII: why it is no job that runs, or a run of the job that it is
pub data RunAnswer (text : List ℕ) : Answer → Type 0 where
  refused : (why : Refusal) → JobRefusal text why → RunAnswer text (Refused why)
  ran : (s : List Actor) (m : MachineState) → FaithfulRun text s m → RunAnswer text (Ran (record { job = text; steps = s; machine = m }))

-- a job and a schedule that a run prints: the job is accepted; the schedule leads from the job's
-- machine to this one, each step permitted where it stands; there nothing can move
pub record CanRun (job : List ℕ) (s : List Actor) (m : MachineState) : Type 0 where
  pub opening : MachineState
  pub short : length job ≤ MOST_INPUT
  pub ascii : IsAscii job
  pub opens : OpensJob job opening
  pub permitted : After opening s m
  pub complete : IsFinal m
