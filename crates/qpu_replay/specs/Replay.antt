-- What a replay of runs by a machine comes to, whichever way schedules lead from one machine to
-- another. This project's own.
use Rattle.std.specs.Prelude.{◌≡◌, ◌≤◌, ℕ, ◌+◌, ◌-◌, true, None, Result, Ok, Err, List, ◌∷◌, ◌++◌, length, replicate, take}
use Rattle.qpu_machine.specs.declared.actor.Actor.{Actor}
use Rattle.qpu_machine.specs.declared.conclusion.Ending.{Ending}
use Rattle.qpu_machine.specs.declared.journal.Run.{Run}
use Rattle.qpu_machine.specs.Ending.{IsFinal, ending_of}
use Rattle.qpu_machine.specs.Journal.{steps_of, steps_in}
use Rattle.qpu_machine.specs.Machine.{MachineState, after_step, is_enabled}
use Rattle.qpu_machine.specs.Schedule.{After}
use Rattle.qpu_replay.specs.declared.fault.ReplayFault.{ReplayFault}
use Rattle.qpu_replay.specs.declared.fault.ReplayFault.TheVariants.{NotEnabled, NotFinished}

-- a step of one run, counted from 1, is the first that isn't enabled where it stands; the second
-- machine is the one before it
pub record StopsIn (Leads : MachineState → List Actor → MachineState → Type 0) (step : ℕ) (run : Run) (m n : MachineState) : Type 0 where
  pub least : 1 ≤ step
  pub most : step ≤ run.count
  pub after : Leads m (replicate (step - 1) run.actor) n
  pub stops : after_step n run.actor ≡ None

-- a step of runs is the first that isn't enabled where it stands: of the run with a number, counted
-- from 1, the step with a number, counted from 1; the second machine is the one before it
pub record StopsAt (Leads : MachineState → List Actor → MachineState → Type 0) (item step : ℕ) (m : MachineState) (runs : List Run) (n : MachineState) : Type 0 where
  pub front : List Run
  pub run : Run
  pub back : List Run
  pub splits : runs ≡ front ++ run ∷ back
  pub number : length front + 1 ≡ item
  pub least : 1 ≤ step
  pub most : step ≤ run.count
  pub after : Leads m (steps_of front ++ replicate (step - 1) run.actor) n
  pub stops : after_step n run.actor ≡ None

-- all steps of the runs are enabled where they stand, and then no actor has a step
pub record IsComplete (Leads : MachineState → List Actor → MachineState → Type 0) (m : MachineState) (runs : List Run) (n : MachineState) : Type 0 where
  pub after : Leads m (steps_of runs) n
  pub final : IsFinal n

-- all steps of the runs are enabled where they stand, and then some actor has a step
pub record IsUnfinished (Leads : MachineState → List Actor → MachineState → Type 0) (m : MachineState) (runs : List Run) (n : MachineState) : Type 0 where
  pub after : Leads m (steps_of runs) n
  pub actor : Actor
  pub moves : is_enabled n actor ≡ true

-- what a fault says
abbrev pub IsFault : (MachineState → List Actor → MachineState → Type 0) → ReplayFault → MachineState → List Run → MachineState → Type 0
IsFault Leads (NotEnabled item step) m runs n = StopsAt Leads item step m runs n
IsFault Leads NotFinished m runs n = IsUnfinished Leads m runs n

-- what an answer says, of the machine before and the one that is left
abbrev pub Replays : Result Ending ReplayFault → MachineState → List Run → MachineState → Type 0
Replays (Ok ending) m runs n = IsComplete After m runs n × (ending ≡ ending_of n)
Replays (Err fault) m runs n = IsFault After fault m runs n

-- the steps that a replay took: all, or those before the one that isn't enabled
abbrev pub steps_taken : Result Ending ReplayFault → List Run → List Actor
steps_taken (Ok ending) runs = steps_of runs
steps_taken (Err NotFinished) runs = steps_of runs
steps_taken (Err (NotEnabled item step)) runs = take (steps_in (take (item - 1) runs) + (step - 1)) (steps_of runs)
