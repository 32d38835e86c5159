-- What a call that takes steps leaves in its journal. This project's own.
use Rattle.std.specs.Prelude.{◌≡◌, ◌≤◌, ◌+◌, ℕ, ◌++◌, List, length}
use Rattle.qpu_machine.specs.declared.actor.Actor.{Actor}
use Rattle.qpu_machine.specs.declared.journal.Run.{Run}
use Rattle.qpu_machine.specs.Journal.{steps_of}
use Rattle.qpu_machine.specs.Machine.{MachineState, processor_of}
use Rattle.qpu_machine.specs.Sound.{IsSoundMachine}
use Rattle.qpu_machine.specs.Bound.{instructions_left, instructions_of, steps_left}
use Rattle.qpu_machine.specs.TracePaths.{GoesOnPaths}
use Rattle.qpu_machine.specs.Schedule.{After}

-- a journal has gained steps, of which something holds
pub record Gained (before after : List Run) (Holds : List Actor → Type 0) : Type 0 where
  pub steps : List Actor
  pub spells : steps_of after ≡ steps_of before ++ steps
  pub holds : Holds steps

-- a machine has become another by permitted steps: they are no more than it had left; of each
-- processor they have no more instructions than it had left; and the words that they execute for
-- a processor go on the path that it comes from and break no rule
pub record IsRun (m : MachineState) (s : List Actor) (n : MachineState) : Type 0 where
  pub after : After m s n
  pub few : length s + steps_left n ≤ steps_left m
  pub instructions : (q : ℕ) → instructions_of s q + instructions_left n.limit (processor_of n q) ≤ instructions_left m.limit (processor_of m q)
  pub paths : GoesOnPaths m s

-- each permitted schedule of a sound machine is such a run, and leaves the machine sound
abbrev pub SchedulesRun : Type 0
SchedulesRun = (m n : MachineState) (s : List Actor) → IsSoundMachine m → After m s n → IsSoundMachine n × IsRun m s n
