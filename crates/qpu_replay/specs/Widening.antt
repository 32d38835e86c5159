-- What stands between the steps of widening, for its private calls. This project's own.
use Rattle.std.specs.Prelude.{◌≡◌, ℕ, List}
use Rattle.qpu_machine.specs.declared.journal.Run.{Run}
use Rattle.qpu_machine.specs.Journal.{steps_of}
use Rattle.qpu_machine.specs.Machine.{MachineState}
use Rattle.qpu_machine.specs.Schedule.{After}
use Rattle.qpu_machine.specs.Sound.{IsSoundMachine}
use Rattle.qpu_replay.specs.declared.fault.ReplayFault.TheVariants.{NotEnabled, NotFinished}
use Rattle.qpu_replay.specs.declared.fault.WidenFault.{WidenFault}
use Rattle.qpu_replay.specs.declared.fault.WidenFault.TheVariants.{Replay, Memory}
use Rattle.qpu_replay.specs.Replay.{StopsIn}
use Rattle.qpu_replay.specs.Widened.{AfterWhole}

-- runs spell steps that have led to a machine
pub record IsSpelled (wide : List Run) (n : MachineState) : Type 0 where
  pub opening : MachineState
  pub sound : IsSoundMachine opening
  pub after : After opening (steps_of wide) n

-- why the run with a number has not been taken
abbrev pub FailsIn : WidenFault → ℕ → MachineState → Run → Type 0
FailsIn (Replay (NotEnabled number step)) item m run = (number ≡ item) × ((n : MachineState) × StopsIn AfterWhole step run m n)
FailsIn (Replay NotFinished) item m run = ⊥
FailsIn Memory item m run = Unit {0}
