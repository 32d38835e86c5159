-- A machine has one serial schedule. This project's own.
use Rattle.std.specs.Prelude.{◌≡◌, List}
use Rattle.qpu_machine.specs.declared.actor.Actor.{Actor}
use Rattle.qpu_machine.specs.Machine.{MachineState}
use Rattle.qpu_machine.specs.Serial.{SerialSchedule}

-- two serial schedules of a machine are one, and lead to one machine
abbrev pub HasOneSerialSchedule : Type 0
HasOneSerialSchedule =
    (m n k : MachineState) (s t : List Actor) → SerialSchedule m s n → SerialSchedule m t k → (s ≡ t) × (n ≡ k)
