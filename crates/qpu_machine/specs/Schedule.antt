-- Schedules: lists of actors that take a step each, one after another. This project's own.
use Rattle.std.specs.Prelude.{List, [], ◌∷◌}
use Rattle.qpu_machine.specs.declared.actor.Actor.{Actor}
use Rattle.qpu_machine.specs.Machine.{MachineState, Step}

-- a schedule leads from one machine to another, each of its steps permitted where it stands
pub data After : MachineState → List Actor → MachineState → Type 0 where
  here : {m : MachineState} → After m [] m
  next : {m n k : MachineState} {actor : Actor} {s : List Actor} → Step m actor n → After n s k → After m (actor ∷ s) k
