-- Schedules of whole transfers, as records of version 1 spell them, and the single steps that they
-- stand for. This project's own.
use Rattle.std.specs.Prelude.{◌≡◌, ℕ, ◌-◌, Option, Some, None, Result, Ok, Err, List, [], ◌∷◌, ◌++◌, replicate}
use Rattle.qpu_dma.specs.Transfers.{TransferState}
use Rattle.qpu_shared.specs.Instruction.{pending_of}
use Rattle.qpu_machine.specs.declared.actor.Actor.{Actor}
use Rattle.qpu_machine.specs.declared.actor.Actor.TheVariants.{Exec, Load, Store, Fetch}
use Rattle.qpu_machine.specs.declared.journal.Run.{Run}
use Rattle.qpu_machine.specs.Ending.{IsFinal}
use Rattle.qpu_machine.specs.Journal.{steps_of}
use Rattle.qpu_machine.specs.Machine.{MachineState}
use Rattle.qpu_machine.specs.Schedule.{After}
use Rattle.qpu_replay.specs.declared.fault.WidenFault.{WidenFault}
use Rattle.qpu_replay.specs.declared.fault.WidenFault.TheVariants.{Replay, Memory}
use Rattle.qpu_replay.specs.Replay.{IsFault}

-- the rows of a transfer that are still to move; one step where none is pending
abbrev pub rows_to_move : Option TransferState → ℕ
rows_to_move None = 1
rows_to_move (Some t) = t.rows - t.moved

-- how many steps of an actor one step of it stands for, where a transfer is moved whole
abbrev pub rows_still : MachineState → Actor → ℕ
rows_still m (Exec q) = 1
rows_still m (Load q) = rows_to_move (pending_of m.shared q).load
rows_still m (Store q) = rows_to_move (pending_of m.shared q).store
rows_still m (Fetch q unit) = 1

-- these steps
abbrev pub in_rows : MachineState → Actor → List Actor
in_rows m actor = replicate (rows_still m actor) actor

-- a machine becomes another by one step of an actor where a transfer is moved whole
abbrev pub WholeStep : MachineState → Actor → MachineState → Type 0
WholeStep m actor n = After m (in_rows m actor) n

-- a schedule of whole transfers leads from one machine to another by these single steps, each of them
-- permitted where it stands
pub data Widens : MachineState → List Actor → List Actor → MachineState → Type 0 where
  nothing : {m : MachineState} → Widens m [] [] m
  one_more : {m n k : MachineState} {actor : Actor} {s t : List Actor} → WholeStep m actor n → Widens n s t k → Widens m (actor ∷ s) (in_rows m actor ++ t) k

-- a schedule of whole transfers leads from one machine to another
abbrev pub AfterWhole : MachineState → List Actor → MachineState → Type 0
AfterWhole m s n = (t : List Actor) × Widens m s t n

-- single steps are those that the runs stand for, and then no actor has a step
pub record IsWidened (m : MachineState) (runs : List Run) (t : List Actor) : Type 0 where
  pub left : MachineState
  pub widens : Widens m (steps_of runs) t left
  pub final : IsFinal left

-- why runs lead to no final machine, whichever way schedules lead: their first step that isn't
-- enabled, or some actor has a step after the last. Want of memory is free
abbrev pub FailsBy : (MachineState → List Actor → MachineState → Type 0) → WidenFault → MachineState → List Run → Type 0
FailsBy Leads (Replay fault) m runs = (n : MachineState) × IsFault Leads fault m runs n
FailsBy Leads Memory m runs = Unit {0}

-- what an answer says
abbrev pub WidensTo : Result (List Run) WidenFault → MachineState → List Run → Type 0
WidensTo (Ok wide) m runs = IsWidened m runs (steps_of wide)
WidensTo (Err fault) m runs = FailsBy AfterWhole fault m runs

-- two answers say the same; want of memory is free
abbrev pub SaysSame : Result (List Run) WidenFault → Result (List Run) WidenFault → Type 0
SaysSame (Err Memory) b = Unit {0}
SaysSame (Ok wide) (Err Memory) = Unit {0}
SaysSame (Ok wide) (Ok other) = steps_of wide ≡ steps_of other
SaysSame (Ok wide) (Err (Replay fault)) = ⊥
SaysSame (Err (Replay fault)) (Err Memory) = Unit {0}
SaysSame (Err (Replay fault)) (Err (Replay other)) = fault ≡ other
SaysSame (Err (Replay fault)) (Ok wide) = ⊥
