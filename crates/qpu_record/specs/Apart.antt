-- A record spells one schedule, the one that it was written of. This project's own.
use Rattle.std.specs.Prelude.{◌≡◌, ℕ, ◌<◌, ◌^◌, List}
use Rattle.std.specs.List.{AllByRecursion}
use Rattle.qpu_machine.specs.declared.actor.Actor.{Actor}
use Rattle.qpu_machine.specs.declared.actor.Actor.TheVariants.{Exec, Load, Store, Fetch}
use Rattle.qpu_machine.specs.declared.journal.Run.{Run}
use Rattle.qpu_machine.specs.Journal.{IsMerged, steps_of}
use Rattle.qpu_record.specs.Record.{merged, record_text}

-- an actor's numbers have 64 bits
abbrev pub IsActorOf64 : Actor → Type 0
IsActorOf64 (Exec q) = q < 2 ^ 64
IsActorOf64 (Load q) = q < 2 ^ 64
IsActorOf64 (Store q) = q < 2 ^ 64
IsActorOf64 (Fetch q unit) = (q < 2 ^ 64) × (unit < 2 ^ 64)

-- a run's numbers have 64 bits
abbrev pub IsRunOf64 : Run → Type 0
IsRunOf64 run = IsActorOf64 run.actor × (run.count < 2 ^ 64)

-- two schedules of such runs with one record are the same but for how neighbours are counted
abbrev pub SpellsOneSchedule : Type 0
SpellsOneSchedule =
    (job : List ℕ) (s t : List Actor) → AllByRecursion IsRunOf64 (merged s) → AllByRecursion IsRunOf64 (merged t)
    → record_text job s ≡ record_text job t → merged s ≡ merged t

-- putting neighbours of one actor together keeps the steps, and leaves no two such neighbours
abbrev pub KeepsSteps : Type 0
KeepsSteps = (s : List Actor) → IsMerged (merged s) × (steps_of (merged s) ≡ s)
