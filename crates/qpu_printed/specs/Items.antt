-- What the record of a permitted schedule has, and what it spells. This project's own.
use Rattle.std.specs.Prelude.{◌≡◌, ℕ, List}
use Rattle.std.specs.List.{AllByRecursion}
use Rattle.qpu_machine.specs.declared.actor.Actor.{Actor}
use Rattle.qpu_machine.specs.declared.start.Start.{Start}
use Rattle.qpu_machine.specs.Journal.{steps_of}
use Rattle.qpu_machine.specs.Machine.{MachineState, machine_of}
use Rattle.qpu_machine.specs.Opening.{MayOpen}
use Rattle.qpu_machine.specs.Schedule.{After}
use Rattle.qpu_record.specs.Grammar.{IsItem}
use Rattle.qpu_record.specs.Record.{merged}

-- a schedule with neighbouring steps of one actor put together spells the schedule
abbrev pub MergedSpells : Type 0
MergedSpells = (s : List Actor) → steps_of (merged s) ≡ s

-- what a schedule that is permitted from a machine before any step is put together to are items of
-- a record, each number in its range
abbrev pub SchedulesHaveItems : Type 0
SchedulesHaveItems =
    (memory : List ℕ) (limit : ℕ) (programs : List (List ℕ)) (starts : List Start) (s : List Actor) (n : MachineState)
    → MayOpen limit programs starts → After (machine_of memory limit programs starts) s n → AllByRecursion IsItem (merged s)
