-- The record that a run prints is read back. This project's own.
use Rattle.std.specs.Prelude.{◌≡◌, ℕ, ◌+◌, ◌^◌, ◌<◌, List, ◌++◌, length, Ok}
use Rattle.qpu_machine.specs.declared.actor.Actor.{Actor}
use Rattle.qpu_machine.specs.declared.start.Start.{Start}
use Rattle.qpu_machine.specs.Machine.{MachineState, machine_of}
use Rattle.qpu_machine.specs.Opening.{MayOpen}
use Rattle.qpu_machine.specs.Schedule.{After}
use Rattle.qpu_text.specs.Lines.{line_feeds}
use Rattle.qpu_record.specs.declared.parts.Version.TheVariants.{Second}
use Rattle.qpu_record.specs.Reading.{record_of}
use Rattle.qpu_record.specs.Record.{merged, record_text}

-- the record of a job and a schedule that is permitted from a machine before any step gives the
-- job back and what the schedule is put together to, whatever follows it
abbrev pub PrintedRecordsAreRead : Type 0
PrintedRecordsAreRead =
    (memory : List ℕ) (limit : ℕ) (programs : List (List ℕ)) (starts : List Start) (s : List Actor) (n : MachineState)
    → MayOpen limit programs starts → After (machine_of memory limit programs starts) s n
    → (job : List ℕ) → length job < 2 ^ 64 → (rest : List ℕ)
    → record_of (record_text job s ++ rest) ≡ Ok (record {
      version = Second;
      job = job;
      runs = merged s;
      rest = rest;
      rest_line = 1 + line_feeds (record_text job s);
    })
