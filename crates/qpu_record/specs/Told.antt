-- What a record has, as calls answer it. This project's own.
use Rattle.std.specs.Prelude.{◌≡◌, List, Result, Ok, Err}
use Rattle.qpu_machine.specs.declared.journal.Run.{Run}
use Rattle.qpu_record.specs.declared.fault.RecordFault.{RecordFault}
use Rattle.qpu_record.specs.declared.parts.RecordParts.{RecordParts}
use Rattle.qpu_record.specs.declared.reading.Ended.{Ended}
use Rattle.qpu_record.specs.declared.reading.Found.{Found}
use Rattle.qpu_record.specs.Reading.{Parts, Schedule}

abbrev pub parts_of : RecordParts → Parts
parts_of parts = record {
  version = parts.version;
  job = parts.job.now;
  runs = parts.items;
  rest = parts.rest.now;
  rest_line = parts.rest_line;
}

abbrev pub schedule_told : Found → Schedule
schedule_told found = record { runs = found.items; rest = found.rest.now; rest_line = found.rest_line }

-- items that end so are these runs, or have this fault
abbrev pub EndsAs : Result Ended RecordFault → Result Schedule RecordFault → Type 0
EndsAs (Ok ended) due =
    (runs : List Run) × (due ≡ Ok (record { runs = runs; rest = ended.rest.now; rest_line = ended.rest_line }))
EndsAs (Err fault) due = due ≡ Err fault
