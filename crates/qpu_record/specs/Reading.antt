-- What a record has, or its first fault, line after line. This project's own.
use Rattle.std.specs.Prelude.{ℕ, ◌+◌, Bool, List, [], ◌∷◌, ◌++◌, codes, bytes_eq, Result, Ok, Err, if◌then◌else◌}
use Rattle.qpu_machine.specs.declared.journal.Run.{Run}
use Rattle.qpu_machine.specs.Journal.{pushed}
use Rattle.qpu_record.specs.declared.fault.RecordFault.{RecordFault}
use Rattle.qpu_record.specs.declared.fault.RecordFault.TheVariants as fault
use Rattle.qpu_record.specs.declared.parts.Version.{Version}
use Rattle.qpu_text.specs.Bytes.{is_lf}
use Rattle.qpu_record.specs.Items.{item_at}
use Rattle.qpu_record.specs.Heading.{Heading, heading_of, and_then}

-- the items put together, what stands behind the record, and the line with which that begins
pub record Schedule : Type 0 where
  pub runs : List Run
  pub rest : List ℕ
  pub rest_line : ℕ

-- what a record has
pub record Parts : Type 0 where
  pub version : Version
  pub job : List ℕ
  pub runs : List Run
  pub rest : List ℕ
  pub rest_line : ℕ

-- the line that ends a record
abbrev pub is_end : List ℕ → Bool
is_end line = bytes_eq line (codes "endrecord")

abbrev pub ended : ℕ → List Run → List ℕ → Result Schedule RecordFault
ended number runs rest = Ok (record { runs = runs; rest = rest; rest_line = number + 1 })

-- an item that no line feed ends fails as a line
abbrev pub open_item : ℕ → Run → Result Schedule RecordFault
open_item number run = Err (fault.Line number)

-- the schedule from a line of this number on: the runs above it, and of the line what is read so far
unfoldable pub schedule_of : ℕ → List Run → List ℕ → List ℕ → Result Schedule RecordFault
schedule_of number runs line [] =
    if is_end line then ended number runs [] else and_then (item_at number line) (open_item number)
schedule_of number runs line (byte ∷ text) =
    if is_lf byte then
    (if is_end line then ended number runs text
    else and_then (item_at number line) (λ run. schedule_of (number + 1) (pushed runs run.actor run.count) [] text))
    else schedule_of number runs (line ++ byte ∷ []) text

abbrev pub parts_with : Heading → Schedule → Parts
parts_with heading schedule = record {
  version = heading.version;
  job = heading.job;
  runs = schedule.runs;
  rest = schedule.rest;
  rest_line = schedule.rest_line;
}

abbrev pub after_heading : Heading → Result Parts RecordFault
after_heading heading =
    and_then (schedule_of heading.number [] [] heading.rest) (λ schedule. Ok (parts_with heading schedule))

-- what a record has, or its first fault
unfoldable pub record_of : List ℕ → Result Parts RecordFault
record_of text = and_then (heading_of text) after_heading
