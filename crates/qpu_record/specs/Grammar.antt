-- The grammar of records: what is written, with items that needn't be put together and with or
-- without the last line feed. How a text is cut isn't told here. This project's own.
use Rattle.std.specs.Prelude.{◌≡◌, ℕ, ◌+◌, ◌^◌, ◌<◌, ◌≤◌, List, [], ◌∷◌, ◌++◌, length, fold, flat_map, decimal, codes, Ok}
use Rattle.std.specs.List.{AllByRecursion}
use Rattle.qpu_io.specs.Text.{joined, in_turn}
use Rattle.qpu_machine.specs.declared.actor.Actor.{Actor}
use Rattle.qpu_machine.specs.declared.actor.Actor.TheVariants.{Exec, Load, Store, Fetch}
use Rattle.qpu_machine.specs.declared.journal.Run.{Run}
use Rattle.qpu_machine.specs.Journal.{pushed}
use Rattle.qpu_record.specs.declared.item.TheConstants.{MOST_COUNT, MOST_PROCESSOR, MOST_UNIT}
use Rattle.qpu_text.specs.Bytes.{LF}
use Rattle.qpu_text.specs.Lines.{line_feeds}
use Rattle.qpu_record.specs.declared.parts.Version.{Version}
use Rattle.qpu_record.specs.declared.parts.Version.TheVariants.{Second}
use Rattle.qpu_record.specs.Record.{item_text, opening_line, missing_line_end, merged, record_text}
use Rattle.qpu_record.specs.Reading.{Parts, record_of}

-- the ranges of an item's numbers

abbrev pub IsActor : Actor → Type 0
IsActor (Exec q) = q ≤ MOST_PROCESSOR
IsActor (Load q) = q ≤ MOST_PROCESSOR
IsActor (Store q) = q ≤ MOST_PROCESSOR
IsActor (Fetch q unit) = (q ≤ MOST_PROCESSOR) × (unit ≤ MOST_UNIT)

abbrev pub IsItem : Run → Type 0
IsItem run = IsActor run.actor × (1 ≤ run.count) × (run.count ≤ MOST_COUNT)

-- items one after the other, neighbours of one actor put together

abbrev pub put : List Run → Run → List Run
put runs run = pushed runs run.actor run.count

abbrev pub put_together : List Run → List Run
put_together items = fold put [] items

-- a record of a version up to the word `endrecord`
unfoldable pub front_text : Version → List ℕ → List Run → List ℕ
front_text version job items =
    in_turn
    (opening_line version
    ∷ joined (codes "job " ∷ decimal (length job) ∷ codes "\n" ∷ [])
    ∷ job
    ∷ missing_line_end job
    ∷ codes "schedule\n"
    ∷ flat_map item_text items
    ∷ codes "endrecord"
    ∷ [])

-- what stands behind that: nothing, or the line feed and the rest
pub data IsBehind : List ℕ → List ℕ → Type 0 where
  nothing : IsBehind [] []
  line_end : (rest : List ℕ) → IsBehind (LF ∷ rest) rest

-- a text is a record and the rest
pub record IsRecord (text : List ℕ) (parts : Parts) : Type 0 where
  pub items : List Run
  pub ranges : AllByRecursion IsItem items
  pub behind : List ℕ
  pub written : text ≡ front_text parts.version parts.job items ++ behind
  pub followed : IsBehind behind parts.rest
  pub together : parts.runs ≡ put_together items
  pub line : parts.rest_line ≡ line_feeds (front_text parts.version parts.job items) + 2

-- what is read is a record
abbrev pub ReadsRecordsAlone : Type 0
ReadsRecordsAlone =
    (text : List ℕ) (parts : Parts) → length text < 2 ^ 64 → record_of text ≡ Ok parts → IsRecord text parts

-- every record is read
abbrev pub ReadsEveryRecord : Type 0
ReadsEveryRecord =
    (text : List ℕ) (parts : Parts) → length text < 2 ^ 64 → IsRecord text parts → record_of text ≡ Ok parts

-- a record that was written of a job and a schedule gives them back, and version 2, whatever follows it
abbrev pub RecordsAreRead : Type 0
RecordsAreRead =
    (job : List ℕ) (s : List Actor) (rest : List ℕ) → length job < 2 ^ 64 → AllByRecursion IsItem (merged s)
    → record_of (record_text job s ++ rest) ≡ Ok (record {
      version = Second;
      job = job;
      runs = merged s;
      rest = rest;
      rest_line = 1 + line_feeds (record_text job s);
    })
