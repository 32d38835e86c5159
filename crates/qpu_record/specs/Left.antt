-- The runs that the items of a record give, one after another. This project's own.
use Rattle.std.specs.Prelude.{◌≡◌, ◌≤◌, ℕ, ◌+◌, ◌*◌, true, List, [], ◌∷◌, length, Option, Some, None, Result, Ok, Err, is_ok}
use Rattle.qpu_machine.specs.declared.journal.Run.{Run}
use Rattle.qpu_machine.specs.Journal.{pushed, steps_in}
use Rattle.qpu_record.specs.declared.fault.RecordFault.{RecordFault}
use Rattle.qpu_record.specs.declared.item.TheConstants.{MOST_COUNT}
use Rattle.qpu_record.specs.declared.parts.TheConstants.{MOST_TEXT}
use Rattle.qpu_record.specs.Reading.{Schedule, schedule_of}

-- the run above a line, where one is begun
abbrev pub above : Option Run → List Run
above None = []
above (Some run) = run ∷ []

-- the runs of a schedule that has no fault
abbrev pub runs_in : Result Schedule RecordFault → List Run
runs_in (Ok schedule) = schedule.runs
runs_in (Err fault) = []

-- the runs from a line of this number on, that which is begun included
abbrev pub runs_left : ℕ → Option Run → List ℕ → List Run
runs_left number begun text = runs_in (schedule_of number (above begun) [] text)

-- the lines from that of this number on are items up to the line `endrecord`
pub record HasItems (number : ℕ) (begun : Option Run) (text : List ℕ) : Type 0 where
  pub read : is_ok (schedule_of number (above begun) [] text) ≡ true
  pub room : number + length text ≤ MOST_TEXT
  pub steps : steps_in (above begun) ≤ MOST_COUNT * number

-- an item behind the run that is begun makes these runs
abbrev pub with_item : Option Run → Run → List Run
with_item begun item = pushed (above begun) item.actor item.count

-- it begins another run
abbrev pub IsApart : Option Run → Run → Type 0
IsApart None item = ⊥
IsApart (Some run) item = with_item (Some run) item ≡ run ∷ item ∷ []

-- what a call gives of the runs that were left, and what it leaves
abbrev pub GivesRun : Option Run → List Run → List Run → Type 0
GivesRun None old new = old ≡ []
GivesRun (Some run) old new = old ≡ run ∷ new
