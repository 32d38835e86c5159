-- Records and reports are ASCII. This project's own.
use Rattle.std.specs.Prelude.{◌≡◌, ℕ, ◌<◌, nat_lt, Bool, List, [], ◌∷◌, All, position, None}
use Rattle.qpu_io.specs.Text.{in_turn}
use Rattle.qpu_machine.specs.declared.actor.Actor.{Actor}
use Rattle.qpu_machine.specs.Machine.{MachineState}
use Rattle.qpu_record.specs.Record.{record_text}
use Rattle.qpu_report.specs.Report.{report_text}

-- each byte of a text is ASCII
abbrev pub HasAsciiAlone : List ℕ → Type 0
HasAsciiAlone text = All (λ byte. byte < 128) text

-- a byte that is no ASCII
abbrev pub is_above : ℕ → Bool
is_above byte = nat_lt 127 byte

-- a text of ASCII has no such byte
abbrev pub AsciiHasNoneAbove : Type 0
AsciiHasNoneAbove = (text : List ℕ) → HasAsciiAlone text → position is_above text ≡ None

-- and one that has none is ASCII
abbrev pub NoneAboveIsAscii : Type 0
NoneAboveIsAscii = (text : List ℕ) → position is_above text ≡ None → HasAsciiAlone text

-- a record's text is ASCII, where its job is
abbrev pub RecordsAreAscii : Type 0
RecordsAreAscii = (job : List ℕ) (s : List Actor) → HasAsciiAlone job → HasAsciiAlone (record_text job s)

-- a report's text is ASCII
abbrev pub ReportsAreAscii : Type 0
ReportsAreAscii = (m : MachineState) → HasAsciiAlone (report_text m)

-- so what a run prints of a job has no byte that is none, where the job has none
abbrev pub PrintedHasNoneAbove : Type 0
PrintedHasNoneAbove =
    (job : List ℕ) (s : List Actor) (m : MachineState) → position is_above job ≡ None
    → position is_above (in_turn (record_text job s ∷ report_text m ∷ [])) ≡ None
