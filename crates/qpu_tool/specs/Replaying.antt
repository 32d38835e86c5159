-- The answer of `replay`. This project's own.
use Rattle.std.specs.Prelude.{◌≡◌, ◌≢◌, ◌⊎◌, ℕ, ◌+◌, ◌==◌, List, [], ◌∷◌, Option, Some, None, Ok, Err, if◌then◌else◌}
use Rattle.qpu_machine.specs.declared.actor.Actor.{Actor}
use Rattle.qpu_machine.specs.Machine.{MachineState}
use Rattle.qpu_machine.specs.Schedule.{After}
use Rattle.qpu_record.specs.declared.fault.RecordFault.{RecordFault}
use Rattle.qpu_record.specs.declared.parts.Version.{Version}
use Rattle.qpu_record.specs.declared.parts.Version.TheVariants.{First, Second}
use Rattle.qpu_record.specs.Reading.{Parts, record_of}
use Rattle.qpu_report.specs.Report.{report_text}
use Rattle.qpu_replay.specs.declared.fault.ReplayFault.{ReplayFault}
use Rattle.qpu_replay.specs.Replay.{IsComplete, IsFault}
use Rattle.qpu_replay.specs.Widened.{AfterWhole}
use Rattle.qpu_tool.specs.declared.answer.Answer.{Answer}
use Rattle.qpu_tool.specs.declared.answer.Answer.TheVariants as answer
use Rattle.qpu_tool.specs.declared.refusal.Refusal.{Refusal}
use Rattle.qpu_tool.specs.declared.refusal.Refusal.TheVariants.{Record, Schedule, Report}
use Rattle.qpu_tool.specs.Opening.{OpensJob, JobRefusal}

-- the report behind a record

-- the line in which a text first differs from another, its line feed included, the line of their first
-- bytes having a number; none where they are the same
unfoldable pub differing_line : ℕ → List ℕ → List ℕ → Option ℕ
differing_line line [] [] = None
differing_line line [] (b ∷ other) = Some line
differing_line line (a ∷ text) [] = Some line
differing_line line (a ∷ text) (b ∷ other) =
    if a == b then differing_line (if a == 10 then line + 1 else line) text other else Some line

-- what stands behind a record is nothing, or this report; else it differs from it in this line
abbrev pub IsUnlike : Parts → List ℕ → Option ℕ → Type 0
IsUnlike parts report None = (parts.rest ≡ []) ⊎ (parts.rest ≡ report)
IsUnlike parts report (Some line) = (parts.rest ≢ []) × (differing_line parts.rest_line parts.rest report ≡ Some line)

-- the answer

-- how the steps of a record lead from one machine to another: where it is of version 1, each step of
-- a load or store stands for the moves of all rows that its transfer has left
abbrev pub leads_by : Version → MachineState → List Actor → MachineState → Type 0
leads_by First = AfterWhole
leads_by Second = After

-- a text is a record with these parts, and the machine is that of its job before any step
pub record OpensRecord (text : List ℕ) (parts : Parts) (m : MachineState) : Type 0 where
  pub is_record : record_of text ≡ Ok parts
  pub opens : OpensJob parts.job m

-- the answer to a text of ASCII, in the order in which refusals are tried: its lines; its job; the first
-- step that isn't enabled, by the items and steps of the record itself, or that something can still
-- move; a report behind it that isn't the machine's; or the machine's report
pub data RecordAnswer (text : List ℕ) : Answer → Type 0 where
  no_record : (e : RecordFault) → record_of text ≡ Err e → RecordAnswer text (answer.Refused (Record e))
  no_start : (parts : Parts) (why : Refusal) → record_of text ≡ Ok parts → JobRefusal parts.job why → RecordAnswer text (answer.Refused why)
  not_taken : (parts : Parts) (m n : MachineState) (e : ReplayFault) → OpensRecord text parts m → IsFault (leads_by parts.version) e m parts.runs n
      → RecordAnswer text (answer.Refused (Schedule e))
  other_report : (parts : Parts) (m n : MachineState) (line : ℕ) → OpensRecord text parts m → IsComplete (leads_by parts.version) m parts.runs n
      → IsUnlike parts (report_text n) (Some line) → RecordAnswer text (answer.Refused (Report line))
  replayed : (parts : Parts) (m n : MachineState) → OpensRecord text parts m → IsComplete (leads_by parts.version) m parts.runs n
      → IsUnlike parts (report_text n) None → RecordAnswer text (answer.Report n)
