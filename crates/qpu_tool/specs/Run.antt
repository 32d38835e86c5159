-- A run that came to its end, and its text. This project's own.
use Rattle.std.specs.Prelude.{ℕ, List, [], ◌∷◌}
use Rattle.qpu_io.specs.Text.{in_turn}
use Rattle.qpu_machine.specs.declared.actor.Actor.{Actor}
use Rattle.qpu_machine.specs.Machine.{MachineState}
use Rattle.qpu_record.specs.Record.{record_text}
use Rattle.qpu_report.specs.Report.{report_text}

-- the text of a job, the steps that were taken, and the machine after them
pub record Ran : Type 0 where
  pub job : List ℕ
  pub steps : List Actor
  pub machine : MachineState

-- the text of a run of a job: the record of the schedule, then the report of the machine
unfoldable pub run_text : List ℕ → List Actor → MachineState → List ℕ
run_text job s m = in_turn (record_text job s ∷ report_text m ∷ [])
