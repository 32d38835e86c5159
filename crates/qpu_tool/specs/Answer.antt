-- The status and the text of an answer. This project's own.
use Rattle.std.specs.Prelude.{◌≡◌, ℕ, List}
use Rattle.qpu_io.specs.Output.{Output, appended, Cut}
use Rattle.qpu_machine.specs.Ending.{ending_of}
use Rattle.qpu_dis.specs.Text.{disassembly}
use Rattle.qpu_report.specs.Report.{report_text}
use Rattle.qpu_tool.specs.declared.status.Status.{Status}
use Rattle.qpu_tool.specs.declared.status.Status.TheVariants.{Done, WriteFault}
use Rattle.qpu_tool.specs.declared.answer.Answer.{Answer}
use Rattle.qpu_tool.specs.declared.answer.Answer.TheVariants.{Words, Lines, Counted, Ran, Report, Refused}
use Rattle.qpu_tool.specs.Statuses.{status_for}
use Rattle.qpu_tool.specs.Code.{words_text}
use Rattle.qpu_tool.specs.Counted.{count_line}
use Rattle.qpu_tool.specs.Run.{run_text}
use Rattle.qpu_tool.specs.Refusals.{refusal_line, refusal_status}

abbrev pub status_of : Answer → Status
status_of (Ran run) = status_for (ending_of run.machine)
status_of (Report machine) = status_for (ending_of machine)
status_of (Refused why) = refusal_status why
status_of _ = Done

abbrev pub text_of : Answer → List ℕ
text_of (Words words) = words_text words
text_of (Lines words) = disassembly words
text_of (Counted count) = count_line count
text_of (Ran run) = run_text run.job run.steps run.machine
text_of (Report machine) = report_text machine
text_of (Refused why) = refusal_line why

-- how an answer was given: its whole text, or a front of it where a write failed
abbrev pub IsGiven : Answer → Output → Output → Status → Type 0
IsGiven answer old new WriteFault = Cut old new (text_of answer)
IsGiven answer old new status = (status ≡ status_of answer) × (new ≡ appended old (text_of answer))
