-- A text that doesn't differ from the report is the report.
use Rattle.std.proofs.Common.{sym, ◌∙◌}
use Rattle.qpu_record.specs.Told.{parts_of}
use Rattle.qpu_report.specs.Report.{report_text}
use Rattle.qpu_tool.proofs.ReplayLemmas.{unlike_is}
use Rattle.qpu_tool.proofs.replaying.unlike.Goals as goal

pub returns : goal.returns
returns c =
    let report = rw (c.as_bytes-rest.ensures.value, c.bytes.ensures, c.in_ok-report.ensures) at c.differing_line.ensures in
    unlike_is (parts_of c.args.parts.now) (report_text c.args.end.now) c.differing_line.result
    (rw c.as_bytes-rest.ensures.value at (sym c.is_empty.ensures ∙ c.if-is_empty.false)) report
