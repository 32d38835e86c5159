-- Each part of the text was appended behind those before it.
use Rattle.qpu_io.proofs.Outputs.{turn_later, turn_last}
use Rattle.qpu_report.specs.Report.{report_text}
use Rattle.qpu_report.proofs.report.write_report.Goals as goal

pub returns : goal.returns
unfolding report_text
returns g c =
    turn_later _ _ _ _ _ _ c.in_ok-write_all_of.ensures
    (turn_later _ _ _ _ _ _ c.in_ok-put_processors.ensures
    (turn_later _ _ _ _ _ _ (rw c.shared.ensures at c.in_ok-put_shared.ensures)
    (turn_later _ _ _ _ _ _ c.in_ok-put_ending.ensures
    (turn_last _ _ _ _ c.write_all_of-2.ensures))))
