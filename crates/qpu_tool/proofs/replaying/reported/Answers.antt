-- The report is the machine's, or stands behind the record as another.
use Rattle.qpu_record.specs.Told.{parts_of}
use Rattle.qpu_tool.specs.Replaying.{other_report, replayed}
use Rattle.qpu_tool.proofs.replaying.reported.Goals as goal

pub returns-in-None : goal.returns-in-None
returns-in-None c =
    replayed (parts_of c.args.parts.now) c.requires.0 c.args.end c.requires.1 c.requires.2 (rw c.in-None.is at c.in_ok-unlike.ensures)

pub returns : goal.returns
returns c =
    other_report (parts_of c.args.parts.now) c.requires.0 c.args.end c.in-Some.line c.requires.1 c.requires.2 (rw c.in-Some.is at c.in_ok-unlike.ensures)
