use Rattle.qpu_printed.proofs.laws.reports_are_ascii.Goals as goal
use Rattle.qpu_printed.proofs.ReportAscii.{reports_ascii}

pub returns : goal.returns
returns c = reports_ascii
