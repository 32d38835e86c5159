use Rattle.qpu_printed.proofs.laws.records_are_ascii.Goals as goal
use Rattle.qpu_printed.proofs.RecordAscii.{records_ascii}

pub returns : goal.returns
returns c = records_ascii
