use Rattle.qpu_printed.proofs.laws.printed_records_are_read.Goals as goal
use Rattle.qpu_printed.proofs.ReadableLaw.{printed_read}

pub returns : goal.returns
returns c = printed_read
