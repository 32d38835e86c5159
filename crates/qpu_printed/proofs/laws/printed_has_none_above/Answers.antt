use Rattle.qpu_printed.proofs.laws.printed_has_none_above.Goals as goal
use Rattle.qpu_printed.proofs.PrintedAscii.{printed_ascii}

pub returns : goal.returns
returns c = printed_ascii
