use Rattle.qpu_record.proofs.GrammarOnly.{records_are_read}
use Rattle.qpu_record.proofs.laws.records_are_read.Goals as goal

pub returns : goal.returns
returns c = records_are_read
