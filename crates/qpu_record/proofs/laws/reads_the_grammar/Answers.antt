use Rattle.qpu_record.proofs.GrammarOnly.{every_record}
use Rattle.qpu_record.proofs.GrammarFound.{records_alone}
use Rattle.qpu_record.proofs.laws.reads_the_grammar.Goals as goal

pub returns : goal.returns
returns c = record { alone = records_alone; every = every_record }
