use Rattle.qpu_job.proofs.GrammarOnly.{every_job}
use Rattle.qpu_job.proofs.GrammarFound.{jobs_alone}
use Rattle.qpu_job.proofs.laws.reads_the_grammar.Goals as goal

pub returns : goal.returns
returns c = record { alone = jobs_alone; every = every_job }
