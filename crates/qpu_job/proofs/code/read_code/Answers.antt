-- The words are those of the assembler, and few enough.
use Rattle.std.proofs.Common.{arith}
use Rattle.qpu_word.specs.Words.{numbers_of}
use Rattle.qpu_flow.proofs.CodeLemmas.{length_numbers}
use Rattle.qpu_job.proofs.code.read_code.Goals as goal

pub returns-in-Ok-clause-ok : goal.returns-in-Ok-clause-ok
unfolding numbers_of
returns-in-Ok-clause-ok c = rw c.as_str.ensures.value at c.in-Ok.ensures.ok

pub returns-in-Ok-clause-short : goal.returns-in-Ok-clause-short
returns-in-Ok-clause-short c = omega (arith, length_numbers c.in-Ok.words.items, c.in-Ok.ensures.few)
