use Rattle.std.proofs.Common.{sym, arith}
use Rattle.qpu_job.proofs.WordLemmas.{numbers_more, numbers_none, numbers_done}
use Rattle.qpu_job.proofs.number.line_numbers.Goals as goal

pub returns-in-None : goal.returns-in-None
returns-in-None c =
    sym (numbers_none c.args.words.now c.loop-word.word-index _ c.loop-word.numbers.items _ (omega arith) (sym c.in-None.ensures) c.loop-word.invariant)

pub loop-word-preserved : goal.loop-word-preserved
loop-word-preserved c =
    rw c.in_ok-put_number-in-Some.ensures
    (numbers_more c.args.words.now c.loop-word.word-index _ c.loop-word.numbers.items c.in-Some.number _ (omega arith) (sym c.in-Some.ensures) c.loop-word.invariant)

pub returns : goal.returns
returns c = sym (numbers_done c.args.words.now c.loop-word.word-index c.loop-word.numbers.items _ (omega arith) c.loop-word.invariant)
