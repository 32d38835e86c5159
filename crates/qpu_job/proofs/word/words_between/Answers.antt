use Rattle.qpu_job.specs.Words.{texts_of}
use Rattle.qpu_job.proofs.WordLemmas.{words_more, words_done}
use Rattle.qpu_job.proofs.word.words_between.Goals as goal

pub returns-in-None : goal.returns-in-None
returns-in-None c =
    words_done (texts_of c.loop-words.words.items) _ _ _ c.loop-words.rest.now c.in-None.ensures.cases c.in_ok-put_word-in-None.ensures c.loop-words.invariant

pub loop-words-preserved : goal.loop-words-preserved
loop-words-preserved c =
    words_more (texts_of c.loop-words.words.items) _ _ _ _ c.loop-words.rest.now c.in-Some.ensures.cases c.in_ok-put_word-in-Some.ensures c.loop-words.invariant
