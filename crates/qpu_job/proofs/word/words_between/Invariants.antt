-- The words so far and those of the rest are those of the text.
use Rattle.std.proofs.Common.{◌≡◌, ◌++◌, length}
use Rattle.qpu_job.specs.Words.{words_between, texts_of}
use Rattle.qpu_job.proofs.word.words_between.Given as goal

abbrev pub invariant-loop-words : goal.invariant-loop-words
invariant-loop-words l = texts_of l.words.items ++ words_between l.rest ≡ words_between l.text

abbrev pub decreases-loop-words : goal.decreases-loop-words
decreases-loop-words l = length l.rest
