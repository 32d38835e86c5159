use Rattle.std.proofs.Common.{sym, ◌+◌}
use Rattle.std.proofs.lemmas.List.{take_rest}
use Rattle.qpu_job.proofs.WordLemmas.{words_first, words_last}
use Rattle.qpu_job.proofs.word.at_blank.Goals as goal

pub returns-in-None-clause-cases : goal.returns-in-None-clause-cases
returns-in-None-clause-cases c = words_last c.args.text.now (sym c.in-None.ensures)

pub returns-in-Some-clause-cases : goal.returns-in-Some-clause-cases
returns-in-Some-clause-cases c =
    rw (take_rest c.args.text.now (c.in-Some.at + 1)) (words_first c.args.text.now c.in-Some.at (sym c.in-Some.ensures))
