-- A line that is cut off cuts the lines off there.
use Rattle.std.proofs.Common.{arith, refl}
use Rattle.std.proofs.lemmas.Result.{err_from_is_err_and}
use Rattle.std.proofs.lemmas.List.{take_all}
use Rattle.qpu_tool.specs.Code.{words_text}
use Rattle.qpu_tool.proofs.WordLemmas.{line_of_word, lines_of_words}
use Rattle.qpu_io.proofs.Outputs.{each_cut}
use Rattle.qpu_tool.proofs.code.put_words.Goals as goal

pub returns-in_err-put_word : goal.returns-in_err-put_word
unfolding words_text
returns-in_err-put_word g c =
    let p = err_from_is_err_and c.from_residual.result c.from_residual.ensures.1 in
    rw (p.1, lines_of_words c.args.words.now)
    (each_cut line_of_word c.args.words.now c.loop-word.word-index _ _ _ _ _ (omega arith) refl c.loop-word.invariant
    c.in_err-put_word.ensures)

pub returns : goal.returns
unfolding words_text
returns g c =
    rw (lines_of_words c.args.words.now)
    (rw (take_all c.loop-word.word-index c.args.words.now (omega arith)) at c.loop-word.invariant)
