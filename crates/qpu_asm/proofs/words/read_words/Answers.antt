use Rattle.std.proofs.Common.{sym}
use Rattle.std.proofs.lemmas.Bool.{eqb-true}
use Rattle.qpu_word.specs.Words.{numbers_of}
use Rattle.qpu_asm.proofs.HexLemmas.{lines_done}
use Rattle.qpu_asm.proofs.words.read_words.Goals as goal

pub returns-clause-ok : goal.returns-clause-ok
returns-clause-ok c =
    lines_done c.loop-rest.number (numbers_of c.loop-rest.words.items) c.loop-rest.rest.now (eqb-true _ _ (sym c.loop-rest-test.ensures)) c.loop-rest.invariant.2
