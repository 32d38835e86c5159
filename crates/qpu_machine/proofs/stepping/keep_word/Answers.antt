use Rattle.qpu_machine.proofs.KeptStep.{keeps_by_word}
use Rattle.qpu_machine.proofs.stepping.keep_word.Goals as goal

pub returns-clause-keeps : goal.returns-clause-keeps
returns-clause-keeps c =
    keeps_by_word c.args.program.now c.args.q c.args.p.now c.args.shared.now c.do_word.new.p c.do_word.new.shared c.do_word.result c.requires.number c.requires.pending
    c.words-words.ensures.clean c.requires.on_path c.do_word.ensures
