use Rattle.qpu_word.specs.Setups.{take_vector}
use Rattle.qpu_word.proofs.BookLemmas.{take_sound, sound_result}
use Rattle.qpu_word.proofs.tests.take.Goals as goal

pub returns-in-Ok : goal.returns-in-Ok
returns-in-Ok c =
    sound_result (take_vector c.args.book.now) c.take_vector.new.self (take_sound c.args.book.now c.requires) c.in-Ok.ensures.book
