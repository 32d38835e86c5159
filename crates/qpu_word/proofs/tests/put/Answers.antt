use Rattle.qpu_word.specs.Setups.{put_read}
use Rattle.qpu_word.proofs.BookLemmas.{put_read_sound, sound_result}
use Rattle.qpu_word.proofs.tests.put.Goals as goal

pub returns-in-Ok : goal.returns-in-Ok
returns-in-Ok c =
    sound_result (put_read c.args.book.now c.args.value) c.put_read.new.self (put_read_sound c.args.book.now c.args.value c.requires) c.in-Ok.ensures
