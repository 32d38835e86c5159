use Rattle.qpu_word.specs.Setups.{take_vector}
use Rattle.qpu_word.proofs.BookLemmas.{take_sound, sound_result}
use Rattle.qpu_shared.proofs.reading.after_vpm_read.Goals as goal

pub returns-in_ok-take_vector-clause-sound : goal.returns-in_ok-take_vector-clause-sound
returns-in_ok-take_vector-clause-sound c =
    sound_result (take_vector c.args.book) c.take_vector.new.self (take_sound c.args.book c.requires) c.in_ok-take_vector.ensures.book
