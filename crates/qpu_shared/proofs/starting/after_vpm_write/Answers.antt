use Rattle.qpu_word.specs.Setups.{put_vector}
use Rattle.qpu_word.proofs.BookLemmas.{put_sound, sound_result}
use Rattle.qpu_shared.proofs.starting.after_vpm_write.Goals as goal

pub returns-in_ok-put_vector-clause-sound : goal.returns-in_ok-put_vector-clause-sound
returns-in_ok-put_vector-clause-sound c =
    sound_result (put_vector c.args.book) c.put_vector.new.self (put_sound c.args.book c.requires) c.in_ok-put_vector.ensures.book
