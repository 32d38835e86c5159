use Rattle.qpu_bytes.proofs.ByteLemmas.{word_read}
use Rattle.qpu_bytes.proofs.part.part_of.Goals as goal

pub returns-in-Word : goal.returns-in-Word
returns-in-Word c = rw c.in-Word.is (word_read c.args.word c.args.low c.ranges.word.fits c.requires.low (rw c.in-Word.is at c.requires.whole))
