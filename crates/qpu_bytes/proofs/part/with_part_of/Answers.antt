use Rattle.qpu_bytes.proofs.ByteLemmas.{word_put}
use Rattle.qpu_bytes.proofs.part.with_part_of.Goals as goal

pub returns-in-Word : goal.returns-in-Word
returns-in-Word c = rw c.in-Word.is (word_put c.args.word c.args.low c.args.value c.ranges.word.fits c.ranges.value.fits c.requires.low (rw c.in-Word.is at c.requires.whole))
