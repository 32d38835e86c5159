use Rattle.qpu_inverse.proofs.Law.{come_back, alone}
use Rattle.qpu_inverse.proofs.laws.words_come_back.Goals as goal

pub returns : goal.returns
returns c = record { come_back = come_back; alone = alone }
