use Rattle.qpu_hazard.proofs.HoldLemmas.{word_holds}
use Rattle.qpu_hazard.proofs.laws.the_next_word_holds.Goals as goal

pub returns : goal.returns
returns c = word_holds
