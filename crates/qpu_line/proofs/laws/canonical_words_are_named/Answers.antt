use Rattle.qpu_line.proofs.EachLaw.{each_named}
use Rattle.qpu_line.proofs.laws.canonical_words_are_named.Goals as goal

pub returns : goal.returns
returns c = each_named
