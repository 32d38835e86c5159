use Rattle.std.proofs.Common.{◌∙◌}
use Rattle.qpu_word.proofs.VectorLemmas.{carries_of_sum}
use Rattle.qpu_word.proofs.masks.passing.Goals as goal

pub returns : goal.returns
returns c = c.lesser.ensures ∙ carries_of_sum c.args.a c.args.b c.fits-a c.fits-b
