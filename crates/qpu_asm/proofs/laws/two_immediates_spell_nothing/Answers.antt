use Rattle.qpu_asm.proofs.SpellsTrials.{two_immediates}
use Rattle.qpu_asm.proofs.laws.two_immediates_spell_nothing.Goals as goal

pub returns : goal.returns
returns c = two_immediates
