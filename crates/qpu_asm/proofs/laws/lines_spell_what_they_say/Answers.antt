use Rattle.qpu_asm.proofs.ReadLaw.{spelled_law}
use Rattle.qpu_asm.proofs.laws.lines_spell_what_they_say.Goals as goal

pub returns : goal.returns
returns c = spelled_law
