use Rattle.qpu_asm.proofs.ReadLaw.{text_spelled_law}
use Rattle.qpu_asm.proofs.laws.lines_of_texts_spell_what_they_say.Goals as goal

pub returns : goal.returns
returns c = text_spelled_law
