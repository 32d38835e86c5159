use Rattle.qpu_asm.proofs.TextLaw.{text_law}
use Rattle.qpu_asm.proofs.laws.texts_have_the_words_they_spell.Goals as goal

pub returns : goal.returns
returns c = text_law
