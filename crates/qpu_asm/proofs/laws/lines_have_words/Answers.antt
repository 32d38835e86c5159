use Rattle.qpu_asm.proofs.LineLaw.{lines_law}
use Rattle.qpu_asm.proofs.laws.lines_have_words.Goals as goal

pub returns : goal.returns
returns c = lines_law
