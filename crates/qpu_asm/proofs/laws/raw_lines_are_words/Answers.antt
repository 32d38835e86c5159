use Rattle.qpu_asm.proofs.RawLaw.{raw_law}
use Rattle.qpu_asm.proofs.laws.raw_lines_are_words.Goals as goal

pub returns : goal.returns
returns c = raw_law
