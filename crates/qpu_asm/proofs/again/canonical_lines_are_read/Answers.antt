use Rattle.qpu_asm.proofs.AgainLaw.{canonical_read}
use Rattle.qpu_asm.proofs.again.canonical_lines_are_read.Goals as goal

pub returns : goal.returns
returns c = canonical_read
