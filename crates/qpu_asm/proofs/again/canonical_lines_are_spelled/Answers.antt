use Rattle.qpu_asm.proofs.SpellsCanonical.{canonical_spelled}
use Rattle.qpu_asm.proofs.again.canonical_lines_are_spelled.Goals as goal

pub returns : goal.returns
returns c = canonical_spelled
