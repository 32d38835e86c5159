use Rattle.qpu_asm.proofs.RefusedLaw.{refused_law}
use Rattle.qpu_asm.proofs.laws.texts_are_refused_as_the_table_says.Goals as goal

pub returns : goal.returns
returns c = refused_law
