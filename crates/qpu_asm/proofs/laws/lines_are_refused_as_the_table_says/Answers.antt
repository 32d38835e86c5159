use Rattle.qpu_asm.proofs.FaultLines.{faults_law}
use Rattle.qpu_asm.proofs.laws.lines_are_refused_as_the_table_says.Goals as goal

pub returns : goal.returns
returns c = faults_law
