use Rattle.qpu_asm.proofs.FaultLines.{faultless_law}
use Rattle.qpu_asm.proofs.laws.lines_without_faults_spell.Goals as goal

pub returns : goal.returns
returns c = faultless_law
