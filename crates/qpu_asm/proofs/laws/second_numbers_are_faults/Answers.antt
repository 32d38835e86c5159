use Rattle.qpu_asm.proofs.FaultTrials.{two_numbers}
use Rattle.qpu_asm.proofs.laws.second_numbers_are_faults.Goals as goal

pub returns : goal.returns
returns c = two_numbers
