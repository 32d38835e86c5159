use Rattle.qpu_line.proofs.EachLaw.{each_again}
use Rattle.qpu_line.proofs.laws.instructions_come_back.Goals as goal

pub returns : goal.returns
returns c = each_again
