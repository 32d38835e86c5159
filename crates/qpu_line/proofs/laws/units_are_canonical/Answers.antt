use Rattle.qpu_line.proofs.NamedLaw.{units_canonical}
use Rattle.qpu_line.proofs.laws.units_are_canonical.Goals as goal

pub returns : goal.returns
returns c = units_canonical
