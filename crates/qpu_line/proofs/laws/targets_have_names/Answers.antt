use Rattle.qpu_line.proofs.AddressNames.{targets_named}
use Rattle.qpu_line.proofs.laws.targets_have_names.Goals as goal

pub returns : goal.returns
returns c = targets_named
