use Rattle.qpu_line.proofs.AddressNames.{sources_named}
use Rattle.qpu_line.proofs.laws.sources_have_names.Goals as goal

pub returns : goal.returns
returns c = sources_named
