use Rattle.qpu_word.specs.Names.{read_name}
use Rattle.qpu_word.proofs.NameLemmas.{IsUnnamed}
use Rattle.qpu_word.proofs.name.read_address.Given as goal

abbrev pub invariant-loop-address : goal.invariant-loop-address
invariant-loop-address l = IsUnnamed read_name l.name l.address
