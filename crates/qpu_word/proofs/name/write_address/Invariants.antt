use Rattle.qpu_word.specs.Names.{write_name}
use Rattle.qpu_word.proofs.NameLemmas.{IsUnnamed}
use Rattle.qpu_word.proofs.name.write_address.Given as goal

abbrev pub invariant-loop-address : goal.invariant-loop-address
invariant-loop-address l = IsUnnamed write_name l.name l.address
