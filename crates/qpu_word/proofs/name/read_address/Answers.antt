use Rattle.std.proofs.Common.{arith}
use Rattle.qpu_word.proofs.NameLemmas.{no_read_address}
use Rattle.qpu_word.proofs.name.read_address.Goals as goal

pub returns-clause-none : goal.returns-clause-none
returns-clause-none c = λ none. no_read_address c.args.name.now c.loop-address.address (omega arith) c.loop-address.invariant
