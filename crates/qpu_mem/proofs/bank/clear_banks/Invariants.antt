use Rattle.qpu_mem.proofs.BankLemmas.{ClearTo}
use Rattle.qpu_mem.proofs.bank.clear_banks.Given as goal

abbrev pub invariant-loop-k : goal.invariant-loop-k
invariant-loop-k l = ClearTo l.words l.banks.items l.k
