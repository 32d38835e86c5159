use Rattle.std.proofs.Common.{◌≡◌, take}
use Rattle.qpu_mem.proofs.bank.copied_banks.Given as goal

abbrev pub invariant-loop-bank : goal.invariant-loop-bank
invariant-loop-bank l = l.copies.items ≡ take l.bank-index l.banks
