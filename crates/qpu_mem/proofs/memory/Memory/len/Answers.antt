use Rattle.std.proofs.Common.{length, sym, ap, ◌∙◌}
use Rattle.qpu_mem.proofs.BankLemmas.{length_in}
use Rattle.qpu_mem.proofs.memory.Memory.len.Goals as goal

pub returns-clause-words : goal.returns-clause-words
returns-clause-words c = sym (length_in c.self.inside.words c.self.inside.banks.items c.self.invariant.0) ∙ ap length c.self.view_is
