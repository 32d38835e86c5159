use Rattle.qpu_shared.proofs.SharedLemmas.{clear_started}
use Rattle.qpu_shared.proofs.shared.Shared.new.Goals as goal

pub invariant_of-result : goal.invariant_of-result
invariant_of-result c = clear_started _ _ c.clear.ensures
