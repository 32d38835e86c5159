use Rattle.qpu_hazard.proofs.FirstLemmas.{fault_of_words}
use Rattle.qpu_hazard.proofs.checked.check.Goals as goal

pub returns-in-Ok-clause-first : goal.returns-in-Ok-clause-first
returns-in-Ok-clause-first c = fault_of_words _ _ c.judge.result c.in-Ok.ensures.words c.in-Ok.ensures.inside c.judge.ensures.first
