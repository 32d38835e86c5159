use Rattle.std.proofs.Common.{arith}
use Rattle.qpu_hazard.proofs.BestLemmas.{kept_more, least_all}
use Rattle.qpu_hazard.proofs.best.keep_all.Goals as goal

pub loop-b-preserved : goal.loop-b-preserved
loop-b-preserved c =
    kept_more _ _ _ _ _ _ (record { rule = 0; before = 0 }) (omega arith) c.keep_first.ensures.falls c.keep_first.ensures.least
    c.keep_first.ensures.one c.loop-b.invariant

pub returns-clause-least : goal.returns-clause-least
returns-clause-least c = least_all _ _ _ c.loop-b.b-index (omega arith) c.loop-b.invariant.least
