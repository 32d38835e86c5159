use Rattle.std.proofs.Common.{arith}
use Rattle.qpu_shared.proofs.MoveLemmas.{carried_none, carried_more, carried_all}
use Rattle.qpu_shared.proofs.shared.Shared.carry_each.Goals as goal

pub loop-j-init : goal.loop-j-init
loop-j-init c = carried_none _ _ _

pub loop-j-preserved : goal.loop-j-preserved
loop-j-preserved c = carried_more c.pair.result (omega arith) (rw c.moved-row.ensures.is at c.pair.ensures.pair) c.carry.ensures.carried c.carry.ensures.long c.loop-j.invariant

pub returns : goal.returns
returns c = carried_all (omega arith) c.loop-j.invariant
