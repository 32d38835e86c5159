use Rattle.std.proofs.Common.{arith}
use Rattle.qpu_job.proofs.AboveLemmas.{values_more, values_done}
use Rattle.qpu_job.proofs.above.put_values.Goals as goal

pub loop-k-preserved : goal.loop-k-preserved
loop-k-preserved c =
    rw c.in_ok-put_value.ensures
    (values_more c.loop-k.values.items _ c.args.at c.loop-k.k c.args.numbers.now _ (omega arith) c.loop-k.invariant)

pub returns : goal.returns
returns c = values_done c.loop-k.values.items _ c.args.at c.loop-k.k c.args.numbers.now (omega arith) c.loop-k.invariant
