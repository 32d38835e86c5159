use Rattle.qpu_local.proofs.PlainLemmas.{carries_by}
use Rattle.qpu_local.proofs.processor.Processor.carries_of.Goals as goal

pub returns : goal.returns
returns c =
    carries_by c.args.self.now c.args.units.now c.in_ok-op.op c.lanes_of.result c.lanes_of-2.result _ c.in_ok-op.was c.lanes_of.ensures c.lanes_of-2.ensures c.add_carries.ensures
