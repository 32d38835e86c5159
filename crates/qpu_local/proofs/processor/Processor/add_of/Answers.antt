use Rattle.qpu_local.proofs.PlainLemmas.{none_added}
use Rattle.qpu_local.proofs.processor.Processor.add_of.Goals as goal

pub returns-in_default : goal.returns-in_default
returns-in_default c = none_added c.args.self.now c.args.units.now c.in_default.is
