use Rattle.qpu_local.proofs.PlainLemmas.{none_multiplied}
use Rattle.qpu_local.proofs.processor.Processor.mul_of.Goals as goal

pub returns-in_default : goal.returns-in_default
returns-in_default c = none_multiplied c.args.self.now c.args.units.now c.in_default.is
