use Rattle.std.proofs.Common.{◌∙◌}
use Rattle.qpu_word.specs.Operations.{mul_result}
use Rattle.qpu_word.proofs.LaneLemmas.{lanes_of_two}
use Rattle.qpu_local.proofs.processor.Processor.multiplied.Goals as goal

pub returns : goal.returns
returns c = c.mul_results.ensures ∙ lanes_of_two (mul_result c.args.op) c.lanes_of.ensures c.lanes_of-2.ensures
