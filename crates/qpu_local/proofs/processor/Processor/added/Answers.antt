use Rattle.std.proofs.Common.{◌∙◌}
use Rattle.qpu_word.specs.Operations.{add_result}
use Rattle.qpu_word.proofs.LaneLemmas.{lanes_of_two}
use Rattle.qpu_local.proofs.processor.Processor.added.Goals as goal

pub returns : goal.returns
returns c = c.add_results.ensures ∙ lanes_of_two (add_result c.args.op) c.lanes_of.ensures c.lanes_of-2.ensures
