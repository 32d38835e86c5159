use Rattle.qpu_word.proofs.LaneLemmas.{gives_mapped}
use Rattle.qpu_word.specs.Operands.{unpacked}
use Rattle.qpu_local.proofs.processor.Processor.operand_a.Goals as goal

pub returns : goal.returns
returns c = gives_mapped (unpacked _) c.unpack.ensures c.read_a.ensures
