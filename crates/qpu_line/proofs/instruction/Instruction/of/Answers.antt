use Rattle.qpu_line.proofs.RuleLemmas.{read_where_canonical}
use Rattle.qpu_line.proofs.instruction.Instruction.of.Goals as goal

pub returns-clause-canonical : goal.returns-clause-canonical
returns-clause-canonical c = read_where_canonical c.args.word.0 c.read_canonical.result c.read_canonical.ensures
