use Rattle.qpu_expr.proofs.RulesLaw.{expands_by_rules}
use Rattle.qpu_expr.proofs.laws.expands_by_rules.Goals as goal

pub returns : goal.returns
returns c = expands_by_rules
