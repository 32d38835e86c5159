use Rattle.qpu_expr.proofs.FewLemmas.{few_left}
use Rattle.qpu_expr.proofs.EndedLemmas.{ended_left}
use Rattle.qpu_expr.proofs.whole.expand.Goals as goal

pub returns-in-Ok-clause-few : goal.returns-in-Ok-clause-few
returns-in-Ok-clause-few c = few_left c.as_bytes.result.now c.args.tokens.now _ c.in-Ok.ensures

pub returns-in-Ok-clause-ended : goal.returns-in-Ok-clause-ended
returns-in-Ok-clause-ended c = ended_left c.as_bytes.result.now c.args.tokens.now _ c.in-Ok.ensures
