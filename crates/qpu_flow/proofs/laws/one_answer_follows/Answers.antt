use Rattle.qpu_flow.proofs.OneFollow.{one_follows}
use Rattle.qpu_flow.proofs.laws.one_answer_follows.Goals as goal

pub returns : goal.returns
returns c = one_follows
