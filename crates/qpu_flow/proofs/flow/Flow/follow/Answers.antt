use Rattle.qpu_flow.proofs.FollowLemmas.{answer_follows}
use Rattle.qpu_flow.proofs.flow.Flow.follow.Goals as goal

pub returns : goal.returns
returns c = answer_follows c.args.self.now c.args.control c.args.taken c.stepped.result c.stepped.ensures
