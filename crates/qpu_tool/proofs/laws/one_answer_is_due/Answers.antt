use Rattle.qpu_tool.proofs.OneDue.{one_due}
use Rattle.qpu_tool.proofs.laws.one_answer_is_due.Goals as goal

pub returns : goal.returns
returns c = one_due
