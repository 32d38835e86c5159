-- A text that is no record is refused.
use Rattle.std.proofs.Common.{sym}
use Rattle.qpu_tool.specs.Replaying.{no_record}
use Rattle.qpu_tool.proofs.replaying.replay_text.Goals as goal

pub returns-in-Err : goal.returns-in-Err
returns-in-Err c = no_record c.in-Err.fault (sym c.in-Err.ensures.answer)
