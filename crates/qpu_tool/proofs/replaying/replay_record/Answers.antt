-- A record whose job has no machine is refused.
use Rattle.qpu_record.specs.Told.{parts_of}
use Rattle.qpu_tool.specs.Replaying.{no_start}
use Rattle.qpu_tool.proofs.replaying.replay_record.Goals as goal

pub returns-in-Err : goal.returns-in-Err
returns-in-Err c =
    no_start (parts_of c.args.parts.now) c.in-Err.refusal c.requires.is_record
    (rw c.in-Err.is at c.in_ok-machine.ensures)
