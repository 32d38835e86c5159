use Rattle.qpu_record.specs.Told.{parts_of}
use Rattle.qpu_tool.proofs.replaying.replay_on.Goals as goal

pub returns : goal.returns
returns c = c.not_taken.ensures c.args.text.now (parts_of c.args.parts.now) c.args.machine.state c.requires c.in-Err.ensures.err
