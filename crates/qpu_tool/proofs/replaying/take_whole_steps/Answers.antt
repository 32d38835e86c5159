-- The single steps of a journal that was widened are a complete schedule.
use Rattle.qpu_tool.proofs.ReplayLemmas.{widened_taken, widened_not}
use Rattle.qpu_tool.proofs.replaying.take_whole_steps.Goals as goal

pub unreachable-requires : goal.unreachable-requires
unreachable-requires g c =
    widened_not c.args.machine.now.state c.replay.new.machine.state (g.R.Runs.left c.args.runs) c.in_ok-wide.wide c.in-Err.field-0 c.in_ok-wide.ensures.answer (rw c.iter.ensures at c.in-Err.ensures.alone)

pub returns-clause-ok : goal.returns-clause-ok
returns-clause-ok g c =
    widened_taken c.args.machine.now.state c.replay.new.machine.state (g.R.Runs.left c.args.runs) c.in_ok-wide.wide c.in-Ok.ending c.in_ok-wide.ensures.answer (rw c.iter.ensures at c.in-Ok.ensures.alone)
