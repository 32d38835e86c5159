-- The steps before the number are taken.
use Rattle.std.proofs.Common.{◌≡◌, replicate}
use Rattle.qpu_machine.specs.Schedule.{After}
use Rattle.qpu_replay.proofs.replaying.take_run.Given as goal

abbrev pub invariant-loop-taken : goal.invariant-loop-taken
invariant-loop-taken l = record {
  after : After l.fn.machine.state (replicate l.taken l.run.actor) l.machine.state;
  starts : l.machine.starts ≡ l.fn.machine.starts;
  last : l.taken-end ≡ l.run.count;
}
