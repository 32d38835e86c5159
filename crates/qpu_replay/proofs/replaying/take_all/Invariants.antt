-- The runs that were given are taken; the others are left.
use Rattle.std.proofs.Common.{◌≡◌, ◌≤◌, take, drop, length}
use Rattle.qpu_machine.specs.Journal.{steps_of}
use Rattle.qpu_machine.specs.Schedule.{After}
use Rattle.qpu_replay.proofs.replaying.take_all.Given as goal

abbrev pub invariant-loop-run : goal.invariant-loop-run
invariant-loop-run g l = record {
  within : l.item ≤ length (g.R.Runs.left l.fn.runs);
  left : g.R.Runs.left l.runs ≡ drop l.item (g.R.Runs.left l.fn.runs);
  after : After l.fn.machine.state (steps_of (take l.item (g.R.Runs.left l.fn.runs))) l.machine.state;
  starts : l.machine.starts ≡ l.fn.machine.starts;
}

abbrev pub decreases-loop-run : goal.decreases-loop-run
decreases-loop-run g l = length (g.R.Runs.left l.runs)
