-- The steps before the number are taken.
use Rattle.std.proofs.Common.{◌≡◌, replicate}
use Rattle.qpu_replay.proofs.WidenLemmas.{Widened}
use Rattle.qpu_replay.proofs.widening.widen_run.Given as goal

abbrev pub invariant-loop-taken : goal.invariant-loop-taken
invariant-loop-taken l = record {
  gained : Widened l.fn.wide l.wide l.fn.machine.state (replicate l.taken l.run.actor) l.machine.state;
  last : l.taken-end ≡ l.run.count;
}
