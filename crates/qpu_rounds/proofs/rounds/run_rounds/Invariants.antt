use Rattle.std.proofs.Common.{◌≡◌, ◌≤◌, ◌+◌}
use Rattle.qpu_machine.specs.Journal.{steps_in}
use Rattle.qpu_machine.specs.Bound.{steps_left}
use Rattle.qpu_machine.specs.Gains.{Gained}
use Rattle.qpu_machine.proofs.SerialLemmas.{SerialSoFar}
use Rattle.qpu_rounds.proofs.rounds.run_rounds.Given as goal

abbrev pub invariant-loop-ending : goal.invariant-loop-ending
invariant-loop-ending g l = record {
  gained : Gained l.fn.journal l.journal (λ s. SerialSoFar l.fn.machine.state s l.machine.state);
  room : steps_in l.journal + steps_left l.machine.state ≤ steps_in l.fn.journal + steps_left l.fn.machine.state;
  starts : l.machine.starts ≡ l.fn.machine.starts;
}

abbrev pub decreases-loop-ending : goal.decreases-loop-ending
decreases-loop-ending g l = steps_left l.machine.state
