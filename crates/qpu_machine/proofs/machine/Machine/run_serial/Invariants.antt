use Rattle.std.proofs.Common.{◌≡◌, ◌≤◌, ◌+◌}
use Rattle.qpu_machine.specs.Journal.{steps_in}
use Rattle.qpu_machine.specs.Bound.{steps_left}
use Rattle.qpu_machine.specs.Gains.{Gained}
use Rattle.qpu_machine.proofs.SerialLemmas.{SerialSoFar}
use Rattle.qpu_machine.proofs.machine.Machine.run_serial.Given as goal

abbrev pub invariant-loop-ending : goal.invariant-loop-ending
invariant-loop-ending l = record {
  gained : Gained l.fn.journal l.journal (λ s. SerialSoFar l.fn.self.state s l.self.state);
  room : steps_in l.journal + steps_left l.self.state ≤ steps_in l.fn.journal + steps_left l.fn.self.state;
  starts : l.self.starts ≡ l.fn.self.starts;
}

abbrev pub decreases-loop-ending : goal.decreases-loop-ending
decreases-loop-ending l = steps_left l.self.state
