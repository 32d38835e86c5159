use Rattle.std.proofs.Common.{◌≡◌, ◌≤◌, ◌+◌}
use Rattle.qpu_machine.specs.Journal.{steps_in}
use Rattle.qpu_machine.specs.Bound.{steps_left}
use Rattle.qpu_machine.specs.Gains.{Gained}
use Rattle.qpu_machine.proofs.SerialLemmas.{RoundSoFar}
use Rattle.qpu_machine.proofs.machine.Machine.round.Given as goal

abbrev pub invariant-loop-q : goal.invariant-loop-q
invariant-loop-q l = record {
  gained : Gained l.fn.journal l.journal (λ s. RoundSoFar l.fn.self.state l.q s l.self.state);
  room : steps_in l.journal + steps_left l.self.state ≤ steps_in l.fn.journal + steps_left l.fn.self.state;
  starts : l.self.starts ≡ l.fn.self.starts;
}
