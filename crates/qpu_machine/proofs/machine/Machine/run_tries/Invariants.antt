use Rattle.std.proofs.Common.{◌≡◌, ◌≤◌, ◌+◌}
use Rattle.std.proofs.Math.ListN.{take}
use Rattle.qpu_machine.specs.Journal.{steps_in}
use Rattle.qpu_machine.specs.Serial.{InTurn, tries_of}
use Rattle.qpu_machine.specs.Bound.{steps_left}
use Rattle.qpu_machine.specs.Gains.{Gained}
use Rattle.qpu_machine.proofs.machine.Machine.run_tries.Given as goal

abbrev pub invariant-loop-actor : goal.invariant-loop-actor
invariant-loop-actor l = record {
  items : l.actor-items ≡ tries_of l.q;
  gained : Gained l.fn.journal l.journal (λ s. InTurn (take l.actor-index (tries_of l.q)) l.fn.self.state s l.self.state);
  room : steps_in l.journal + steps_left l.self.state ≤ steps_in l.fn.journal + steps_left l.fn.self.state;
  starts : l.self.starts ≡ l.fn.self.starts;
}
