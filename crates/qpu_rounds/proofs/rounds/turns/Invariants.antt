use Rattle.std.proofs.Common.{◌≡◌, ◌<◌, ◌≤◌, ◌+◌, ℕ, None}
use Rattle.std.specs.Prelude.{slice_index_or}
use Rattle.qpu_machine.specs.Journal.{steps_in}
use Rattle.qpu_machine.specs.Bound.{steps_left}
use Rattle.qpu_machine.specs.Gains.{Gained}
use Rattle.qpu_machine.proofs.SerialLemmas.{RoundSoFar}
use Rattle.qpu_rounds.specs.Away.{IsBackAt}
use Rattle.qpu_rounds.proofs.rounds.turns.Given as goal

abbrev pub invariant-loop-q : goal.invariant-loop-q
invariant-loop-q l = record {
  gained : Gained l.fn.journal l.journal (λ s. RoundSoFar l.fn.machine.state l.q s l.machine.state);
  room : steps_in l.journal + steps_left l.machine.state ≤ steps_in l.fn.journal + steps_left l.fn.machine.state;
  starts : l.machine.starts ≡ l.fn.machine.starts;
  back : (r : ℕ) → l.q ≤ r → r < 12 → IsBackAt l.machine.state r (slice_index_or l.fn.away r None);
}
