use Rattle.std.proofs.Common.{◌≡◌, ◌<◌, ℕ, false}
use Rattle.qpu_machine.specs.Still.{has_step}
use Rattle.qpu_machine.proofs.machine.Machine.has_any_step.Given as goal

abbrev pub invariant-loop-q : goal.invariant-loop-q
invariant-loop-q l = (k : ℕ) → k < l.q → has_step l.self.state k ≡ false
