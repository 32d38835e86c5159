use Rattle.std.proofs.Common.{◌≡◌}
use Rattle.qpu_machine.specs.Local.{LocalSteps}
use Rattle.qpu_machine.proofs.stretching.stretch.Given as goal

abbrev pub invariant-loop-steps : goal.invariant-loop-steps
invariant-loop-steps l = record {
  taken : LocalSteps l.fn.program l.fn.limit l.fn.processor l.steps l.processor;
  last : l.steps-end ≡ l.fn.limit;
}
