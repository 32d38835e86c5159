use Rattle.qpu_machine.specs.Views.{machine_state}
use Rattle.qpu_machine.proofs.StartLemmas.{has_moved}
use Rattle.qpu_machine.proofs.MovedLemmas.{sound_by_fetch}
use Rattle.qpu_machine.proofs.machine.Machine.step_fetch.Goals as goal

pub invariant_of-self : goal.invariant_of-self
invariant_of-self c = record {
  sound = sound_by_fetch (machine_state c.self.inside) c.args.q c.args.u c.fetch.result c.fetch.new.self c.self.invariant.sound c.fetch.ensures;
  started = has_moved (machine_state c.self.inside) c.fetch.new.self c.self.invariant.started;
}
