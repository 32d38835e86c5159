use Rattle.qpu_machine.specs.Views.{machine_state}
use Rattle.qpu_machine.proofs.StartLemmas.{has_moved}
use Rattle.qpu_dma.specs.declared.direction.Direction.TheVariants.{Store as StoreOf}
use Rattle.qpu_machine.proofs.MovedLemmas.{sound_by_row}
use Rattle.qpu_machine.proofs.machine.Machine.step_store.Goals as goal

pub invariant_of-self : goal.invariant_of-self
invariant_of-self c = record {
  sound = sound_by_row StoreOf (machine_state c.self.inside) c.args.q c.move_store.result c.move_store.new.self c.self.invariant.sound c.move_store.ensures;
  started = has_moved (machine_state c.self.inside) c.move_store.new.self c.self.invariant.started;
}
