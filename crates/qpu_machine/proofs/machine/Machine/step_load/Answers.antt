use Rattle.qpu_machine.specs.Views.{machine_state}
use Rattle.qpu_machine.proofs.StartLemmas.{has_moved}
use Rattle.qpu_dma.specs.declared.direction.Direction.TheVariants.{Load as LoadOf}
use Rattle.qpu_machine.proofs.MovedLemmas.{sound_by_row}
use Rattle.qpu_machine.proofs.machine.Machine.step_load.Goals as goal

pub invariant_of-self : goal.invariant_of-self
invariant_of-self c = record {
  sound = sound_by_row LoadOf (machine_state c.self.inside) c.args.q c.move_load.result c.move_load.new.self c.self.invariant.sound c.move_load.ensures;
  started = has_moved (machine_state c.self.inside) c.move_load.new.self c.self.invariant.started;
}
