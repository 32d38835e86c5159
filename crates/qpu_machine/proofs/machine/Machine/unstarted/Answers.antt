use Rattle.std.proofs.Common.{refl}
use Rattle.qpu_machine.proofs.StartLemmas.{has_none}
use Rattle.qpu_machine.proofs.OpeningLemmas.{sound_unstarted}
use Rattle.qpu_machine.proofs.machine.Machine.unstarted.Goals as goal

pub invariant_of-result : goal.invariant_of-result
invariant_of-result c = record { sound = sound_unstarted _ c.args.memory c.requires c.new-2.ensures refl; started = rw c.new.ensures (has_none _ refl) }
