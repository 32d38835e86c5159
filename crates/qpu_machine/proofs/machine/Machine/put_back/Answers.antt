use Rattle.std.proofs.Common.{◌≡◌, replicate, false, ap, sym, subst}
use Rattle.qpu_machine.specs.declared.actor.Actor.TheVariants.{Exec}
use Rattle.qpu_machine.specs.Machine.{MachineState, with_both, words_of}
use Rattle.qpu_machine.specs.Schedule.{After}
use Rattle.qpu_machine.specs.Serial.{Stretch}
use Rattle.qpu_machine.specs.Local.{IsOwnAfter, is_local_next}
use Rattle.qpu_machine.specs.Views.{Started, machine_state}
use Rattle.qpu_machine.proofs.RunLemmas.{ran_after}
use Rattle.qpu_machine.proofs.ScheduleLemmas.{sound_along, there_low}
use Rattle.qpu_machine.proofs.LocalLemmas.{own_before, ran_own, stretch_own}
use Rattle.qpu_machine.proofs.StartLemmas.{has_both}
use Rattle.qpu_machine.proofs.machine.Machine.put_back.Goals as goal

pub invariant_of-self : goal.invariant_of-self
invariant_of-self c =
    let same : c.args.self.now.state ≡ machine_state c.self.inside = sym (ap (λ (s : Started). s.state) c.self.view_is) in
    let own = subst (λ (m : MachineState). IsOwnAfter m c.args.q c.args.processor c.args.steps) same c.requires in
    let before = own_before (machine_state c.self.inside) c.args.q c.args.processor c.args.steps own in
    record {
      sound = sound_along c.self.invariant.sound (ran_after (ran_own (machine_state c.self.inside) c.args.q c.args.processor c.args.steps c.self.invariant.sound own));
      started =
          has_both (machine_state c.self.inside) c.args.q before.0 c.args.processor c.self.inside.shared
          (there_low (machine_state c.self.inside) c.args.q before.0 c.self.invariant.sound before.1) before.1 c.self.invariant.started;
    }

pub returns-clause-after : goal.returns-clause-after
returns-clause-after c =
    let same : c.args.self.now.state ≡ machine_state c.self.inside = sym (ap (λ (s : Started). s.state) c.self.view_is) in
    let own = subst (λ (m : MachineState). IsOwnAfter m c.args.q c.args.processor c.args.steps) same c.requires in
    let after : MachineState = with_both (machine_state c.self.inside) c.args.q c.args.processor c.self.inside.shared in
    subst (λ (m : MachineState). After m (replicate c.args.steps (Exec c.args.q)) after) (sym same)
    (ran_after (ran_own (machine_state c.self.inside) c.args.q c.args.processor c.args.steps c.self.invariant.sound own))

pub returns-clause-stretch : goal.returns-clause-stretch
returns-clause-stretch c = λ stops.
    let same : c.args.self.now.state ≡ machine_state c.self.inside = sym (ap (λ (s : Started). s.state) c.self.view_is) in
    let own = subst (λ (m : MachineState). IsOwnAfter m c.args.q c.args.processor c.args.steps) same c.requires in
    let after : MachineState = with_both (machine_state c.self.inside) c.args.q c.args.processor c.self.inside.shared in
    subst (λ (m : MachineState). Stretch c.args.q m (replicate c.args.steps (Exec c.args.q)) after) (sym same)
    (stretch_own (machine_state c.self.inside) c.args.q c.args.processor c.args.steps c.self.invariant.sound own
    (subst (λ (m : MachineState). is_local_next (words_of m c.args.q) m.limit c.args.processor ≡ false) same stops))
