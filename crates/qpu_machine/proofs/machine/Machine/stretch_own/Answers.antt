use Rattle.std.proofs.Common.{◌≡◌, [], Some, false, ap, sym, subst, ◌∙◌}
use Rattle.std.specs.Prelude.{slice_index, slice_index_or}
use Rattle.qpu_hazard.specs.declared.checked.Programs.{Programs}
use Rattle.qpu_shared.specs.Instruction.{pending_of}
use Rattle.qpu_machine.specs.Kept.{IsKept}
use Rattle.qpu_machine.specs.Local.{LocalSteps, is_local_next}
use Rattle.qpu_machine.specs.Machine.{MachineState, processor_of, words_of}
use Rattle.qpu_machine.specs.Views.{machine_state}
use Rattle.qpu_machine.proofs.ScheduleLemmas.{started_there}
use Rattle.qpu_machine.proofs.InPlaceLemmas.{entry_is, past_there}
use Rattle.qpu_machine.proofs.machine.Machine.stretch_own.Goals as goal
use Rattle.qpu_machine.specs.Serial.{stops}
use Rattle.qpu_machine.proofs.LocalLemmas.{none_local, ran_own}
use Rattle.qpu_machine.proofs.RunLemmas.{ran_after}
use Rattle.qpu_machine.proofs.ScheduleLemmas.{there_low, sound_along}
use Rattle.qpu_machine.proofs.StartLemmas.{has_both}
use Rattle.qpu_machine.proofs.InPlaceLemmas.{own_of, absent_in_place, stretched_in_place}

pub returns-then-q-ge-PROCESSORS-clause-stretch : goal.returns-then-q-ge-PROCESSORS-clause-stretch
returns-then-q-ge-PROCESSORS-clause-stretch c =
    stops (none_local c.args.self.now.state c.args.q (past_there c.args.self.now.state c.args.q c.keeps.ensures c.if-q-ge-PROCESSORS.true))

pub returns-in_default-clause-stretch : goal.returns-in_default-clause-stretch
returns-in_default-clause-stretch c =
    absent_in_place (machine_state c.self.inside) c.args.q c.index-self-q.result c.self.inside.starts.items c.args.self.now c.self.view_is c.self.invariant.sound c.if-q-ge-PROCESSORS.false
    c.in_default.is

pub stretch-requires-clause-kept : goal.stretch-requires-clause-kept
stretch-requires-clause-kept c =
    let m : MachineState = machine_state c.self.inside in
    let p = c.in-Some.processor in
    let there : processor_of m c.args.q ≡ Some p = entry_is m c.args.q c.index-self-q.result (Some p) c.self.invariant.sound c.if-q-ge-PROCESSORS.false c.in-Some.is in
    let code : c.program_at-program.result.now ≡ words_of m c.args.q =
    c.program_at-program.ensures ∙ ap (λ (x : Programs). slice_index_or x.list.items (slice_index c.self.inside.program_of c.args.q) []) c.deref.ensures in
    let looks = (pending_of m.shared c.args.q).looks in
    (looks, subst (λ words. IsKept words p looks) (sym code) (started_there m c.args.q p c.self.invariant.sound there).kept)

pub invariant_of-self-2 : goal.invariant_of-self-2
invariant_of-self-2 c =
    let m : MachineState = machine_state c.self.inside in
    let p = c.in-Some.processor in
    let r = c.stretch.new.processor in
    let there : processor_of m c.args.q ≡ Some p = entry_is m c.args.q c.index-self-q.result (Some p) c.self.invariant.sound c.if-q-ge-PROCESSORS.false c.in-Some.is in
    let code : c.program_at-program.result.now ≡ words_of m c.args.q =
    c.program_at-program.ensures ∙ ap (λ (x : Programs). slice_index_or x.list.items (slice_index c.self.inside.program_of c.args.q) []) c.deref.ensures in
    let steps = subst (λ words. LocalSteps words m.limit p c.stretch.result r) code c.stretch.ensures.steps in
    record {
      sound = sound_along c.self.invariant.sound (ran_after (ran_own m c.args.q r c.stretch.result c.self.invariant.sound (own_of m c.args.q p r c.stretch.result there steps)));
      started = has_both m c.args.q p r m.shared (there_low m c.args.q p c.self.invariant.sound there) there c.self.invariant.started;
    }

pub returns-clause-stretch : goal.returns-clause-stretch
returns-clause-stretch c =
    let m : MachineState = machine_state c.self.inside in
    let p = c.in-Some.processor in
    let r = c.stretch.new.processor in
    let there : processor_of m c.args.q ≡ Some p = entry_is m c.args.q c.index-self-q.result (Some p) c.self.invariant.sound c.if-q-ge-PROCESSORS.false c.in-Some.is in
    let code : c.program_at-program.result.now ≡ words_of m c.args.q =
    c.program_at-program.ensures ∙ ap (λ (x : Programs). slice_index_or x.list.items (slice_index c.self.inside.program_of c.args.q) []) c.deref.ensures in
    stretched_in_place m c.args.q p r c.stretch.result c.self.inside.starts.items c.args.self.now c.self.view_is c.self.invariant.sound there
    (subst (λ words. LocalSteps words m.limit p c.stretch.result r) code c.stretch.ensures.steps)
    (subst (λ words. is_local_next words m.limit r ≡ false) code c.stretch.ensures.stops)
