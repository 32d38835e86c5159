use Rattle.std.proofs.Common.{◌≡◌, ◌∙◌, true, false, Some, [], ap, sym, subst, refl}
use Rattle.std.specs.Prelude.{slice_index, slice_index_or}
use Rattle.qpu_hazard.specs.declared.checked.Programs.{Programs}
use Rattle.qpu_shared.specs.Instruction.{is_running}
use Rattle.qpu_machine.specs.Kept.{KeepsPath}
use Rattle.qpu_machine.specs.Machine.{MachineState, processor_of, words_of}
use Rattle.qpu_machine.specs.Views.{machine_state}
use Rattle.qpu_machine.proofs.InPlaceLemmas.{past_there, entry_is, absent_rests, halted_rests, took_in_place, rests_in_place}
use Rattle.qpu_machine.proofs.StartLemmas.{has_both}
use Rattle.qpu_machine.proofs.ScheduleLemmas.{there_low}
use Rattle.qpu_machine.proofs.SoundLemmas.{sound_after}
use Rattle.qpu_machine.proofs.machine.Machine.step_exec.Goals as goal

pub returns-then-q-ge-PROCESSORS : goal.returns-then-q-ge-PROCESSORS
returns-then-q-ge-PROCESSORS c =
    (absent_rests c.args.self.now.state c.args.q (past_there c.args.self.now.state c.args.q c.keeps.ensures c.if-q-ge-PROCESSORS.true), refl)

pub returns-in_default : goal.returns-in_default
returns-in_default c =
    let m : MachineState = machine_state c.self.inside in
    rests_in_place m c.args.q c.index-self-q.result c.self.inside.starts.items c.args.self.now c.self.view_is c.self.invariant.sound c.if-q-ge-PROCESSORS.false c.in_default.is

pub returns-then-not-is_running : goal.returns-then-not-is_running
returns-then-not-is_running c =
    let m : MachineState = machine_state c.self.inside in
    let there : processor_of m c.args.q ≡ Some c.in-Some.processor =
    entry_is m c.args.q c.index-self-q.result (Some c.in-Some.processor) c.self.invariant.sound c.if-q-ge-PROCESSORS.false c.in-Some.is in
    let rests : is_running m.limit c.in-Some.processor ≡ false = sym c.is_running.ensures ∙ c.if-not-is_running.true in
    took_in_place false m c.args.q c.in-Some.processor c.in-Some.processor m.shared c.self.inside.starts.items c.args.self.now c.self.view_is there
    (halted_rests m c.args.q c.in-Some.processor there rests, refl, refl)

pub returns : goal.returns
returns c =
    let m : MachineState = machine_state c.self.inside in
    let there : processor_of m c.args.q ≡ Some c.in-Some.processor =
    entry_is m c.args.q c.index-self-q.result (Some c.in-Some.processor) c.self.invariant.sound c.if-q-ge-PROCESSORS.false c.in-Some.is in
    let runs : is_running m.limit c.in-Some.processor ≡ true = sym c.is_running.ensures ∙ c.if-not-is_running.false in
    let code : c.program_at-program.result.now ≡ words_of m c.args.q =
    c.program_at-program.ensures ∙ ap (λ (x : Programs). slice_index_or x.list.items (slice_index c.self.inside.program_of c.args.q) []) c.deref.ensures in
    took_in_place c.take_word.result m c.args.q c.in-Some.processor c.take_word.new.p c.take_word.new.shared c.self.inside.starts.items c.args.self.now c.self.view_is there
    (c.take_word.ensures.took m there runs (sym code) refl)

pub invariant_of-self-2 : goal.invariant_of-self-2
invariant_of-self-2 c =
    let m : MachineState = machine_state c.self.inside in
    let there : processor_of m c.args.q ≡ Some c.in-Some.processor =
    entry_is m c.args.q c.index-self-q.result (Some c.in-Some.processor) c.self.invariant.sound c.if-q-ge-PROCESSORS.false c.in-Some.is in
    let runs : is_running m.limit c.in-Some.processor ≡ true = sym c.is_running.ensures ∙ c.if-not-is_running.false in
    let code : c.program_at-program.result.now ≡ words_of m c.args.q =
    c.program_at-program.ensures ∙ ap (λ (x : Programs). slice_index_or x.list.items (slice_index c.self.inside.program_of c.args.q) []) c.deref.ensures in
    record {
      sound =
          sound_after m c.args.q c.in-Some.processor c.take_word.new.p c.take_word.new.shared c.self.invariant.sound c.if-q-ge-PROCESSORS.false there runs
          (subst (λ words. KeepsPath words c.args.q c.in-Some.processor m.shared c.take_word.new.p c.take_word.new.shared) code c.take_word.ensures.keeps);
      started =
          has_both m c.args.q c.in-Some.processor c.take_word.new.p c.take_word.new.shared (there_low m c.args.q c.in-Some.processor c.self.invariant.sound there) there
          c.self.invariant.started;
    }
