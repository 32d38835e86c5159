-- The word at the place of a processor that is running is there, and it is the program's.
use Rattle.std.proofs.Common.{◌≡◌, [], true, Some, ap, sym, subst, ◌∙◌}
use Rattle.std.specs.Prelude.{slice_index, slice_index_or}
use Rattle.qpu_word.specs.declared.word.Fields.{Fields}
use Rattle.qpu_word.specs.Words.{fields_of}
use Rattle.qpu_shared.specs.Instruction.{first_cause, is_running, pending_of}
use Rattle.qpu_shared.proofs.WordLemmas.{number_below}
use Rattle.qpu_hazard.specs.declared.checked.Programs.{Programs}
use Rattle.qpu_machine.specs.Kept.{IsOnPath}
use Rattle.qpu_machine.specs.Machine.{MachineState, processor_of, words_of}
use Rattle.qpu_machine.specs.Views.{Started, machine_state}
use Rattle.qpu_machine.proofs.SoundLemmas.{on_running, number_running}
use Rattle.qpu_machine.proofs.WordLemmas.{place_in, decoded_fields}
use Rattle.qpu_machine.proofs.machine.Machine.cause_at.Goals as goal

pub decoded-word-requires : goal.decoded-word-requires
decoded-word-requires c =
    let same : c.args.self.now.state ≡ machine_state c.self.inside = sym (ap (λ (s : Started). s.state) c.self.view_is) in
    let on =
    on_running (machine_state c.self.inside) c.args.q c.args.processor.now c.self.invariant.sound c.requires.low
    (subst (λ (m : MachineState). processor_of m c.args.q ≡ Some c.args.processor.now) same c.requires.there)
    (subst (λ (m : MachineState). is_running m.limit c.args.processor.now ≡ true) same c.requires.runs) in
    let code : c.program_at-program.result.now ≡ words_of (machine_state c.self.inside) c.args.q =
    c.program_at-program.ensures ∙ ap (λ (x : Programs). slice_index_or x.list.items (slice_index c.self.inside.program_of c.args.q) []) c.deref.ensures in
    let looks = (pending_of c.self.inside.shared c.args.q).looks in
    rw c.place.ensures
    (place_in c.program_at-program.result.now c.args.processor.now looks c.words-words.ensures.clean
    (subst (λ words. IsOnPath words c.args.processor.now looks) (sym code) on))

pub first_cause-requires : goal.first_cause-requires
first_cause-requires c =
    number_below c.decoded-word.result.now.fields (slice_index c.program_at-program.result.now c.args.processor.now.place)
    (decoded_fields c.program_at-program.result.now c.args.processor.now.place c.place.result c.decoded-word.result.now c.place.ensures c.decoded-word.ensures)

pub returns-clause-cause : goal.returns-clause-cause
returns-clause-cause c =
    let same : c.args.self.now.state ≡ machine_state c.self.inside = sym (ap (λ (s : Started). s.state) c.self.view_is) in
    let code : c.program_at-program.result.now ≡ words_of (machine_state c.self.inside) c.args.q =
    c.program_at-program.ensures ∙ ap (λ (x : Programs). slice_index_or x.list.items (slice_index c.self.inside.program_of c.args.q) []) c.deref.ensures in
    let fields : c.decoded-word.result.now.fields ≡ fields_of (slice_index (words_of (machine_state c.self.inside) c.args.q) c.args.processor.now.place) =
    decoded_fields c.program_at-program.result.now c.args.processor.now.place c.place.result c.decoded-word.result.now c.place.ensures c.decoded-word.ensures
    ∙ ap (λ words. fields_of (slice_index words c.args.processor.now.place)) code in
    c.first_cause.ensures
    ∙ ap (λ (f : Fields). first_cause f c.args.q c.self.inside.shared) fields
    ∙ ap (λ (m : MachineState). first_cause (fields_of (slice_index (words_of m c.args.q) c.args.processor.now.place)) c.args.q m.shared) (sym same)

pub returns-clause-number : goal.returns-clause-number
returns-clause-number c =
    let same : c.args.self.now.state ≡ machine_state c.self.inside = sym (ap (λ (s : Started). s.state) c.self.view_is) in
    number_running (machine_state c.self.inside) c.args.q c.args.processor.now c.self.invariant.sound c.requires.low
    (subst (λ (m : MachineState). processor_of m c.args.q ≡ Some c.args.processor.now) same c.requires.there)
