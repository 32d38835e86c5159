use Rattle.qpu_machine.specs.Sound.{start_in}
use Rattle.qpu_machine.proofs.StartLemmas.{has_started}
use Rattle.std.proofs.Common.{None, arith, ◌≡◌, ◌<◌, length, [], ap, sym, subst, ◌∙◌}
use Rattle.std.specs.Prelude.{slice_index_or}
use Rattle.qpu_shared.specs.SharedState.{nothing_pending}
use Rattle.qpu_shared.specs.Instruction.{pending_of}
use Rattle.qpu_hazard.specs.Paths.{IsClean}
use Rattle.qpu_hazard.specs.declared.checked.Programs.{Programs}
use Rattle.qpu_machine.specs.Machine.{MachineState}
use Rattle.qpu_machine.specs.Views.{Started, machine_state}
use Rattle.qpu_machine.proofs.OpeningLemmas.{sound_started}
use Rattle.qpu_machine.proofs.machine.Machine.start.Goals as goal

pub invariant_of-self : goal.invariant_of-self
invariant_of-self c =
    let same : c.args.self.now.state ≡ machine_state c.self.inside = sym (ap (λ (s : Started). s.state) c.self.view_is) in
    let code : c.program_at.result.now ≡ slice_index_or (machine_state c.self.inside).programs c.args.start.program [] =
    c.program_at.ensures ∙ ap (λ (x : Programs). slice_index_or x.list.items c.args.start.program []) c.deref.ensures in
    let first : start_in c.self.inside.starts.items c.args.start.q ≡ None = ap (λ (s : Started). start_in s.starts c.args.start.q) c.self.view_is ∙ c.requires.first in
    record {
      sound = rw c.new.ensures
          (sound_started (machine_state c.self.inside) c.args.start c.self.invariant.sound c.self.told c.requires.number
          (subst (λ (m : MachineState). c.args.start.program < length m.programs) same c.requires.program)
          (subst (λ (m : MachineState). pending_of m.shared c.args.start.q ≡ nothing_pending) same c.requires.nothing)
          (subst IsClean code c.words-words.ensures.clean));
      started =
          rw (c.push.ensures.items, c.new.ensures)
          (has_started c.self.inside.starts.items (machine_state c.self.inside) c.args.start (omega (arith, c.self.invariant.sound.processors, c.requires.number)) (omega (arith, c.self.told, c.requires.number)) first
          c.self.invariant.started);
    }

pub returns-clause-clean : goal.returns-clause-clean
returns-clause-clean c =
    let code : c.program_at.result.now ≡ slice_index_or c.args.self.now.state.programs c.args.start.program [] =
    c.program_at.ensures ∙ ap (λ (x : Programs). slice_index_or x.list.items c.args.start.program []) c.deref.ensures
    ∙ ap (λ (s : Started). slice_index_or s.state.programs c.args.start.program []) c.self.view_is in
    subst IsClean code c.words-words.ensures.clean
