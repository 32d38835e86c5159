use Rattle.std.proofs.Common.{List, Option, None, refl, ap, sym, ◌∙◌}
use Rattle.std.specs.Prelude.{is_some, slice_index_or}
use Rattle.qpu_word.specs.Processor.{ProcessorState}
use Rattle.qpu_machine.proofs.StartLemmas.{has_same}
use Rattle.qpu_machine.specs.Views.{Started, machine_state}
use Rattle.qpu_machine.proofs.OpeningLemmas.{sound_same}
use Rattle.qpu_machine.proofs.machine.Machine.copy.Goals as goal

pub invariant_of-result : goal.invariant_of-result
invariant_of-result c =
    record {
      sound =
          sound_same (machine_state c.self.inside) _ _ _ (c.in_ok-share_programs.ensures ∙ sym (ap (λ (s : Started). s.state.programs) c.self.view_is)) c.copies_of.ensures
          c.in_ok-copy.ensures c.self.invariant.sound;
      started =
          rw c.copy_of.ensures
          (has_same c.self.inside.starts.items (machine_state c.self.inside) _ refl (λ q. ap (λ (ps : List (Option ProcessorState)). is_some (slice_index_or ps q None)) c.copies_of.ensures)
          c.self.invariant.started);
    }
