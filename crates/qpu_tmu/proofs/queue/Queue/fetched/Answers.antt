use Rattle.std.proofs.Common.{◌≡◌, [], Some, None, sym, ◌∙◌}
use Rattle.std.specs.List.{position}
use Rattle.std.proofs.Math.ListN.{length-set}
use Rattle.qpu_tmu.specs.Looks.{is_waiting}
use Rattle.qpu_tmu.proofs.LookLemmas.{refilled, words_at, words_nowhere}
use Rattle.qpu_tmu.proofs.queue.Queue.fetched.Goals as goal

pub returns-in-Some : goal.returns-in-Some
returns-in-Some c =
    let found : position is_waiting c.self.inside.looks.items ≡ Some c.in-Some.waiting =
    rw c.self.view_is (sym c.waiting.ensures ∙ c.in-Some.is) in
    rw (← c.self.view_is, c.deref_mut.ensures.value)
    (refilled _ _ (length-set _ _ _) ∙ sym (words_at _ _ _ (record { at = []; words = None }) found))

pub returns-in_default : goal.returns-in_default
returns-in_default c =
    sym (words_nowhere _ _ (record { at = []; words = None }) (sym c.waiting.ensures ∙ c.in_default.is))
