-- Steps that are put together spell what they were.
use Rattle.std.proofs.Common.{◌≡◌, ◌+◌, suc, Bool, true, false, List, [], ◌∷◌, refl, ap, ◌∙◌, arith}
use Rattle.std.specs.Prelude.{if◌then◌else◌}
use Rattle.qpu_machine.specs.declared.actor.Actor.{Actor}
use Rattle.qpu_machine.specs.declared.journal.Run.{Run}
use Rattle.qpu_machine.specs.Journal.{is_same_actor, steps_of}
use Rattle.qpu_machine.proofs.JournalLemmas.{same_is}
use Rattle.qpu_record.specs.Record.{with_step, merged}
use Rattle.qpu_printed.specs.Items.{MergedSpells}

one_more : (actor : Actor) (run : Run) (runs : List Run) (same : Bool) → is_same_actor actor run.actor ≡ same
    → steps_of (if same then record run { count = run.count + 1 } ∷ runs else record { actor = actor; count = 1 } ∷ run ∷ runs) ≡ actor ∷ steps_of (run ∷ runs)
one_more actor run runs true is =
    let on : run.count + 1 ≡ suc run.count = omega arith in rw (same_is actor run.actor is, on) refl
one_more actor run runs false is = refl

step_spells : (actor : Actor) (runs : List Run) → steps_of (with_step actor runs) ≡ actor ∷ steps_of runs
step_spells actor [] = refl
step_spells actor (run ∷ runs) = one_more actor run runs (is_same_actor actor run.actor) refl

pub merged_spells : MergedSpells
unfolding merged
merged_spells [] = refl
merged_spells (actor ∷ s) = step_spells actor (merged s) ∙ ap (λ t. actor ∷ t) (merged_spells s)
