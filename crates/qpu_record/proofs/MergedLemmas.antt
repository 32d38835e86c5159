-- Runs that are merged are what their steps are merged to.
use Rattle.std.proofs.Common.{Bool, true, false, add-one, sym, ◌∙◌, ◌≡◌, ◌≢◌, ◌≤◌, ℕ, ◌+◌, zero, suc, List, [], ◌∷◌, ◌++◌, replicate, refl, ap, arith}
use Rattle.qpu_machine.specs.declared.actor.Actor.{Actor}
use Rattle.qpu_machine.specs.declared.journal.Run.{Run}
use Rattle.qpu_machine.specs.Journal.{IsMerged, is_same_actor, steps_of}
use Rattle.qpu_machine.proofs.JournalLemmas.{is_same, same_is, not_of}
use Rattle.std.specs.Prelude.{if◌then◌else◌}
use Rattle.qpu_record.specs.Apart.{KeepsSteps}
use Rattle.qpu_record.specs.Record.{with_step, merged, record_text, runs_text}

-- the first of these runs, where there is one, is of another actor
abbrev StartsOther : Actor → List Run → Type 0
StartsOther actor [] = Unit {0}
StartsOther actor (run ∷ runs) = actor ≢ run.actor

abbrev run_of : Actor → ℕ → Run
run_of actor count = record { actor = actor; count = count }

first_step : (actor : Actor) (runs : List Run) → StartsOther actor runs → with_step actor runs ≡ run_of actor 1 ∷ runs
first_step actor [] other = refl
first_step actor (run ∷ runs) other =
    rw (not_of actor run.actor (is_same_actor actor run.actor) refl other) refl

-- steps of one actor before those of runs that begin with another
steps_back : (actor : Actor) (n : ℕ) (s : List Actor) (runs : List Run) → merged s ≡ runs → StartsOther actor runs
    → merged (replicate (suc n) actor ++ s) ≡ run_of actor (suc n) ∷ runs
unfolding merged
steps_back actor zero s runs same other = rw same (first_step actor runs other)
steps_back actor (suc n) s runs same other =
    let more : suc n + 1 ≡ suc (suc n) = omega arith in
    rw (steps_back actor n s runs same other, is_same actor, more) refl

run_back : (actor : Actor) (count : ℕ) (s : List Actor) (runs : List Run) → 1 ≤ count → merged s ≡ runs → StartsOther actor runs
    → merged (replicate count actor ++ s) ≡ run_of actor count ∷ runs
run_back actor zero s runs some same other = absurd (omega arith)
run_back actor (suc n) s runs some same other = steps_back actor n s runs same other

pub merged_back : (runs : List Run) → IsMerged runs → merged (steps_of runs) ≡ runs
unfolding merged
merged_back [] all = refl
merged_back (run ∷ []) some = run_back run.actor run.count [] [] some refl tt
merged_back (run ∷ next ∷ runs) all =
    run_back run.actor run.count (steps_of (next ∷ runs)) (next ∷ runs) all.0 (merged_back (next ∷ runs) all.2) all.1

-- the record of what runs spell
pub record_back : (job : List ℕ) (runs : List Run) → IsMerged runs → record_text job (steps_of runs) ≡ runs_text job runs
unfolding record_text
record_back job runs all = ap (runs_text job) (merged_back runs all)

-- merged steps are merged runs

step_by : (actor : Actor) (run : Run) (same : Bool) → is_same_actor actor run.actor ≡ same → actor ≡ run.actor → same ≡ true
step_by actor run same is e = sym is ∙ rw e (is_same run.actor)

with_merged_by : (actor : Actor) (run : Run) (runs : List Run) (same : Bool) → is_same_actor actor run.actor ≡ same → IsMerged (run ∷ runs)
    → IsMerged (if same then (record run { count = run.count + 1 }) ∷ runs else (record { actor = actor; count = 1 }) ∷ run ∷ runs)
with_merged_by actor run [] true is all = omega arith
with_merged_by actor run (next ∷ runs) true is all = (omega arith, all.1, all.2)
with_merged_by actor run runs false is all =
    (omega arith, λ e. absurd (let f = step_by actor run false is e in cc), all)

with_merged : (actor : Actor) (runs : List Run) → IsMerged runs → IsMerged (with_step actor runs)
with_merged actor [] all = omega arith
with_merged actor (run ∷ runs) all = with_merged_by actor run runs (is_same_actor actor run.actor) refl all

pub is_merged : (s : List Actor) → IsMerged (merged s)
unfolding merged
is_merged [] = tt
is_merged (actor ∷ s) = with_merged actor (merged s) (is_merged s)

-- merged runs spell the steps

spells_by : (actor : Actor) (run : Run) (runs : List Run) (same : Bool) → is_same_actor actor run.actor ≡ same
    → steps_of (if same then (record run { count = run.count + 1 }) ∷ runs else (record { actor = actor; count = 1 }) ∷ run ∷ runs) ≡ actor ∷ steps_of (run ∷ runs)
spells_by actor run runs true is = rw (add-one, same_is actor run.actor is) refl
spells_by actor run runs false is = refl

with_spells : (actor : Actor) (runs : List Run) → steps_of (with_step actor runs) ≡ actor ∷ steps_of runs
with_spells actor [] = refl
with_spells actor (run ∷ runs) = spells_by actor run runs (is_same_actor actor run.actor) refl

merged_spells : (s : List Actor) → steps_of (merged s) ≡ s
unfolding merged
merged_spells [] = refl
merged_spells (actor ∷ s) = with_spells actor (merged s) ∙ ap (λ (t : List Actor). actor ∷ t) (merged_spells s)

pub keeps_steps : KeepsSteps
keeps_steps s = (is_merged s, merged_spells s)
