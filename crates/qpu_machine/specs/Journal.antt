-- What machines did, as runs of one actor's steps. This project's own.
use Rattle.std.specs.Prelude.{◌≡◌, ◌≢◌, ◌≤◌, ℕ, ◌+◌, ◌==◌, ◌&&◌, Bool, false, List, [], ◌∷◌, ◌++◌, replicate, if◌then◌else◌}
use Rattle.qpu_machine.specs.declared.actor.Actor.{Actor}
use Rattle.qpu_machine.specs.declared.actor.Actor.TheVariants.{Exec, Load, Store, Fetch}
use Rattle.qpu_machine.specs.declared.journal.Run.{Run}

-- whether two steps are of one actor
abbrev pub is_same_actor : Actor → Actor → Bool
is_same_actor (Exec q) (Exec r) = q == r
is_same_actor (Load q) (Load r) = q == r
is_same_actor (Store q) (Store r) = q == r
is_same_actor (Fetch q u) (Fetch r v) = (q == r) && (u == v)
is_same_actor _ _ = false

-- neighbouring runs are of different actors, and each run has a step
abbrev pub IsMerged : List Run → Type 0
IsMerged [] = Unit {0}
IsMerged (run ∷ []) = 1 ≤ run.count
IsMerged (run ∷ next ∷ runs) = (1 ≤ run.count) × (run.actor ≢ next.actor) × IsMerged (next ∷ runs)

-- runs with more steps of an actor after them: the last run counts on where it is the actor's, else
-- there is one more run
unfoldable pub pushed : List Run → Actor → ℕ → List Run
pushed [] actor count = (record { actor = actor; count = count }) ∷ []
pushed (run ∷ []) actor count =
    if is_same_actor run.actor actor then (record run { count = run.count + count }) ∷ []
    else run ∷ (record { actor = actor; count = count }) ∷ []
pushed (run ∷ next ∷ runs) actor count = run ∷ pushed (next ∷ runs) actor count

-- how many steps of an actor stand last, in one run
unfoldable pub last_count : List Run → Actor → ℕ
last_count [] actor = 0
last_count (run ∷ []) actor = if is_same_actor run.actor actor then run.count else 0
last_count (run ∷ next ∷ runs) actor = last_count (next ∷ runs) actor

-- the steps that runs spell, in order
abbrev pub steps_of : List Run → List Actor
steps_of [] = []
steps_of (run ∷ runs) = replicate run.count run.actor ++ steps_of runs

-- how many these are: the sum of the counts
abbrev pub steps_in : List Run → ℕ
steps_in [] = 0
steps_in (run ∷ runs) = run.count + steps_in runs

-- runs with more steps of an actor spell those steps after what they spelled before
abbrev pub SpellsMore : Type 0
SpellsMore = (runs : List Run) (actor : Actor) (count : ℕ) → steps_of (pushed runs actor count) ≡ steps_of runs ++ replicate count actor
