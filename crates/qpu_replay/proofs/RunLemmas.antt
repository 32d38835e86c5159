-- Runs, one step or one run after another.
use Rattle.std.proofs.Common.{◌≡◌, ◌<◌, ℕ, ◌+◌, ◌-◌, zero, suc, List, [], ◌∷◌, ◌++◌, replicate, take, drop, length, refl, ap, sym, subst, ◌∙◌, append_assoc, append-nil, arith}
use Rattle.std.specs.Prelude.{slice_index_or}
use Rattle.std.proofs.lemmas.List.{take_more, drop_more, take-append-drop, length-take-le}
use Rattle.qpu_machine.specs.declared.actor.Actor.{Actor}
use Rattle.qpu_machine.specs.declared.journal.Run.{Run}
use Rattle.qpu_machine.specs.Journal.{steps_of}
use Rattle.qpu_machine.specs.Machine.{MachineState, Step}
use Rattle.qpu_machine.specs.Schedule.{After, here, next}
use Rattle.qpu_machine.proofs.SerialLemmas.{after_then}
use Rattle.qpu_replay.specs.Replay.{StopsIn, StopsAt}

-- one more step of an actor

pub replicate_more : (n : ℕ) (actor : Actor) → replicate n actor ++ actor ∷ [] ≡ replicate (suc n) actor
replicate_more zero actor = refl
replicate_more (suc n) actor = ap (λ (s : List Actor). actor ∷ s) (replicate_more n actor)

pub step_more : {m k l : MachineState} (n : ℕ) (actor : Actor) → After m (replicate n actor) k → Step k actor l → After m (replicate (n + 1) actor) l
step_more {m} {l = l} n actor far step =
    let more : n + 1 ≡ suc n = omega arith in
    subst (λ s. After m s l) (replicate_more n actor ∙ ap (λ (x : ℕ). replicate x actor) (sym more)) (after_then far (next step here))

-- one more run

pub steps_then : (xs ys : List Run) → steps_of (xs ++ ys) ≡ steps_of xs ++ steps_of ys
steps_then [] ys = refl
steps_then (run ∷ xs) ys =
    let front = replicate run.count run.actor in
    ap (λ (s : List Actor). front ++ s) (steps_then xs ys) ∙ sym (append_assoc front (steps_of xs) (steps_of ys))

pub steps_next : (runs : List Run) (i : ℕ) (d : Run) → i < length runs
    → steps_of (take (i + 1) runs) ≡ steps_of (take i runs) ++ replicate (slice_index_or runs i d).count (slice_index_or runs i d).actor
steps_next runs i d low =
    let run : Run = slice_index_or runs i d in
    let one : steps_of (run ∷ []) ≡ replicate run.count run.actor = append-nil (replicate run.count run.actor) in
    ap steps_of (take_more runs i d low) ∙ steps_then (take i runs) (run ∷ []) ∙ ap (λ (s : List Actor). steps_of (take i runs) ++ s) one

pub run_more : {m k l : MachineState} (runs : List Run) (i : ℕ) (d : Run) → i < length runs → After m (steps_of (take i runs)) k
    → After k (replicate (slice_index_or runs i d).count (slice_index_or runs i d).actor) l → After m (steps_of (take (i + 1) runs)) l
run_more {m} {l = l} runs i d low far more = subst (λ s. After m s l) (sym (steps_next runs i d low)) (after_then far more)

-- a run that stops, behind runs whose steps lead to it

abbrev pub Joins : (MachineState → List Actor → MachineState → Type 0) → Type 0
Joins Leads = (m k n : MachineState) (s t : List Actor) → Leads m s k → Leads k t n → Leads m (s ++ t) n

pub afters_join : Joins After
afters_join m k n s t far more = after_then far more

pub stops_at : (Leads : MachineState → List Actor → MachineState → Type 0) → Joins Leads → {m k n : MachineState} (runs : List Run) (i step : ℕ) (d : Run) → i < length runs
    → Leads m (steps_of (take i runs)) k → StopsIn Leads step (slice_index_or runs i d) k n → StopsAt Leads (i + 1) step m runs n
stops_at Leads join {m} {k} {n} runs i step d low far stops =
    let long : length (take i runs) ≡ i = length-take-le i runs (omega (arith, low)) in
    record {
      front = take i runs;
      run = slice_index_or runs i d;
      back = drop (i + 1) runs;
      splits = sym (take-append-drop i runs) ∙ ap (λ (xs : List Run). take i runs ++ xs) (drop_more runs i d low);
      number = omega (arith, long);
      least = stops.least;
      most = stops.most;
      after = join m k n (steps_of (take i runs)) (replicate (step - 1) (slice_index_or runs i d).actor) far stops.after;
      stops = stops.stops;
    }
