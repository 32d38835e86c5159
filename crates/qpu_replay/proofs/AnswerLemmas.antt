-- A replay has one answer, and took the steps before it.
use Rattle.std.proofs.Common.{◌≡◌, ◌<◌, ℕ, ◌+◌, ◌-◌, zero, suc, List, [], ◌∷◌, ◌++◌, Option, Some, None, true, replicate, take, length, refl, ap, sym, subst, ◌∙◌, append_assoc, arith}
use Rattle.std.specs.Prelude.{Result, Ok, Err, is_some}
use Rattle.std.proofs.Math.Seq.{take-append_seam}
use Rattle.std.proofs.lemmas.List.{length-append, length-replicate}
use Rattle.qpu_machine.specs.declared.actor.Actor.{Actor}
use Rattle.qpu_machine.specs.declared.conclusion.Ending.{Ending}
use Rattle.qpu_machine.specs.declared.journal.Run.{Run}
use Rattle.qpu_machine.specs.Ending.{ending_of}
use Rattle.qpu_machine.specs.Journal.{steps_of, steps_in}
use Rattle.qpu_machine.specs.Machine.{MachineState, Step, after_step}
use Rattle.qpu_machine.specs.Schedule.{After, here, next}
use Rattle.qpu_machine.proofs.SerialLemmas.{counted_steps}
use Rattle.qpu_replay.specs.declared.fault.ReplayFault.{ReplayFault}
use Rattle.qpu_replay.specs.declared.fault.ReplayFault.TheVariants.{NotEnabled, NotFinished}
use Rattle.qpu_replay.specs.Replay.{StopsAt, IsComplete, IsUnfinished, IsFault, Replays, steps_taken}
use Rattle.qpu_replay.proofs.RunLemmas.{steps_then}

some_same : (a b : MachineState) → ◌≡◌ {A = Option MachineState} (Some a) (Some b) → a ≡ b
some_same a b e = cc

pub some_none : (a : MachineState) → ◌≡◌ {A = Option MachineState} (Some a) None → ⊥
some_none a e = cc

pub head_same : {A : Type 0} (x y : A) (xs ys : List A) → x ∷ xs ≡ y ∷ ys → x ≡ y
head_same x y xs ys e = cc

pub tail_same : {A : Type 0} (x y : A) (xs ys : List A) → x ∷ xs ≡ y ∷ ys → xs ≡ ys
tail_same x y xs ys e = cc

-- a kind of steps that leaves no choice, and has none where the actor has no step
pub record IsKind (S : MachineState → Actor → MachineState → Type 0) : Type 0 where
  pub one : (m n k : MachineState) (actor : Actor) → S m actor n → S m actor k → n ≡ k
  pub some : (m n : MachineState) (actor : Actor) → S m actor n → after_step m actor ≡ None → ⊥

-- steps of a kind, one after another
pub data Walks (S : MachineState → Actor → MachineState → Type 0) : MachineState → List Actor → MachineState → Type 0 where
  stand : {m : MachineState} → Walks S m [] m
  walk : {m n k : MachineState} {actor : Actor} {s : List Actor} → S m actor n → Walks S n s k → Walks S m (actor ∷ s) k

-- a step leads to one machine

moved_to : (S : MachineState → Actor → MachineState → Type 0) (m m' n : MachineState) (a b : Actor) → m ≡ m' → a ≡ b → S m a n → S m' b n
moved_to S m m' n a b same is step = subst (λ (x : MachineState). S x b n) same (subst (λ (x : Actor). S m x n) is step)

pub step_one : (S : MachineState → Actor → MachineState → Type 0) (m m' n k : MachineState) (a b : Actor) → IsKind S → m ≡ m' → a ≡ b → S m a n → S m' b k → n ≡ k
step_one S m m' n k a b kind same is first second = kind.one m' n k b (moved_to S m m' n a b same is first) second

no_step : (S : MachineState → Actor → MachineState → Type 0) (m m' n : MachineState) (a b : Actor) → IsKind S → m ≡ m' → a ≡ b → S m a n → after_step m' b ≡ None → ⊥
no_step S m m' n a b kind same is first second = kind.some m' n b (moved_to S m m' n a b same is first) second

-- the plain steps are such a kind
pub plain_steps : IsKind Step
plain_steps = record {
  one = λ m n k actor first second. some_same n k (sym first ∙ second);
  some = λ m n actor first second. some_none n (sym first ∙ second);
}

pub after_walks : {m n : MachineState} {s : List Actor} → After m s n → Walks Step m s n
after_walks here = stand
after_walks (next step more) = walk step (after_walks more)

-- a schedule leads to one machine
pub walk_one : (S : MachineState → Actor → MachineState → Type 0) (kind : IsKind S) {m m' n k : MachineState} {s t : List Actor} → m ≡ m' → s ≡ t → Walks S m s n → Walks S m' t k → n ≡ k
walk_one S kind same is stand stand = same
walk_one S kind same is stand (walk step more) = absurd (cc)
walk_one S kind same is (walk step more) stand = absurd (cc)
walk_one S kind {m} {m'} same is (walk {n = n} {actor = a} {s = s} step more) (walk {n = k} {actor = b} {s = t} step' more') =
    walk_one S kind (step_one S m m' n k a b kind same (head_same a b s t is) step step') (tail_same a b s t is) more more'

-- no step of a schedule stands where its actor has none
passes : (S : MachineState → Actor → MachineState → Type 0) (kind : IsKind S) {m m' n k : MachineState} {s t : List Actor} (actor : Actor) (rest : List Actor) → m ≡ m' → s ≡ t ++ actor ∷ rest
    → Walks S m s k → Walks S m' t n → after_step n actor ≡ None → ⊥
passes S kind actor rest same is stand stand stops = absurd (cc)
passes S kind actor rest same is stand (walk step more) stops = absurd (cc)
passes S kind {m} {m'} actor rest same is (walk {n = k} {actor = a} {s = s} step more) stand stops =
    no_step S m m' k a actor kind same (head_same a actor s rest is) step stops
passes S kind {m} {m'} actor rest same is (walk {n = n} {actor = a} {s = s} step more) (walk {n = k} {actor = b} {s = t} step' more') stops =
    passes S kind actor rest (step_one S m m' n k a b kind same (head_same a b s (t ++ actor ∷ rest) is) step step') (tail_same a b s (t ++ actor ∷ rest) is) more more' stops

-- a schedule stops in one place

pub record StopsAlike (s t : List Actor) (n k : MachineState) : Type 0 where
  pub steps : s ≡ t
  pub machine : n ≡ k

stops_one : (S : MachineState → Actor → MachineState → Type 0) (kind : IsKind S) {m m' n k : MachineState} {s t : List Actor} (a b : Actor) (r u : List Actor) → m ≡ m' → s ++ a ∷ r ≡ t ++ b ∷ u
    → Walks S m s n → after_step n a ≡ None → Walks S m' t k → after_step k b ≡ None → StopsAlike s t n k
stops_one S kind a b r u same is stand stops stand stops' = record { steps = refl; machine = same }
stops_one S kind {m} {m'} a b r u same is stand stops (walk {n = n} {actor = c} {s = t} step more) stops' =
    absurd (no_step S m' m n c a kind (sym same) (sym (head_same a c r (t ++ b ∷ u) is)) step stops)
stops_one S kind {m} {m'} a b r u same is (walk {n = n} {actor = c} {s = s} step more) stops stand stops' =
    absurd (no_step S m m' n c b kind same (head_same c b (s ++ a ∷ r) u is) step stops')
stops_one S kind {m} {m'} a b r u same is (walk {n = n} {actor = c} {s = s} step more) stops (walk {n = k} {actor = d} {s = t} step' more') stops' =
    let actors : c ≡ d = head_same c d (s ++ a ∷ r) (t ++ b ∷ u) is in
    let alike = stops_one S kind a b r u (step_one S m m' n k c d kind same actors step step') (tail_same c d (s ++ a ∷ r) (t ++ b ∷ u) is) more stops more' stops' in
    record { steps = rw (actors, alike.steps) refl; machine = alike.machine }

-- a place among the steps of runs has one run and one number in it

pub record IsOnePlace (i j front other : ℕ) : Type 0 where
  pub run : front ≡ other
  pub step : i ≡ j

one_place : (front other back rest : List Run) (run last : Run) (i j : ℕ) → front ++ run ∷ back ≡ other ++ last ∷ rest
    → i < run.count → j < last.count → steps_in front + i ≡ steps_in other + j → IsOnePlace i j (length front) (length other)
one_place [] [] back rest run last i j is few few' same = record { run = refl; step = omega (arith, same) }
one_place [] (x ∷ other) back rest run last i j is few few' same =
    let count : run.count ≡ x.count = ap (λ (y : Run). y.count) (head_same run x back (other ++ last ∷ rest) is) in
    absurd (omega (arith, count, few, same))
one_place (x ∷ front) [] back rest run last i j is few few' same =
    let count : x.count ≡ last.count = ap (λ (y : Run). y.count) (head_same x last (front ++ run ∷ back) rest is) in
    absurd (omega (arith, count, few', same))
one_place (x ∷ front) (y ∷ other) back rest run last i j is few few' same =
    let count : x.count ≡ y.count = ap (λ (z : Run). z.count) (head_same x y (front ++ run ∷ back) (other ++ last ∷ rest) is) in
    let place = one_place front other back rest run last i j (tail_same x y (front ++ run ∷ back) (other ++ last ∷ rest) is) few few' (omega (arith, count, same)) in
    record { run = ap suc place.run; step = place.step }

-- the steps before the one that isn't enabled
before : {Leads : MachineState → List Actor → MachineState → Type 0} {item step : ℕ} {m n : MachineState} {runs : List Run} → StopsAt Leads item step m runs n → List Actor
before {step = step} at = steps_of at.front ++ replicate (step - 1) at.run.actor

-- those that follow it
behind : {Leads : MachineState → List Actor → MachineState → Type 0} {item step : ℕ} {m n : MachineState} {runs : List Run} → StopsAt Leads item step m runs n → List Actor
behind {step = step} at = replicate (at.run.count - step) at.run.actor ++ steps_of at.back

replicate_split : (i j : ℕ) (actor : Actor) → replicate (i + suc j) actor ≡ replicate i actor ++ actor ∷ replicate j actor
replicate_split zero j actor = let e : 0 + suc j ≡ suc j = omega arith in ap (λ (x : ℕ). replicate x actor) e
replicate_split (suc i) j actor =
    let e : suc i + suc j ≡ suc (i + suc j) = omega arith in
    ap (λ (x : ℕ). replicate x actor) e ∙ ap (λ (s : List Actor). actor ∷ s) (replicate_split i j actor)

within : {Leads : MachineState → List Actor → MachineState → Type 0} {item step : ℕ} {m n : MachineState} {runs : List Run} (at : StopsAt Leads item step m runs n) → steps_of runs ≡ before at ++ at.run.actor ∷ behind at
unfolding before behind
within {step = step} at =
    let actor = at.run.actor in
    let counts : at.run.count ≡ (step - 1) + suc (at.run.count - step) = let least = at.least in let most = at.most in omega (arith, least, most) in
    let run : replicate at.run.count actor ≡ replicate (step - 1) actor ++ actor ∷ replicate (at.run.count - step) actor =
    ap (λ (x : ℕ). replicate x actor) counts ∙ replicate_split (step - 1) (at.run.count - step) actor in
    ap steps_of at.splits ∙ steps_then at.front (at.run ∷ at.back)
    ∙ ap (λ (s : List Actor). steps_of at.front ++ (s ++ steps_of at.back)) run
    ∙ ap (λ (s : List Actor). steps_of at.front ++ s) (append_assoc (replicate (step - 1) actor) (actor ∷ replicate (at.run.count - step) actor) (steps_of at.back))
    ∙ sym (append_assoc (steps_of at.front) (replicate (step - 1) actor) (actor ∷ behind at))

count_before : {Leads : MachineState → List Actor → MachineState → Type 0} {item step : ℕ} {m n : MachineState} {runs : List Run} (at : StopsAt Leads item step m runs n) → length (before at) ≡ steps_in at.front + (step - 1)
unfolding before
count_before {step = step} at =
    length-append (steps_of at.front) (replicate (step - 1) at.run.actor)
    ∙ (rw (length-replicate (step - 1) at.run.actor, counted_steps at.front) refl)

-- one outcome of steps of one kind

-- schedules that lead by steps of a kind
pub record LeadsBy (S : MachineState → Actor → MachineState → Type 0) (Leads : MachineState → List Actor → MachineState → Type 0) : Type 0 where
  pub kind : IsKind S
  pub walks : (m n : MachineState) (s : List Actor) → Leads m s n → Walks S m s n

stop_passed : {S : MachineState → Actor → MachineState → Type 0} {Leads : MachineState → List Actor → MachineState → Type 0} {item step : ℕ} {m n k : MachineState} {runs : List Run}
    → LeadsBy S Leads → StopsAt Leads item step m runs n → Leads m (steps_of runs) k → ⊥
unfolding before
stop_passed {S} {m = m} {n = n} {k = k} {runs = runs} by at far =
    passes S by.kind at.run.actor (behind at) refl (within at) (by.walks m k (steps_of runs) far) (by.walks m n (before at) at.after) at.stops

same_stop : {S : MachineState → Actor → MachineState → Type 0} {Leads : MachineState → List Actor → MachineState → Type 0} {item step other more : ℕ} {m n k : MachineState} {runs : List Run}
    → LeadsBy S Leads → StopsAt Leads item step m runs n → StopsAt Leads other more m runs k → (item ≡ other) × (step ≡ more) × (n ≡ k)
unfolding before
same_stop {S} {item = item} {step = step} {other = other} {more = more} {m = m} {n = n} {k = k} by a b =
    let alike = stops_one S by.kind a.run.actor b.run.actor (behind a) (behind b) refl (sym (within a) ∙ within b) (by.walks m n (before a) a.after) a.stops (by.walks m k (before b) b.after) b.stops in
    let far : steps_in a.front + (step - 1) ≡ steps_in b.front + (more - 1) = sym (count_before a) ∙ ap (λ (s : List Actor). length s) alike.steps ∙ count_before b in
    let least = a.least in
    let least' = b.least in
    let most = a.most in
    let most' = b.most in
    let place = one_place a.front b.front a.back b.back a.run b.run (step - 1) (more - 1) (sym a.splits ∙ b.splits) (omega (arith, least, most)) (omega (arith, least', most')) far in
    let run = place.run in
    let steps = place.step in
    let number = a.number in
    let number' = b.number in
    (omega (arith, run, number, number'), omega (arith, steps, least, least'), alike.machine)

pub one_far : {S : MachineState → Actor → MachineState → Type 0} {Leads : MachineState → List Actor → MachineState → Type 0} {m n k : MachineState} {s : List Actor} → LeadsBy S Leads → Leads m s n → Leads m s k → n ≡ k
one_far {S} {m = m} {n = n} {k = k} {s = s} by first second = walk_one S by.kind refl refl (by.walks m n s first) (by.walks m k s second)

-- a machine isn't both final and not
moves_not : {S : MachineState → Actor → MachineState → Type 0} {Leads : MachineState → List Actor → MachineState → Type 0} {m n k : MachineState} {runs : List Run}
    → LeadsBy S Leads → IsComplete Leads m runs n → IsUnfinished Leads m runs k → ⊥
moves_not {n = n} {k = k} by whole part =
    let same : n ≡ k = one_far by whole.after part.after in
    let none : after_step k part.actor ≡ None = subst (λ x. after_step x part.actor ≡ None) same (whole.final part.actor) in
    let moves : is_some (after_step k part.actor) ≡ true = part.moves in
    absurd (cc)

pub one_end : {S : MachineState → Actor → MachineState → Type 0} {Leads : MachineState → List Actor → MachineState → Type 0} {m n k : MachineState} {runs : List Run}
    → LeadsBy S Leads → IsComplete Leads m runs n → IsComplete Leads m runs k → n ≡ k
one_end by first second = one_far by first.after second.after

pub no_fault : {S : MachineState → Actor → MachineState → Type 0} {Leads : MachineState → List Actor → MachineState → Type 0} {m n : MachineState} {runs : List Run} (fault : ReplayFault) (k : MachineState)
    → LeadsBy S Leads → IsComplete Leads m runs n → IsFault Leads fault m runs k → ⊥
no_fault (NotEnabled item step) k by whole fails = stop_passed by fails whole.after
no_fault NotFinished k by whole fails = moves_not by whole fails

pub one_fault : {S : MachineState → Actor → MachineState → Type 0} {Leads : MachineState → List Actor → MachineState → Type 0} (a b : ReplayFault) (m n k : MachineState) (runs : List Run)
    → LeadsBy S Leads → IsFault Leads a m runs n → IsFault Leads b m runs k → (a ≡ b) × (n ≡ k)
one_fault (NotEnabled item step) (NotEnabled other more) m n k runs by first second = let same = same_stop by first second in (rw (same.0, same.1) refl, same.2)
one_fault (NotEnabled item step) NotFinished m n k runs by first second = absurd (stop_passed by first second.after)
one_fault NotFinished (NotEnabled item step) m n k runs by first second = absurd (stop_passed by second first.after)
one_fault NotFinished NotFinished m n k runs by first second = (refl, one_far by first.after second.after)

pub by_steps : LeadsBy Step After
by_steps = record { kind = plain_steps; walks = λ m n s far. after_walks far }

pub one_answer : (a b : Result Ending ReplayFault) (m n k : MachineState) (runs : List Run) → Replays a m runs n → Replays b m runs k → (a ≡ b) × (n ≡ k)
one_answer (Ok a) (Ok b) m n k runs first second =
    let same : n ≡ k = one_end by_steps first.0 second.0 in
    let ending : a ≡ b = first.1 ∙ ap ending_of same ∙ sym second.1 in
    (ap (λ (x : Ending). Ok x) ending, same)
one_answer (Ok a) (Err f) m n k runs first second = absurd (no_fault f k by_steps first.0 second)
one_answer (Err e) (Ok b) m n k runs first second = absurd (no_fault e n by_steps second.0 first)
one_answer (Err e) (Err f) m n k runs first second =
    let same = one_fault e f m n k runs by_steps first second in (ap (λ (x : ReplayFault). Err x) same.0, same.1)

-- the steps that a replay took

front_taken : {item step : ℕ} {m n : MachineState} {runs : List Run} (at : StopsAt After item step m runs n) → take (item - 1) runs ≡ at.front
front_taken {item} {runs = runs} at =
    let number = at.number in
    let long : item - 1 ≡ length at.front = omega (arith, number) in
    ap (λ (n : ℕ). take n runs) long ∙ ap (λ (xs : List Run). take (length at.front) xs) at.splits ∙ take-append_seam at.front (at.run ∷ at.back)

before_taken : {item step : ℕ} {m n : MachineState} {runs : List Run} (at : StopsAt After item step m runs n)
    → before at ≡ take (steps_in (take (item - 1) runs) + (step - 1)) (steps_of runs)
before_taken {step = step} {runs = runs} at =
    let long = count_before at ∙ ap (λ (xs : List Run). steps_in xs + (step - 1)) (sym (front_taken at)) in
    sym (take-append_seam (before at) (at.run.actor ∷ behind at))
    ∙ ap (λ (s : List Actor). take (length (before at)) s) (sym (within at))
    ∙ ap (λ (n : ℕ). take n (steps_of runs)) long

pub fault_taken : (fault : ReplayFault) (m n : MachineState) (runs : List Run) → IsFault After fault m runs n → After m (steps_taken (Err fault) runs) n
unfolding before
fault_taken (NotEnabled item step) m n runs at = subst (λ (s : List Actor). After m s n) (before_taken at) at.after
fault_taken NotFinished m n runs part = part.after
