-- The parts of a serial schedule are schedules, and go on at their end.
use Rattle.std.proofs.Common.{◌≡◌, ◌<◌, ◌≤◌, ◌+◌, ℕ, Bool, true, false, List, [], ◌∷◌, ◌++◌, length, replicate, None, refl, sym, subst, ap, ◌∙◌, arith, append-nil, append_assoc}
use Rattle.std.specs.Prelude.{if◌then◌else◌, ◌⊎◌, Result, Ok, Err, OnOk, OnErr}
use Rattle.std.proofs.Common.{inl, inr, ◌≢◌}
use Rattle.std.proofs.lemmas.Bool.{cases_eq}
use Rattle.std.proofs.lemmas.List.{length-append, length-replicate, take_more}
use Rattle.std.proofs.Math.ListN.{take, get_or}
use Rattle.qpu_machine.specs.declared.actor.Actor.{Actor}
use Rattle.qpu_machine.specs.declared.journal.Run.{Run}
use Rattle.qpu_machine.specs.Machine.{MachineState, after_step}
use Rattle.qpu_machine.specs.Schedule.{After, here, next}
use Rattle.qpu_machine.specs.Still.{has_step}
use Rattle.qpu_machine.specs.Journal.{steps_of, steps_in, pushed, last_count}
use Rattle.qpu_machine.specs.Gains.{Gained}
use Rattle.qpu_machine.specs.Serial.{Stretch, stops, goes, Tried, rests, moves, InTurn, none, each, tries_of, Turned, turned, Round, over, turn, SerialSchedule, ends, goes_on}
use Rattle.qpu_machine.specs.Bound.{steps_left}
use Rattle.qpu_machine.specs.Ending.{IsFinal}
use Rattle.qpu_machine.specs.Sound.{IsSoundMachine}
use Rattle.qpu_machine.proofs.BoundLemmas.{steps_bounded}
use Rattle.qpu_machine.proofs.EndingLemmas.{final_of}
use Rattle.qpu_machine.proofs.JournalLemmas.{spells_more}

-- schedules

pub after_then : {m n k : MachineState} {s t : List Actor} → After m s n → After n t k → After m (s ++ t) k
after_then here more = more
after_then (next step rest) more = next step (after_then rest more)

pub tried_after : {actor : Actor} {m n : MachineState} {s : List Actor} → Tried actor m s n → After m s n
tried_after (rests stays) = here
tried_after (moves step) = next step here

pub stretch_after : {q : ℕ} {m n : MachineState} {s : List Actor} → Stretch q m s n → After m s n
stretch_after (stops still) = here
stretch_after (goes has step more) = next step (stretch_after more)

pub in_turn_after : {actors : List Actor} {m n : MachineState} {s : List Actor} → InTurn actors m s n → After m s n
in_turn_after none = here
in_turn_after (each first more) = after_then (tried_after first) (in_turn_after more)

pub turned_after : {q : ℕ} {m n : MachineState} {s : List Actor} → Turned q m s n → After m s n
turned_after (turned stretch tries) = after_then (stretch_after stretch) (in_turn_after tries)

pub round_after : {q : ℕ} {m n : MachineState} {s : List Actor} → Round q m s n → After m s n
round_after (over last) = here
round_after (turn low stretch tries more) = after_then (stretch_after stretch) (after_then (in_turn_after tries) (round_after more))

pub serial_after : {m n : MachineState} {s : List Actor} → SerialSchedule m s n → After m s n
serial_after (ends final) = here
serial_after (goes_on round more) = after_then (round_after round) (serial_after more)

-- at their end

pub in_turn_more : {actors : List Actor} {actor : Actor} {m n k : MachineState} {s t : List Actor} → InTurn actors m s n → Tried actor n t k → InTurn (actors ++ actor ∷ []) m (s ++ t) k
in_turn_more {actor = actor} {m = m} {k = k} {t = t} none last =
    let P : List Actor → Type 0 = λ x. InTurn (actor ∷ []) m x k in subst P (append-nil t) (each last none)
in_turn_more {actor = actor} {m = m} {k = k} {t = t} (each {actor = first} {more = rest} {s = a} {t = b} tried more) last =
    let P : List Actor → Type 0 = λ x. InTurn (first ∷ (rest ++ actor ∷ [])) m x k in
    subst P (sym (append_assoc a b t)) (each tried (in_turn_more more last))

-- one more of a list of actors
pub in_turn_next : {m n k : MachineState} {s t : List Actor} (items actors : List Actor) (i : ℕ) (d : Actor) → items ≡ actors → i < length actors → InTurn (take i actors) m s n
    → Tried (get_or items i d) n t k → InTurn (take (i + 1) actors) m (s ++ t) k
in_turn_next {m} {n} {k} {s} {t} items actors i d same low turns tried =
    subst (λ xs. InTurn xs m (s ++ t) k) (sym (take_more actors i d low)) (in_turn_more turns (subst (λ xs. Tried (get_or xs i d) n t k) same tried))

-- a journal's steps

pub counted_steps : (runs : List Run) → steps_in runs ≡ length (steps_of runs)
counted_steps [] = refl
counted_steps (run ∷ runs) =
    let rest = counted_steps runs in
    let first = length-replicate run.count run.actor in
    let both = length-append (replicate run.count run.actor) (steps_of runs) in
    omega (arith, rest, first, both)

pub gained_count : (before after : List Run) (s : List Actor) → steps_of after ≡ steps_of before ++ s → steps_in after ≡ steps_in before + length s
gained_count before after s spells =
    let b = counted_steps before in
    let a = counted_steps after in
    let both = length-append (steps_of before) s in
    let same = ap (λ (t : List Actor). length t) spells in
    omega (arith, a, b, both, same)

pub last_few : (runs : List Run) (actor : Actor) → last_count runs actor ≤ steps_in runs
unfolding last_count
last_few [] actor = omega arith
last_few (run ∷ []) actor = by_test _ run.count
  where
    by_test : (b : Bool) (n : ℕ) → (if b then n else 0) ≤ n + 0
    by_test true n = omega arith
    by_test false n = omega arith
last_few (run ∷ second ∷ runs) actor = let rest = last_few (second ∷ runs) actor in omega (arith, rest)

pub nothing_gained : (runs : List Run) (Holds : List Actor → Type 0) → Holds [] → Gained runs runs Holds
nothing_gained runs Holds holds = record { steps = []; spells = sym (append-nil (steps_of runs)); holds = holds }

pub gained_pushed : (runs after : List Run) (actor : Actor) (count : ℕ) (Holds : List Actor → Type 0) → after ≡ pushed runs actor count → Holds (replicate count actor) → Gained runs after Holds
gained_pushed runs after actor count Holds is holds =
    record { steps = replicate count actor; spells = ap steps_of is ∙ spells_more runs actor count; holds = holds }

pub nothing_more : (runs after : List Run) (Holds : List Actor → Type 0) → after ≡ runs → Holds [] → Gained runs after Holds
nothing_more runs after Holds same holds = record { steps = []; spells = ap steps_of same ∙ sym (append-nil (steps_of runs)); holds = holds }

-- one after another
pub gained_then : (a b c : List Run) (P Q R : List Actor → Type 0) → Gained a b P → Gained b c Q → ((s t : List Actor) → P s → Q t → R (s ++ t)) → Gained a c R
gained_then a b c P Q R first second both = record {
  steps = first.steps ++ second.steps;
  spells = second.spells ∙ ap (λ (s : List Actor). s ++ second.steps) first.spells ∙ append_assoc (steps_of a) first.steps second.steps;
  holds = both first.steps second.steps first.holds second.holds;
}

pub gained_same : (a b : List Run) (P Q : List Actor → Type 0) → Gained a b P → ((s : List Actor) → P s → Q s) → Gained a b Q
gained_same a b P Q gained same = record { steps = gained.steps; spells = gained.spells; holds = same gained.steps gained.holds }

pub err_holds : {A E : Type 0} (r : Result A E) (P : Type 0) → P → OnErr r P
err_holds (Ok a) P holds = tt
err_holds (Err e) P holds = holds

pub ok_then : {A E : Type 0} (r : Result A E) (P Q : Type 0) → OnOk r P → (P → Q) → OnOk r Q
ok_then (Ok a) P Q holds more = more holds
ok_then (Err e) P Q holds more = tt

pub err_then : {A E : Type 0} (r : Result A E) (P Q : Type 0) → OnErr r P → (P → Q) → OnErr r Q
err_then (Ok a) P Q holds more = tt
err_then (Err e) P Q holds more = more holds

-- the steps that a journal gains are steps that the machine has left no more
pub room_after : (before after : List Run) (m n : MachineState) (s : List Actor) → IsSoundMachine m → After m s n → steps_of after ≡ steps_of before ++ s
    → steps_in after + steps_left n ≤ steps_in before + steps_left m
room_after before after m n s sound taken spells =
    let count = gained_count before after s spells in let bound = steps_bounded sound taken in omega (arith, count, bound)

-- a round as far as it has come: what is left of it makes it whole
pub record RoundSoFar (m : MachineState) (q : ℕ) (s : List Actor) (n : MachineState) : Type 0 where
  pub after : After m s n
  pub goes : (u : List Actor) (l : MachineState) → Round q n u l → Round 0 m (s ++ u) l

pub round_begun : (m : MachineState) → RoundSoFar m 0 [] m
round_begun m = record { after = here; goes = λ u l round. round }

pub round_more : {m n k : MachineState} {s t : List Actor} (q : ℕ) → RoundSoFar m q s n → q < 12 → Turned q n t k → RoundSoFar m (q + 1) (s ++ t) k
round_more {m} {k = k} {s} q far low (turned {s = a} {t = b} stretch tries) = record {
  after = after_then far.after (after_then (stretch_after stretch) (in_turn_after tries));
  goes = λ u l round.
      subst (λ x. Round 0 m x l) (ap (λ (x : List Actor). s ++ x) (sym (append_assoc a b u)) ∙ sym (append_assoc s (a ++ b) u))
      (far.goes (a ++ (b ++ u)) l (turn low stretch tries round));
}

pub round_over : {m n : MachineState} {s : List Actor} (q : ℕ) → RoundSoFar m q s n → q ≡ 12 → Round 0 m s n
round_over {m} {n} {s} q far last = subst (λ x. Round 0 m x n) (append-nil s) (far.goes [] n (over last))

-- rounds as far as they have come
pub record SerialSoFar (m : MachineState) (s : List Actor) (n : MachineState) : Type 0 where
  pub after : After m s n
  pub goes : (u : List Actor) (l : MachineState) → SerialSchedule n u l → SerialSchedule m (s ++ u) l

pub serial_begun : (m : MachineState) → SerialSoFar m [] m
serial_begun m = record { after = here; goes = λ u l serial. serial }

pub serial_more : {m n k : MachineState} {s t : List Actor} → SerialSoFar m s n → Round 0 n t k → SerialSoFar m (s ++ t) k
serial_more {m} {s = s} {t = t} far round = record {
  after = after_then far.after (round_after round);
  goes = λ u l serial. subst (λ x. SerialSchedule m x l) (sym (append_assoc s t u)) (far.goes (t ++ u) l (goes_on round serial));
}

pub serial_over : {m n : MachineState} {s : List Actor} → SerialSoFar m s n → IsFinal n → SerialSchedule m s n
serial_over {m} {n} {s} far final = subst (λ x. SerialSchedule m x n) (append-nil s) (far.goes [] n (ends final))

-- a round without a step

both_nil : (s t : List Actor) → s ++ t ≡ [] → (s ≡ []) × (t ≡ [])
both_nil [] t nil = (refl, nil)
both_nil (actor ∷ s) t nil = absurd (cc)

stretch_nil : {q : ℕ} {m n : MachineState} {s : List Actor} → Stretch q m s n → s ≡ [] → m ≡ n
stretch_nil (stops still) nil = refl
stretch_nil (goes has step more) nil = absurd (cc)

tried_nil : {actor : Actor} {m n : MachineState} {s : List Actor} → Tried actor m s n → s ≡ [] → (after_step m actor ≡ None) × (m ≡ n)
tried_nil (rests stays) nil = (stays, refl)
tried_nil (moves step) nil = absurd (cc)

-- each of some actors, none of which has a step
data Still : List Actor → MachineState → Type 0 where
  all_still : {m : MachineState} → Still [] m
  one_still : {actor : Actor} {more : List Actor} {m : MachineState} → after_step m actor ≡ None → Still more m → Still (actor ∷ more) m

in_turn_nil : {actors : List Actor} {m n : MachineState} {s : List Actor} → InTurn actors m s n → s ≡ [] → Still actors m × (m ≡ n)
in_turn_nil none nil = (all_still, refl)
in_turn_nil (each {more = more} {s = s} {t = t} tried rest) nil =
    let empty = both_nil s t nil in
    let first = tried_nil tried empty.0 in
    let others = in_turn_nil rest empty.1 in
    (one_still first.0 (subst (Still more) (sym first.1) others.0), first.1 ∙ others.1)

still_has : (m : MachineState) (q : ℕ) → Still (tries_of q) m → has_step m q ≡ false
unfolding has_step
still_has m q (one_still a (one_still b (one_still c (one_still d (one_still e all_still))))) = rw (a, b, c, d, e) refl

round_nil : {q : ℕ} {m n : MachineState} {s : List Actor} → Round q m s n → s ≡ [] → (r : ℕ) → q ≤ r → r < 12 → has_step m r ≡ false
round_nil {q} (over last) nil r low few = absurd (omega (arith, last, low, few))
round_nil {q} {m} (turn {n = n} {k = k} {s = s} {t = t} {u = u} less stretch tries more) nil r low few =
    let first = both_nil s (t ++ u) nil in
    let second = both_nil t u first.1 in
    let same = stretch_nil stretch first.0 in
    let still = in_turn_nil tries second.0 in
    by_place (cases_eq q r) (still_has m q (subst (Still (tries_of q)) (sym same) still.0))
    (λ (apart : q + 1 ≤ r). subst (λ x. has_step x r ≡ false) (sym (same ∙ still.1)) (round_nil more second.1 r apart few))
  where
    by_place : (q ≡ r) ⊎ (q ≢ r) → has_step m q ≡ false → (q + 1 ≤ r → has_step m r ≡ false) → has_step m r ≡ false
    by_place (inl is) own others = subst (λ x. has_step m x ≡ false) is own
    by_place (inr apart) own others = others (omega (arith, low, apart))

-- so a round of a machine that isn't final takes a step
pub round_moves : (m n : MachineState) (s : List Actor) → IsSoundMachine m → Round 0 m s n → IsFinal m ⊎ (steps_left n < steps_left m)
round_moves m n [] sound round = inl (final_of m sound (λ r few. round_nil round refl r (omega arith) few))
round_moves m n (actor ∷ s) sound round = let bound = steps_bounded sound (round_after round) in inr (omega (arith, bound))
