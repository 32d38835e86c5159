-- Schedules of whole transfers: they have one outcome, and their steps add up.
use Rattle.std.proofs.Common.{◌≡◌, ◌<◌, ◌^◌, ℕ, ◌≤◌, ◌+◌, ◌-◌, zero, suc, List, [], ◌∷◌, ◌++◌, true, None, replicate, take, length, refl, ap, sym, subst, ◌∙◌, append_assoc, append-nil, length-append, arith}
use Rattle.std.specs.Prelude.{Result, Ok, Err, slice_index_or}
use Rattle.std.proofs.lemmas.List.{length-replicate}
use Rattle.qpu_machine.specs.declared.actor.Actor.{Actor}
use Rattle.qpu_machine.specs.declared.journal.Run.{Run}
use Rattle.qpu_machine.specs.Ending.{IsFinal}
use Rattle.qpu_machine.specs.Gains.{Gained}
use Rattle.qpu_machine.specs.Journal.{steps_of, pushed, last_count}
use Rattle.qpu_machine.specs.Machine.{MachineState, after_step, is_enabled}
use Rattle.qpu_machine.specs.Schedule.{After, here, next}
use Rattle.qpu_machine.specs.Sound.{IsSoundMachine}
use Rattle.qpu_machine.specs.Views.{Started}
use Rattle.qpu_machine.proofs.BoundLemmas.{steps_bounded, left_below}
use Rattle.qpu_machine.proofs.SerialLemmas.{after_then, counted_steps, last_few, gained_then, gained_pushed}
use Rattle.qpu_replay.specs.declared.fault.ReplayFault.TheVariants.{NotEnabled, NotFinished}
use Rattle.qpu_replay.specs.declared.fault.WidenFault.{WidenFault}
use Rattle.qpu_replay.specs.declared.fault.WidenFault.TheVariants.{Replay, Memory}
use Rattle.qpu_replay.specs.Replay.{IsComplete, StopsIn, StopsAt}
use Rattle.qpu_replay.specs.Widened.{rows_still, in_rows, WholeStep, Widens, nothing, one_more, AfterWhole, IsWidened, FailsBy, WidensTo, SaysSame}
use Rattle.qpu_replay.specs.Widening.{IsSpelled, FailsIn}
use Rattle.qpu_replay.proofs.AnswerLemmas.{IsKind, Walks, stand, walk, LeadsBy, by_steps, some_none, head_same, tail_same, step_one, one_far, no_fault, one_fault}
use Rattle.qpu_replay.proofs.RowLemmas.{none_still, goes_on}
use Rattle.qpu_replay.proofs.RunLemmas.{replicate_more, steps_next, Joins, stops_at}

-- an actor with no step moves no whole transfer

none_first : (r : ℕ) (m n : MachineState) (actor : Actor) → r ≡ 1 → After m (replicate r actor) n → after_step m actor ≡ None → ⊥
none_first zero m n actor one far none = absurd (omega (arith, one))
none_first (suc r) m n actor one (next {n = k} step far) none = some_none k (sym step ∙ none)

-- whole steps leave no choice
pub whole_steps : IsKind WholeStep
whole_steps = record {
  one = λ m n k actor first second. one_far by_steps first second;
  some = λ m n actor far none. none_first (rows_still m actor) m n actor (none_still m actor none) far none;
}

whole_walks : {m n : MachineState} {s t : List Actor} → Widens m s t n → Walks WholeStep m s n
whole_walks nothing = stand
whole_walks (one_more step more) = walk step (whole_walks more)

pub by_whole : LeadsBy WholeStep AfterWhole
by_whole = record { kind = whole_steps; walks = λ m n s far. whole_walks far.1 }

-- a schedule stands for one list of steps
one_widening : {m m' n k : MachineState} {s s' t u : List Actor} → m ≡ m' → s ≡ s' → Widens m s t n → Widens m' s' u k → t ≡ u
one_widening same is nothing nothing = refl
one_widening same is nothing (one_more step more) = absurd (cc)
one_widening same is (one_more step more) nothing = absurd (cc)
one_widening {m} {m'} same is (one_more {n = n} {actor = a} {s = s} {t = t} step more) (one_more {n = k} {actor = b} {s = s'} {t = u} step' more') =
    let actors : a ≡ b = head_same a b s s' is in
    let steps : in_rows m a ≡ in_rows m' b = rw (same, actors) refl in
    let rest = one_widening (step_one WholeStep m m' n k a b whole_steps same actors step step') (tail_same a b s s' is) more more' in
    ap (λ (x : List Actor). x ++ t) steps ∙ ap (λ (x : List Actor). in_rows m' b ++ x) rest

complete : {m : MachineState} {runs : List Run} {t : List Actor} (w : IsWidened m runs t) → IsComplete AfterWhole m runs w.left
complete {t = t} w = record { after = (t, w.widens); final = w.final }

pub says_same : (a b : Result (List Run) WidenFault) (m : MachineState) (runs : List Run) → WidensTo a m runs → WidensTo b m runs → SaysSame a b
says_same (Err Memory) b m runs first second = tt
says_same (Ok wide) (Err Memory) m runs first second = tt
says_same (Ok wide) (Ok other) m runs first second = one_widening refl refl first.widens second.widens
says_same (Ok wide) (Err (Replay fault)) m runs first second = absurd (no_fault fault second.0 by_whole (complete first) second.1)
says_same (Err (Replay fault)) (Err Memory) m runs first second = tt
says_same (Err (Replay fault)) (Err (Replay other)) m runs first second = (one_fault fault other m first.0 second.0 runs by_whole first.1 second.1).0
says_same (Err (Replay fault)) (Ok wide) m runs first second = absurd (no_fault fault first.0 by_whole (complete second) first.1)

-- the steps of one schedule, and then of another

pub widens_after : {m n : MachineState} {s t : List Actor} → Widens m s t n → After m t n
widens_after nothing = here
widens_after (one_more step more) = after_then step (widens_after more)

widens_then : {m n k : MachineState} {s t u v : List Actor} → Widens m s u n → Widens n t v k → Widens m (s ++ t) (u ++ v) k
widens_then nothing more = more
widens_then {m} {k = k} {t = t} {v = v} (one_more {actor = actor} {s = s} {t = u} step rest) more =
    subst (λ w. Widens m (actor ∷ (s ++ t)) w k) (sym (append_assoc (in_rows m actor) u v)) (one_more step (widens_then rest more))

wholes_join : Joins AfterWhole
wholes_join m k n s t far more = (far.0 ++ more.0, widens_then far.1 more.1)

one_step : (m n : MachineState) (actor : Actor) → WholeStep m actor n → Widens m (actor ∷ []) (in_rows m actor) n
one_step m n actor step = subst (λ w. Widens m (actor ∷ []) w n) (append-nil (in_rows m actor)) (one_more step nothing)

-- one step more of a run

-- a journal has gained the steps that a schedule stands for
abbrev pub Widened : List Run → List Run → MachineState → List Actor → MachineState → Type 0
Widened before after m s n = Gained before after (λ t. Widens m s t n)

pub nothing_yet : (before : List Run) (m : MachineState) → Widened before before m [] m
nothing_yet before m = record { steps = []; spells = sym (append-nil (steps_of before)); holds = nothing }

pub step_gained : {m k n : MachineState} (before wide after : List Run) (taken rows : ℕ) (actor : Actor) → Widened before wide m (replicate taken actor) k → after ≡ pushed wide actor rows
    → rows ≡ rows_still k actor → WholeStep k actor n → Widened before after m (replicate (taken + 1) actor) n
step_gained {m} {k} {n} before wide after taken rows actor far is many step =
    let more : taken + 1 ≡ suc taken = omega arith in
    let once : Widens k (actor ∷ []) (replicate rows actor) n = subst (λ r. Widens k (actor ∷ []) (replicate r actor) n) (sym many) (one_step k n actor step) in
    gained_then before wide after (λ t. Widens m (replicate taken actor) t k) (λ t. Widens k (actor ∷ []) t n) (λ t. Widens m (replicate (taken + 1) actor) t n)
    far (gained_pushed wide after actor rows (λ t. Widens k (actor ∷ []) t n) is once)
    (λ s t p q. subst (λ x. Widens m x (s ++ t) n) (replicate_more taken actor ∙ ap (λ (x : ℕ). replicate x actor) (sym more)) (widens_then p q))

pub spelled_on : (before wide : List Run) (m n : MachineState) (s : List Actor) → IsSpelled before m → Widened before wide m s n → IsSpelled wide n
spelled_on before wide m n s spelled gained = record {
  opening = spelled.opening;
  sound = spelled.sound;
  after = subst (λ t. After spelled.opening t n) (sym gained.spells) (after_then spelled.after (widens_after gained.holds));
}

-- a machine takes fewer steps than a journal has room for
pub has_room : (wide : List Run) (k n : MachineState) (actor : Actor) (rows : ℕ) → IsSpelled wide k → rows ≡ rows_still k actor → WholeStep k actor n → last_count wide actor + rows < 2 ^ 64
has_room wide k n actor rows spelled many step =
    let bound = steps_bounded spelled.sound (after_then spelled.after step) in
    let below = left_below spelled.opening spelled.sound in
    let long = length-append (steps_of wide) (in_rows k actor) in
    let same = length-replicate (rows_still k actor) actor in
    omega (arith, bound, below, long, same, many, counted_steps wide, last_few wide actor)

pub stops_whole : {m k : MachineState} (before wide : List Run) (taken item : ℕ) (run : Run) → taken < run.count → Widened before wide m (replicate taken run.actor) k → after_step k run.actor ≡ None
    → FailsIn (Replay (NotEnabled item (taken + 1))) item m run
stops_whole {m} {k} before wide taken item run low gained none =
    let back : taken ≡ taken + 1 - 1 = omega arith in (
      refl,
      (
        k,
        record {
          least = omega arith;
          most = omega (arith, low);
          after = (gained.steps, subst (λ x. Widens m (replicate x run.actor) gained.steps k) back gained.holds);
          stops = none;
        },
      ),
    )

-- one run more

pub run_gained : {m k n : MachineState} (before wide after runs : List Run) (i : ℕ) (d : Run) → i < length runs → Widened before wide m (steps_of (take i runs)) k
    → Widened wide after k (replicate (slice_index_or runs i d).count (slice_index_or runs i d).actor) n → Widened before after m (steps_of (take (i + 1) runs)) n
run_gained {m} {k} {n} before wide after runs i d low far more =
    let run = slice_index_or runs i d in
    gained_then before wide after (λ t. Widens m (steps_of (take i runs)) t k) (λ t. Widens k (replicate run.count run.actor) t n) (λ t. Widens m (steps_of (take (i + 1) runs)) t n)
    far more (λ s t p q. subst (λ x. Widens m x (s ++ t) n) (sym (steps_next runs i d low)) (widens_then p q))

pub run_fails : (fault : WidenFault) {m k : MachineState} (before wide runs : List Run) (i item : ℕ) (d : Run) → item ≡ i + 1 → i < length runs → Widened before wide m (steps_of (take i runs)) k
    → FailsIn fault item k (slice_index_or runs i d) → FailsBy AfterWhole fault m runs
run_fails (Replay (NotEnabled number step)) {m} {k} before wide runs i item d follows low far fails =
    let n = fails.1.0 in
    let at = stops_at AfterWhole wholes_join {m = m} {k = k} {n = n} runs i step d low (far.steps, far.holds) fails.1.1 in
    (n, subst (λ x. StopsAt AfterWhole x step m runs n) (sym (fails.0 ∙ follows)) at)
run_fails (Replay NotFinished) before wide runs i item d follows low far fails = absurd fails
run_fails Memory before wide runs i item d follows low far fails = tt

-- an actor whose steps stop has no step before them

nowhere : {m n : MachineState} → After m [] n → m ≡ n
nowhere here = refl

stopped_by : (m n : MachineState) (actor : Actor) (count step i : ℕ) → count ≡ rows_still m actor → step ≤ count → 1 ≤ step → step - 1 ≡ i → After m (replicate i actor) n → after_step n actor ≡ None
    → after_step m actor ≡ None
stopped_by m n actor count step zero many most least is far none = subst (λ x. after_step x actor ≡ None) (sym (nowhere far)) none
stopped_by m n actor count step (suc i) many most least is far none =
    absurd (goes_on (suc i) m n actor (omega arith) (omega (arith, many, most, least, is)) far none)

pub stopped_first : (m n : MachineState) (actor : Actor) (count step : ℕ) → count ≡ rows_still m actor → StopsIn After step (record { actor = actor; count = count }) m n → after_step m actor ≡ None
stopped_first m n actor count step many stops =
    stopped_by m n actor count step (step - 1) many stops.most stops.least refl stops.after stops.stops

-- from a copy of a machine and a journal of no steps

pub opens_spelled : (machine copy : Started) (wide : List Run) → IsSoundMachine machine.state → copy ≡ machine → wide ≡ [] → IsSpelled wide copy.state
opens_spelled machine copy wide sound same none = record {
  opening = machine.state;
  sound = sound;
  after = subst (λ (x : List Run). After machine.state (steps_of x) copy.state) (sym none) (subst (λ (y : Started). After machine.state [] y.state) (sym same) here);
}

widened_all : (machine copy end : Started) (journal runs before wide : List Run) → copy ≡ machine → runs ≡ journal → before ≡ [] → Widened before wide copy.state (steps_of runs) end.state
    → Widens machine.state (steps_of journal) (steps_of wide) end.state
widened_all machine copy end journal runs before wide same is none gained =
    let spelled : steps_of wide ≡ gained.steps = gained.spells ∙ ap (λ (x : List Run). steps_of x ++ gained.steps) none in
    let of_machine = subst (λ (y : Started). Widens y.state (steps_of runs) gained.steps end.state) same gained.holds in
    let of_journal = subst (λ (x : List Run). Widens machine.state (steps_of x) gained.steps end.state) is of_machine in
    subst (λ (t : List Actor). Widens machine.state (steps_of journal) t end.state) (sym spelled) of_journal

pub widened_ends : (machine copy end : Started) (journal runs before wide : List Run) → copy ≡ machine → runs ≡ journal → before ≡ [] → Widened before wide copy.state (steps_of runs) end.state
    → IsFinal end.state → IsWidened machine.state journal (steps_of wide)
widened_ends machine copy end journal runs before wide same is none gained final =
    record { left = end.state; widens = widened_all machine copy end journal runs before wide same is none gained; final = final }

pub widened_moves : (machine copy end : Started) (journal runs before wide : List Run) → copy ≡ machine → runs ≡ journal → before ≡ [] → Widened before wide copy.state (steps_of runs) end.state
    → (actor : Actor) × (is_enabled end.state actor ≡ true) → FailsBy AfterWhole (Replay NotFinished) machine.state journal
widened_moves machine copy end journal runs before wide same is none gained moves = (
  end.state,
  record {
    after = (steps_of wide, widened_all machine copy end journal runs before wide same is none gained);
    actor = moves.0;
    moves = moves.1;
  },
)

pub widened_fails : (fault : WidenFault) (machine copy : Started) (journal runs : List Run) → copy ≡ machine → runs ≡ journal → FailsBy AfterWhole fault copy.state runs → FailsBy AfterWhole fault machine.state journal
widened_fails fault machine copy journal runs same is fails =
    subst (λ (x : List Run). FailsBy AfterWhole fault machine.state x) is (subst (λ (y : Started). FailsBy AfterWhole fault y.state runs) same fails)
