-- Local steps of one processor: they keep its path, and are the steps of a machine.
use Rattle.std.proofs.Common.{◌≡◌, ◌<◌, ◌≤◌, ◌+◌, ℕ, suc, zero, Bool, true, false, List, [], length, replicate, Option, Some, None, Result, Ok, Err, true≢false, refl, sym, subst, ap, ◌∙◌, arith}
use Rattle.std.specs.Prelude.{◌&&◌, if◌then◌else◌, slice_index, slice_set, IsSomeAnd}
use Rattle.std.proofs.lemmas.List.{get_or-set_same, get_or-replicate, set-get_or, set-set}
use Rattle.std.proofs.lemmas.Bool.Decides.{nat_tests}
use Rattle.qpu_word.specs.declared.fault.FaultKind.{FaultKind}
use Rattle.qpu_word.specs.Words.{fields_of, is_local}
use Rattle.qpu_word.specs.Processor.{ProcessorState}
use Rattle.qpu_word.specs.Instruction.{local_result, is_link_point, halted, then_after, done, branch_fails, after_setups, after_uniform_to, outs_of, no_ins}
use Rattle.qpu_word.proofs.KeptLemmas.{done_moves}
use Rattle.qpu_word.specs.declared.word.Fields.{Fields}
use Rattle.qpu_word.specs.declared.setup.Book.{Book}
use Rattle.qpu_word.specs.declared.traffic.Ins.{Ins}
use Rattle.qpu_word.specs.declared.fault.FaultKind.TheVariants.{Branch}
use Rattle.qpu_tmu.specs.Looks.{LookupsState}
use Rattle.qpu_shared.specs.declared.did.Did.{Did}
use Rattle.qpu_shared.specs.declared.did.Did.TheVariants.{Stepped, Awaits as ItAwaits, Faulted as ItFaulted}
use Rattle.qpu_shared.specs.declared.pending.Pending.{Pending}
use Rattle.qpu_shared.specs.SharedState.{SharedState, nothing_pending}
use Rattle.qpu_shared.specs.Instruction.{Outcome, is_running, instruction, pending_of}
use Rattle.qpu_shared.specs.Exec.{Does}
use Rattle.qpu_shared.specs.Local.{local_outcome}
use Rattle.qpu_shared.proofs.LocalLemmas.{outcome_local, instruction_local}
use Rattle.qpu_hazard.specs.Paths.{IsClean}
use Rattle.qpu_machine.specs.declared.actor.Actor.TheVariants.{Exec}
use Rattle.qpu_machine.specs.Machine.{MachineState, processor_of, words_of, with_both, after_outcome, after_step, Step}
use Rattle.qpu_machine.specs.Kept.{IsOnPath, IsKept, KeepsPath}
use Rattle.qpu_machine.specs.Local.{is_local_next, or_halted, local_after, LocalSteps, none, one_more, TookLocal, IsOwnAfter}
use Rattle.qpu_machine.specs.Serial.{has_local_step}
use Rattle.qpu_machine.proofs.SoundLemmas.{going_running, left_true}
use Rattle.qpu_machine.proofs.KeptStep.{keeps_by_word}
use Rattle.qpu_machine.proofs.RunLemmas.{Ran, begun, one_more as one_more_ran, ran_stops}
use Rattle.qpu_machine.specs.Sound.{IsSoundMachine}
use Rattle.qpu_machine.specs.Serial.{Stretch}
use Rattle.qpu_machine.proofs.ScheduleLemmas.{there_low}

-- the word of a processor that has a local step
pub runs_local : (words : List ℕ) (limit : ℕ) (p : ProcessorState) → is_local_next words limit p ≡ true → is_running limit p ≡ true
runs_local words limit p next = left_true (is_running limit p) (is_local (fields_of (slice_index words p.place))) next

right_true : (a b : Bool) → (a && b) ≡ true → b ≡ true
right_true true b is = is
right_true false b is = absurd (cc)

pub word_local : (words : List ℕ) (limit : ℕ) (p : ProcessorState) → is_local_next words limit p ≡ true → is_local (fields_of (slice_index words p.place)) ≡ true
word_local words limit p next = right_true (is_running limit p) (is_local (fields_of (slice_index words p.place))) next

-- the path

did_of : Result ProcessorState FaultKind → Did
did_of (Ok after) = Stepped
did_of (Err kind) = ItFaulted kind

does_of : (due : Outcome) (r : Result ProcessorState FaultKind) (p : ProcessorState) (h : SharedState) → due ≡ local_outcome r h → Does (did_of r) due p h (or_halted p r) h
unfolding did_of
does_of due (Ok after) p h is = is
does_of due (Err kind) p h is = (is, refl, refl)

pub keeps_local : (code : List ℕ) (p : ProcessorState) (h : SharedState) → p.q < length h.pending → IsClean code → IsOnPath code p (pending_of h p.q).looks
    → is_local (fields_of (slice_index code p.place)) ≡ true → KeepsPath code p.q p h (local_after code p) h
keeps_local code p h there clean on local =
    let r : Result ProcessorState FaultKind = local_result (is_link_point code) (slice_index code p.place) p in
    keeps_by_word code p.q p h (local_after code p) h (did_of r) refl there clean on
    (does_of _ r p h (outcome_local (is_link_point code) (slice_index code p.place) p h local))

-- shared parts in which a processor has some look-ups
having : ℕ → LookupsState → SharedState
having q looks = record {
  memory = [];
  vpm = [];
  mutex = None;
  semaphores = [];
  pending = replicate (suc q) (record { load = None; store = None; looks = looks });
}

having_looks : (q : ℕ) (looks : LookupsState) → (pending_of (having q looks) q).looks ≡ looks
unfolding having
having_looks q looks =
    ap (λ (x : Pending). x.looks) (get_or-replicate (suc q) q (record { load = None; store = None; looks = looks }) nothing_pending (omega arith))

length_replicate : (n : ℕ) (x : Pending) → length (replicate n x) ≡ n
length_replicate zero x = refl
length_replicate (suc n) x = ap suc (length_replicate n x)

having_room : (q : ℕ) (looks : LookupsState) → length (having q looks).pending ≡ suc q
unfolding having
having_room q looks = length_replicate (suc q) _

pub kept_local : (code : List ℕ) (p : ProcessorState) (looks : LookupsState) → IsClean code → IsOnPath code p looks
    → is_local (fields_of (slice_index code p.place)) ≡ true → IsKept code (local_after code p) looks
kept_local code p looks clean on local =
    let same = having_looks p.q looks in
    let room = having_room p.q looks in
    let keeps = keeps_local code p (having p.q looks) (omega (arith, room)) clean (subst (IsOnPath code p) (sym same) on) local in
    subst (IsKept code (local_after code p)) same keeps.kept

-- local steps keep it
pub kept_steps : {code : List ℕ} {limit : ℕ} {p : ProcessorState} {n : ℕ} {r : ProcessorState} (looks : LookupsState) → IsClean code → IsKept code p looks
    → LocalSteps code limit p n r → IsKept code r looks
kept_steps looks clean kept none = kept
kept_steps {code} {limit} {p} looks clean kept (one_more {r = r} before next is) =
    let on : IsOnPath code r looks = kept_steps looks clean kept before (going_running limit r (runs_local code limit r next)) in
    subst (λ s. IsKept code s looks) is (kept_local code r looks clean on (word_local code limit r next))

-- how many they are

-- a processor that goes on has executed one more with each
halts : (kind : FaultKind) (limit : ℕ) (p : ProcessorState) → is_running limit (halted kind p) ≡ false
unfolding halted
halts kind limit p = refl

counts_by : (limit : ℕ) (p s : ProcessorState) (f : Fields) (is_link : ℕ → Bool) (fails : Bool) (book : Result Book FaultKind) (ins : Ins) (k : Book → Book)
    → or_halted p (if fails then Err Branch else then_after book (λ b. Ok (done f p ins (k b)))) ≡ s → is_running limit s ≡ true → s.executed ≡ p.executed + 1
counts_by limit p s f is_link true book ins k is runs = absurd (true≢false (sym runs ∙ ap (is_running limit) (sym is) ∙ halts Branch limit p))
counts_by limit p s f is_link false (Err kind) ins k is runs = absurd (true≢false (sym runs ∙ ap (is_running limit) (sym is) ∙ halts kind limit p))
counts_by limit p s f is_link false (Ok b) ins k is runs = ap (λ (x : ProcessorState). x.executed) (sym is) ∙ (done_moves f p ins (k b)).executed

counts_once : (words : List ℕ) (limit : ℕ) (p s : ProcessorState) → local_after words p ≡ s → is_running limit s ≡ true → s.executed ≡ p.executed + 1
unfolding local_result
counts_once words limit p s is runs =
    let f : Fields = fields_of (slice_index words p.place) in
    counts_by limit p s f (is_link_point words) (branch_fails (is_link_point words) f p) (after_setups (outs_of f p no_ins) p.book) no_ins (after_uniform_to (outs_of f p no_ins).uniform_to) is runs

pub counted : {words : List ℕ} {limit : ℕ} {p : ProcessorState} {n : ℕ} {r : ProcessorState} → LocalSteps words limit p n r → is_running limit r ≡ true → r.executed ≡ p.executed + n
counted none runs = omega arith
counted {words} {limit} {p} (one_more {r = r} {s = s} {n = n} before next is) runs =
    let so_far = counted before (runs_local words limit r next) in let once = counts_once words limit r s is runs in omega (arith, so_far, once)

-- after as many as the limit none is left
pub none_left_after : {words : List ℕ} {limit : ℕ} {p : ProcessorState} {n : ℕ} {r : ProcessorState} → LocalSteps words limit p n r → limit ≤ n → is_local_next words limit r ≡ false
none_left_after {words} {limit} {p} {n} {r} steps most = by_test (is_local_next words limit r) refl
  where
    spent : (limit n before : ℕ) (x : ProcessorState) → is_running limit x ≡ true → x.executed ≡ before + n → limit ≤ n → ⊥
    spent limit n before x runs is most = let less : x.executed < limit = grind (arith, nat_tests) in absurd (omega (arith, less, is, most))

    by_test : (b : Bool) → is_local_next words limit r ≡ b → is_local_next words limit r ≡ false
    by_test false is = is
    by_test true is = let runs = runs_local words limit r is in absurd (spent limit n p.executed r runs (counted steps runs) most)

-- whether there is a local step
pub next_is : (words : List ℕ) (limit : ℕ) (p : ProcessorState) → is_running limit p ≡ true → is_local (fields_of (slice_index words p.place)) ≡ true
    → is_local_next words limit p ≡ true
next_is words limit p runs local = rw runs local

-- a call that does a local word
pub took_local : (words : List ℕ) (limit : ℕ) (p after : ProcessorState) (did : Did) (h : SharedState) → is_local_next words limit p ≡ true
    → Does did (local_outcome (local_result (is_link_point words) (slice_index words p.place) p) h) p h after h → TookLocal true words limit p after
took_local words limit p after did h next does = (next, after_of p after did h (local_result (is_link_point words) (slice_index words p.place) p) does)
  where
    after_of : (p after : ProcessorState) (did : Did) (h : SharedState) (r : Result ProcessorState FaultKind) → Does did (local_outcome r h) p h after h → or_halted p r ≡ after
    after_of p after Stepped h (Ok x) does = cc
    after_of p after Stepped h (Err kind) does = absurd (cc)
    after_of p after (ItAwaits cause) h (Ok x) does = let e = does.0 in absurd (cc)
    after_of p after (ItAwaits cause) h (Err kind) does = let e = does.0 in absurd (cc)
    after_of p after (ItFaulted kind) h (Ok x) does = let e = does.0 in absurd (cc)
    after_of p after (ItFaulted kind) h (Err k) does = let e = does.0 in let same : k ≡ kind = cc in rw same (sym does.1)

-- the machine

both_same : (m : MachineState) (q : ℕ) (p : ProcessorState) → processor_of m q ≡ Some p → m ≡ with_both m q p m.shared
both_same m q p there =
    sym (ap (λ (ps : List (Option ProcessorState)). record m { processors = ps }) (ap (slice_set m.processors q) (sym there) ∙ set-get_or m.processors q None))

set_again : (xs : List (Option ProcessorState)) (i : ℕ) (x y : Option ProcessorState) → slice_set (slice_set xs i x) i y ≡ slice_set xs i y
set_again xs i x y = set-set xs i x y

both_again : (m : MachineState) (q : ℕ) (r s : ProcessorState) → with_both (with_both m q r m.shared) q s m.shared ≡ with_both m q s m.shared
both_again m q r s = ap (λ (ps : List (Option ProcessorState)). record m { processors = ps }) (set_again m.processors q (Some r) (Some s))

comes_to : (m : MachineState) (q : ℕ) (p : ProcessorState) (r : Result ProcessorState FaultKind)
    → after_outcome m q p (local_outcome r m.shared) ≡ Some (with_both m q (or_halted p r) m.shared)
comes_to m q p (Ok after) = refl
comes_to m q p (Err kind) = refl

-- the step of a processor that has a local one
pub local_steps_once : (m : MachineState) (q : ℕ) (p : ProcessorState) → processor_of m q ≡ Some p → is_local_next (words_of m q) m.limit p ≡ true
    → Step m (Exec q) (with_both m q (local_after (words_of m q) p) m.shared)
unfolding after_step
local_steps_once m q p there next =
    rw (there, instruction_local (words_of m q) m.limit p m.shared (runs_local (words_of m q) m.limit p next) (word_local (words_of m q) m.limit p next))
    (comes_to m q p (local_result (is_link_point (words_of m q)) (slice_index (words_of m q) p.place) p))

pub local_has : (m : MachineState) (q : ℕ) (p : ProcessorState) → processor_of m q ≡ Some p → is_local_next (words_of m q) m.limit p ≡ true → has_local_step m q ≡ true
local_has m q p there next = rw (local_steps_once m q p there next, there, word_local (words_of m q) m.limit p next) refl

-- and of one that has none
no_local : (runs local enabled : Bool) → (runs && local) ≡ false → (runs ≡ false → enabled ≡ false) → (enabled && local) ≡ false
no_local true local enabled is halts = grind arith
no_local false local enabled is halts = rw (halts refl) refl

pub local_has_none : (m : MachineState) (q : ℕ) (p : ProcessorState) → processor_of m q ≡ Some p → is_local_next (words_of m q) m.limit p ≡ false → has_local_step m q ≡ false
unfolding after_step instruction
local_has_none m q p there next =
    rw there
    (no_local (is_running m.limit p) (is_local (fields_of (slice_index (words_of m q) p.place))) _ next (λ (halts : is_running m.limit p ≡ false). rw halts refl))

-- local steps of a processor are local steps of its machine
pub ran_local : (m : MachineState) (q : ℕ) (p : ProcessorState) (n : ℕ) (r : ProcessorState) → q < length m.processors → processor_of m q ≡ Some p
    → LocalSteps (words_of m q) m.limit p n r → Ran q m n (with_both m q r m.shared)
ran_local m q p zero r low there none = subst (Ran q m 0) (both_same m q p there) begun
ran_local m q p (suc n) s low there (one_more {r = r} before next is) =
    let k : MachineState = with_both m q r m.shared in
    let at : processor_of k q ≡ Some r = get_or-set_same m.processors q (Some r) None low in
    let last = one_more_ran (ran_local m q p n r low there before) (local_has k q r at next) (local_steps_once k q r at next) in
    subst (Ran q m (suc n)) (both_again m q r (local_after (words_of m q) r) ∙ ap (λ x. with_both m q x m.shared) is) last

-- one of them that a processor is put back after

by_own : (o : Option ProcessorState) (P : ProcessorState → Type 0) → IsSomeAnd o P → (p : ProcessorState) × (o ≡ Some p) × P p
by_own None P own = absurd own
by_own (Some p) P own = (p, refl, own)

pub own_before : (m : MachineState) (q : ℕ) (r : ProcessorState) (n : ℕ) → IsOwnAfter m q r n
    → (p : ProcessorState) × (processor_of m q ≡ Some p) × LocalSteps (words_of m q) m.limit p n r
own_before m q r n own = by_own (processor_of m q) (λ before. LocalSteps (words_of m q) m.limit before n r) own

pub ran_own : (m : MachineState) (q : ℕ) (r : ProcessorState) (n : ℕ) → IsSoundMachine m → IsOwnAfter m q r n → Ran q m n (with_both m q r m.shared)
ran_own m q r n sound own =
    let o = own_before m q r n own in ran_local m q o.0 n r (there_low m q o.0 sound o.1) o.1 o.2

pub stretch_own : (m : MachineState) (q : ℕ) (r : ProcessorState) (n : ℕ) → IsSoundMachine m → IsOwnAfter m q r n → is_local_next (words_of m q) m.limit r ≡ false
    → Stretch q m (replicate n (Exec q)) (with_both m q r m.shared)
stretch_own m q r n sound own stops =
    let o = own_before m q r n own in
    let at : processor_of (with_both m q r m.shared) q ≡ Some r = get_or-set_same m.processors q (Some r) None (there_low m q o.0 sound o.1) in
    ran_stops (ran_own m q r n sound own) (local_has_none (with_both m q r m.shared) q r at stops)

-- a processor that isn't there has none
pub none_local : (m : MachineState) (q : ℕ) → processor_of m q ≡ None → has_local_step m q ≡ false
unfolding after_step
none_local m q absent = rw absent refl
