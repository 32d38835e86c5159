-- Each step of a schedule goes on the path that its processor comes from.
use Rattle.std.proofs.Common.{◌≡◌, ◌≢◌, ℕ, true, false, List, [], ◌∷◌, ◌++◌, reverse, Option, Some, None, ◌⊎◌, inl, inr, refl, sym, subst, ap, ◌∙◌, append_assoc, arith}
use Rattle.std.specs.Prelude.{◌==◌, slice_index}
use Rattle.std.proofs.lemmas.Bool.{cases_eq}
use Rattle.std.proofs.lemmas.Bool.Decides.{nat_tests}
use Rattle.std.proofs.lemmas.List.{get_or-set_same, get_or-set_other, reverse-append}
use Rattle.qpu_word.specs.declared.word.Fields.{Fields}
use Rattle.qpu_word.specs.declared.traffic.Ins.{Ins}
use Rattle.qpu_word.specs.declared.setup.Book.{Book}
use Rattle.qpu_word.specs.declared.fault.FaultKind.{FaultKind}
use Rattle.qpu_word.specs.declared.state.Halt.TheVariants.{Going}
use Rattle.qpu_word.specs.Words.{fields_of}
use Rattle.qpu_word.specs.Processor.{ProcessorState}
use Rattle.qpu_word.specs.Instruction.{is_link_point, branch_fails, place_after, rest_after, moved_on, done, halted}
use Rattle.qpu_shared.specs.declared.did.Did.{Did}
use Rattle.qpu_shared.specs.declared.did.Did.TheVariants.{Stepped, Awaits as ItAwaits, Faulted as ItFaulted}
use Rattle.qpu_shared.specs.SharedState.{SharedState}
use Rattle.qpu_shared.specs.Exec.{Does}
use Rattle.qpu_shared.specs.Instruction.{first_cause, ins_of, instruction_result, outcome_under}
use Rattle.qpu_flow.specs.Code.{fields_at}
use Rattle.qpu_hazard.specs.Paths.{IsPath, IsClean}
use Rattle.qpu_hazard.specs.Standing.{ProcessorStands, ProcessorGoes}
use Rattle.qpu_hazard.proofs.ProcessorLemmas.{processor_stays}
use Rattle.qpu_machine.specs.declared.actor.Actor.{Actor}
use Rattle.qpu_machine.specs.declared.actor.Actor.TheVariants.{Exec, Load, Store, Fetch}
use Rattle.qpu_machine.specs.Machine.{MachineState, processor_of, words_of, with_both, Step}
use Rattle.qpu_machine.specs.Schedule.{After, here, next}
use Rattle.qpu_machine.specs.Sound.{IsSoundMachine}
use Rattle.qpu_machine.specs.Trace.{executed_by, trace_of}
use Rattle.qpu_machine.specs.TracePaths.{ComesFrom, IsCleanPath}
use Rattle.qpu_machine.proofs.KeptStep.{parts_of_done}
use Rattle.qpu_machine.proofs.SoundLemmas.{going_running}
use Rattle.qpu_machine.proofs.ScheduleLemmas.{StepsExec, steps_exec, steps_load, steps_store, steps_fetch, there_low, started_there, sound_step, is_step}

-- an instruction of the processor itself

stands_done : (code t : List ℕ) (p : ProcessorState) (ins : Ins) (book : Book) → IsClean code → IsPath code t → ProcessorStands code t p.place p.rest
    → branch_fails (is_link_point code) (fields_at code p.place) p ≡ false → (done (fields_at code p.place) p ins book).halt ≡ Going
    → ProcessorStands code (p.place ∷ t) (done (fields_at code p.place) p ins book).place (done (fields_at code p.place) p ins book).rest
unfolding done moved_on
stands_done code t p ins book clean is_path stands holds going =
    let f : Fields = fields_at code p.place in
    let step = processor_stays code t p clean is_path stands holds in
    subst (λ halt. ProcessorGoes code (p.place ∷ t) (place_after f p) (rest_after f p) halt) going step.1

halted_none : (code t : List ℕ) (kind : FaultKind) (p : ProcessorState) → (halted kind p).halt ≡ Going → ProcessorStands code (p.place ∷ t) (halted kind p).place (halted kind p).rest
unfolding halted
halted_none code t kind p going = absurd (cc)

stands_after : (code t : List ℕ) (q : ℕ) (p : ProcessorState) (h : SharedState) (after : ProcessorState) (left : SharedState) (did : Did) → IsClean code → IsPath code t
    → ProcessorStands code t p.place p.rest → is_step did ≡ true → p.q ≡ q
    → Does did (outcome_under (first_cause (fields_of (slice_index code p.place)) q h) (instruction_result (is_link_point code) (slice_index code p.place) p h)) p h after left
    → after.halt ≡ Going → ProcessorStands code (p.place ∷ t) after.place after.rest
unfolding fields_at
stands_after code t q p h after left Stepped clean is_path stands steps number does =
    let P : ℕ → Type 0 = λ r. Does Stepped (outcome_under (first_cause (fields_of (slice_index code p.place)) r h) (instruction_result (is_link_point code) (slice_index code p.place) p h)) p h after left in
    let d = parts_of_done (is_link_point code) (slice_index code p.place) p h after left (subst P (sym number) does) in
    let stands' : (done (fields_of (slice_index code p.place)) p (ins_of (fields_of (slice_index code p.place)) p h) d.starts.book).halt ≡ Going
    → ProcessorStands code (p.place ∷ t) (done (fields_of (slice_index code p.place)) p (ins_of (fields_of (slice_index code p.place)) p h) d.starts.book).place
    (done (fields_of (slice_index code p.place)) p (ins_of (fields_of (slice_index code p.place)) p h) d.starts.book).rest =
    stands_done code t p (ins_of (fields_of (slice_index code p.place)) p h) d.starts.book clean is_path stands d.holds in
    subst (λ (x : ProcessorState). x.halt ≡ Going → ProcessorStands code (p.place ∷ t) x.place x.rest) (sym d.is_after) stands'
stands_after code t q p h after left (ItAwaits cause) clean is_path stands steps number does = absurd (cc)
stands_after code t q p h after left (ItFaulted kind) clean is_path stands steps number does = rw does.1 (halted_none code t kind p)

-- the words after a place that was executed
pub from_own : (m : MachineState) (q : ℕ) (path : List ℕ) (n : MachineState) → IsSoundMachine m → ComesFrom m q path → (x : StepsExec m q n) → ComesFrom n q (x.p.place ∷ path)
from_own m q path n sound from x =
    let code : List ℕ = words_of m q in
    let started = started_there m q x.p sound x.there in
    let same : from.p ≡ x.p = one_processor from.p x.p (sym from.there ∙ x.there) in
    let stands : ProcessorStands code path x.p.place x.p.rest = subst (λ (p : ProcessorState). p.halt ≡ Going → ProcessorStands code path p.place p.rest) same from.stands (going_running m.limit x.p x.runs) in
    let now : ComesFrom (with_both m q x.after x.left) q (x.p.place ∷ path) = record {
      p = x.after;
      there = get_or-set_same m.processors q (Some x.after) None (there_low m q x.p sound x.there);
      is_path = (from.is_path, started.clean path from.is_path, stands.follows);
      stands = stands_after code path q x.p m.shared x.after x.left x.did started.clean from.is_path stands x.steps started.number x.does;
    } in
    subst (λ k. ComesFrom k q (x.p.place ∷ path)) (sym x.is) now
  where
    one_processor : (a b : ProcessorState) → ◌≡◌ {A = Option ProcessorState} (Some a) (Some b) → a ≡ b
    one_processor a b e = cc

-- a step of any actor

same_test : (q : ℕ) → (q == q) ≡ true
same_test q = grind (arith, nat_tests)

apart_test : (r q : ℕ) → r ≢ q → (r == q) ≡ false
apart_test r q apart = grind (arith, nat_tests)

executes_own : (m : MachineState) (q : ℕ) (p : ProcessorState) → processor_of m q ≡ Some p → executed_by m (Exec q) q ≡ p.place ∷ []
executes_own m q p there = rw (same_test q, there) refl

executes_none : (m : MachineState) (r q : ℕ) → r ≢ q → executed_by m (Exec r) q ≡ []
executes_none m r q apart = rw (apart_test r q apart) refl

from_exec : (m : MachineState) (r q : ℕ) (path : List ℕ) (n : MachineState) → IsSoundMachine m → ComesFrom m q path → Step m (Exec r) n → (r ≡ q) ⊎ (r ≢ q)
    → ComesFrom n q (reverse (executed_by m (Exec r) q) ++ path)
from_exec m r q path n sound from steps (inl same) =
    let x : StepsExec m q n = steps_exec m q n sound (subst (λ k. Step m (Exec k) n) same steps) in
    subst (λ (xs : List ℕ). ComesFrom n q (reverse xs ++ path)) (sym (executes_own m q x.p x.there) ∙ ap (λ k. executed_by m (Exec k) q) (sym same))
    (from_own m q path n sound from x)
from_exec m r q path n sound from steps (inr apart) =
    let x = steps_exec m r n sound steps in
    let now : ComesFrom (with_both m r x.after x.left) q path = record {
      p = from.p;
      there = get_or-set_other m.processors r q (Some x.after) None (λ e. apart (sym e)) ∙ from.there;
      is_path = from.is_path;
      stands = from.stands;
    } in
    subst (λ (xs : List ℕ). ComesFrom n q (reverse xs ++ path)) (sym (executes_none m r q apart)) (subst (λ k. ComesFrom k q path) (sym x.is) now)

moved_from : (m : MachineState) (q : ℕ) (path : List ℕ) (left : SharedState) → ComesFrom m q path → ComesFrom (record m { shared = left }) q path
moved_from m q path left from = record { p = from.p; there = from.there; is_path = from.is_path; stands = from.stands }

pub from_step : (m : MachineState) (actor : Actor) (q : ℕ) (path : List ℕ) (n : MachineState) → IsSoundMachine m → ComesFrom m q path → Step m actor n
    → ComesFrom n q (reverse (executed_by m actor q) ++ path)
from_step m (Exec r) q path n sound from steps = from_exec m r q path n sound from steps (cases_eq r q)
from_step m (Load r) q path n sound from steps = let x = steps_load m r n steps in subst (λ k. ComesFrom k q path) (sym x.is) (moved_from m q path x.left from)
from_step m (Store r) q path n sound from steps = let x = steps_store m r n steps in subst (λ k. ComesFrom k q path) (sym x.is) (moved_from m q path x.left from)
from_step m (Fetch r unit) q path n sound from steps = let x = steps_fetch m r unit n steps in subst (λ k. ComesFrom k q path) (sym x.is) (moved_from m q path x.left from)

-- the program stays
words_stay : (m : MachineState) (actor : Actor) (q : ℕ) (n : MachineState) → IsSoundMachine m → Step m actor n → words_of n q ≡ words_of m q
words_stay m (Exec r) q n sound steps = let x = steps_exec m r n sound steps in ap (λ (k : MachineState). words_of k q) x.is
words_stay m (Load r) q n sound steps = let x = steps_load m r n steps in ap (λ (k : MachineState). words_of k q) x.is
words_stay m (Store r) q n sound steps = let x = steps_store m r n steps in ap (λ (k : MachineState). words_of k q) x.is
words_stay m (Fetch r unit) q n sound steps = let x = steps_fetch m r unit n steps in ap (λ (k : MachineState). words_of k q) x.is

-- a schedule

trace_next : (m n : MachineState) (actor : Actor) (s : List Actor) (q : ℕ) → Step m actor n → trace_of m (actor ∷ s) q ≡ executed_by m actor q ++ trace_of n s q
unfolding trace_of
trace_next m n actor s q steps = ap (λ (o : Option MachineState). elim o as (λ _. List ℕ) [ None ↦ [] | Some k ↦ executed_by m actor q ++ trace_of k s q ]) steps

trace_none : (m : MachineState) (q : ℕ) → trace_of m [] q ≡ []
unfolding trace_of
trace_none m q = refl

turned : (a b path : List ℕ) → reverse b ++ (reverse a ++ path) ≡ reverse (a ++ b) ++ path
turned a b path = sym (append_assoc (reverse b) (reverse a) path) ∙ ap (λ (x : List ℕ). x ++ path) (sym (reverse-append a b))

pub goes_on_paths : {m n : MachineState} {s : List Actor} (q : ℕ) (path : List ℕ) → IsSoundMachine m → After m s n → ComesFrom m q path
    → IsCleanPath (words_of m q) (reverse (trace_of m s q) ++ path)
goes_on_paths {m} q path sound here from =
    let started = started_there m q from.p sound from.there in
    subst (λ (t : List ℕ). IsCleanPath (words_of m q) (reverse t ++ path)) (sym (trace_none m q)) (record { is_path = from.is_path; breaks_none = started.clean path from.is_path })
goes_on_paths {m} {s = s} q path sound (next {n = n} {actor = actor} {s = rest} step more) from =
    let later = goes_on_paths q (reverse (executed_by m actor q) ++ path) (sound_step m actor n sound step) more (from_step m actor q path n sound from step) in
    let turn : reverse (trace_of n rest q) ++ (reverse (executed_by m actor q) ++ path) ≡ reverse (trace_of m (actor ∷ rest) q) ++ path =
    turned (executed_by m actor q) (trace_of n rest q) path ∙ ap (λ (t : List ℕ). reverse t ++ path) (sym (trace_next m n actor rest q step)) in
    subst (λ (code : List ℕ). IsCleanPath code (reverse (trace_of m (actor ∷ rest) q) ++ path)) (words_stay m actor q n sound step)
    (subst (IsCleanPath (words_of n q)) turn later)
