-- In a final machine no move is pending, and what goes on awaits the others.
use Rattle.std.proofs.Common.{◌≡◌, ◌<◌, ◌≤◌, ◌+◌, ℕ, Bool, true, false, List, [], ◌∷◌, length, Option, Some, None, refl, sym, subst, ap, ◌∙◌, arith}
use Rattle.std.specs.Prelude.{◌&&◌, nat_lt, not, is_some, is_none, find, option_map, IsSomeAnd, slice_index, if◌then◌else◌}
use Rattle.std.proofs.lemmas.Bool.Decides.{nat_tests}
use Rattle.qpu_word.specs.declared.word.Fields.{Fields}
use Rattle.qpu_word.specs.declared.state.Halt.{Halt}
use Rattle.qpu_word.specs.declared.state.Halt.TheVariants.{Going, Ended, Faulted}
use Rattle.qpu_word.specs.Words.{fields_of, one_if}
use Rattle.qpu_dma.specs.Transfers.{TransferState}
use Rattle.qpu_word.specs.Processor.{ProcessorState}
use Rattle.qpu_tmu.specs.declared.look_up.LookUp.{LookUp}
use Rattle.qpu_tmu.specs.Looks.{is_waiting, next_look, oldest_words}
use Rattle.qpu_flow.specs.Code.{fields_at}
use Rattle.qpu_shared.specs.declared.cause.Cause.{Cause}
use Rattle.qpu_shared.specs.declared.cause.Cause.TheVariants.{LoadWait, StoreWait, LoadStart, StoreStart, TmuLoad, Mutex, Up, Down}
use Rattle.qpu_shared.specs.Instruction.{awaits, first_cause, is_going, is_running, pending_of}
use Rattle.qpu_shared.specs.Moves.{unit_looks}
use Rattle.qpu_machine.specs.declared.actor.Actor.TheVariants.{Exec, Load, Store, Fetch}
use Rattle.qpu_machine.specs.Machine.{MachineState, processor_of, words_of}
use Rattle.qpu_machine.specs.Sound.{IsSoundMachine}
use Rattle.qpu_machine.specs.Bound.{rows_left, waiting, moves_pending}
use Rattle.qpu_machine.specs.Ending.{IsFinal}
use Rattle.qpu_machine.specs.AtRest.{is_of_others, FinalIsAtRest, RunsOutAtLimit}
use Rattle.qpu_machine.proofs.MovedLemmas.{some_load, some_store, some_fetch}
use Rattle.qpu_machine.proofs.SoundLemmas.{enabled_running, on_running, number_running}
use Rattle.qpu_machine.proofs.ScheduleLemmas.{there_few, started_there}
use Rattle.qpu_machine.proofs.WordLemmas.{holds_on_path}

-- moves

off : (o : Option MachineState) → o ≡ None → is_some o ≡ false
off o none = ap (λ (x : Option MachineState). is_some x) none

no_load : (m : MachineState) (q : ℕ) → IsFinal m → is_some (pending_of m.shared q).load ≡ false
no_load m q final = some_load m q ∙ off _ (final (Load q))

no_store : (m : MachineState) (q : ℕ) → IsFinal m → is_some (pending_of m.shared q).store ≡ false
no_store m q final = some_store m q ∙ off _ (final (Store q))

-- look-ups of which none is next are all fetched
one_fetched : (waits : Bool) (look : LookUp) (more : List LookUp) → is_waiting look ≡ waits → (is_some (option_map (λ (l : LookUp). l.at) (find is_waiting more)) ≡ false → waiting more ≡ 0)
    → is_some (option_map (λ (l : LookUp). l.at) (if waits then Some look else find is_waiting more)) ≡ false → one_if waits + waiting more ≡ 0
one_fetched true look more is rest none = absurd (cc)
one_fetched false look more is rest none = let fetched = rest none in omega (arith, fetched)

all_fetched : (looks : List LookUp) → is_some (next_look looks) ≡ false → waiting looks ≡ 0
all_fetched [] none = refl
all_fetched (look ∷ more) none = one_fetched (is_waiting look) look more refl (all_fetched more) none

no_fetch : (m : MachineState) (q unit : ℕ) → IsFinal m → is_some (next_look (unit_looks (pending_of m.shared q) unit)) ≡ false
no_fetch m q unit final = some_fetch m q unit ∙ off _ (final (Fetch q unit))

looks_fetched_0 : (m : MachineState) (q : ℕ) → IsFinal m → waiting (pending_of m.shared q).looks.looks0 ≡ 0
looks_fetched_0 m q final = all_fetched _ (no_fetch m q 0 final)

looks_fetched_1 : (m : MachineState) (q : ℕ) → IsFinal m → waiting (pending_of m.shared q).looks.looks1 ≡ 0
looks_fetched_1 m q final = all_fetched _ (no_fetch m q 1 final)

no_rows : (transfer : Option TransferState) → is_some transfer ≡ false → rows_left transfer ≡ 0
no_rows None none = refl
no_rows (Some t) none = absurd (cc)

no_moves : (m : MachineState) (q : ℕ) → IsFinal m → moves_pending (pending_of m.shared q) ≡ 0
no_moves m q final =
    let load = no_rows _ (no_load m q final) in
    let store = no_rows _ (no_store m q final) in
    let first = looks_fetched_0 m q final in
    let second = looks_fetched_1 m q final in
    omega (arith, load, store, first, second)

-- causes

neither : (a b : Bool) → b ≡ false → (a && b) ≡ false
neither true b none = none
neither false b none = refl

-- a fetched look-up is the oldest, where there is one
oldest_there : (looks : List LookUp) → 0 < length looks → waiting looks ≡ 0 → is_none (oldest_words looks) ≡ false
oldest_there [] some fetched = absurd (omega (arith, some))
oldest_there (look ∷ more) some fetched = by_test (is_none look.words) fetched
  where
    by_test : (b : Bool) → one_if b + waiting more ≡ 0 → b ≡ false
    by_test true fetched = absurd (omega (arith, fetched))
    by_test false fetched = refl

takes_there : (takes : Bool) (looks : List LookUp) → (takes ≡ true → 0 < length looks) → waiting looks ≡ 0 → (takes && is_none (oldest_words looks)) ≡ false
takes_there true looks some fetched = oldest_there looks (some refl) fetched
takes_there false looks some fetched = refl

-- causes that are not the processor's own
others_alone : (holds : Cause → Bool) (n : ℕ) → is_none (find holds (Mutex ∷ Up n ∷ Down n ∷ [])) ≡ false
    → IsSomeAnd (find holds (Mutex ∷ Up n ∷ Down n ∷ [])) (λ cause. is_of_others cause ≡ true)
others_alone holds n some = by_tests (holds Mutex) (holds (Up n)) (holds (Down n)) some
  where
    by_tests : (a b c : Bool) → is_none (if a then Some Mutex else if b then Some (Up n) else if c then Some (Down n) else None) ≡ false
        → IsSomeAnd (if a then Some Mutex else if b then Some (Up n) else if c then Some (Down n) else None) (λ cause. is_of_others cause ≡ true)
    by_tests true b c some = refl
    by_tests false true c some = refl
    by_tests false false true some = refl
    by_tests false false false some = absurd (cc)

-- the first cause where none of a processor's own moves is pending
record NoOwn (f : Fields) (q : ℕ) (m : MachineState) : Type 0 where
  pub load_wait : awaits f q m.shared LoadWait ≡ false
  pub store_wait : awaits f q m.shared StoreWait ≡ false
  pub load_start : awaits f q m.shared LoadStart ≡ false
  pub store_start : awaits f q m.shared StoreStart ≡ false
  pub take_0 : awaits f q m.shared (TmuLoad 0) ≡ false
  pub take_1 : awaits f q m.shared (TmuLoad 1) ≡ false

first_of_others : (f : Fields) (q : ℕ) (m : MachineState) → NoOwn f q m → first_cause f q m.shared ≡ find (awaits f q m.shared) (Mutex ∷ Up f.number ∷ Down f.number ∷ [])
unfolding first_cause
first_of_others f q m own = rw (own.load_wait, own.store_wait, own.load_start, own.store_start, own.take_0, own.take_1) refl

no_own : (m : MachineState) (q : ℕ) (p : ProcessorState) → IsSoundMachine m → IsFinal m → processor_of m q ≡ Some p → is_running m.limit p ≡ true
    → NoOwn (fields_of (slice_index (words_of m q) p.place)) q m
unfolding awaits fields_at
no_own m q p sound final there runs =
    let few = there_few m q p sound there in
    let on = on_running m q p sound few there runs in
    let holds = holds_on_path (words_of m q) p (pending_of m.shared q).looks (started_there m q p sound there).clean on in
    record {
      load_wait = neither _ _ (no_load m q final);
      store_wait = neither _ _ (no_store m q final);
      load_start = neither _ _ (no_load m q final);
      store_start = neither _ _ (no_store m q final);
      take_0 = takes_there _ (pending_of m.shared q).looks.looks0 (λ takes. let one_if = holds.looks_0.one takes in omega (arith, one_if, on.looks0)) (looks_fetched_0 m q final);
      take_1 = takes_there _ (pending_of m.shared q).looks.looks1 (λ takes. let one_if = holds.looks_1.one takes in omega (arith, one_if, on.looks1)) (looks_fetched_1 m q final);
    }

awaits_others : (m : MachineState) (q : ℕ) (p : ProcessorState) → IsSoundMachine m → IsFinal m → processor_of m q ≡ Some p → is_running m.limit p ≡ true
    → IsSomeAnd (first_cause (fields_of (slice_index (words_of m q) p.place)) q m.shared) (λ cause. is_of_others cause ≡ true)
awaits_others m q p sound final there runs =
    let f : Fields = fields_of (slice_index (words_of m q) p.place) in
    let same = first_of_others f q m (no_own m q p sound final there runs) in
    let some : is_none (first_cause f q m.shared) ≡ false =
    enabled_running m q p there runs (number_running m q p sound (there_few m q p sound there) there) ∙ off _ (final (Exec q)) in
    subst (λ (o : Option Cause). IsSomeAnd o (λ cause. is_of_others cause ≡ true)) (sym same)
    (others_alone (awaits f q m.shared) f.number (ap (λ (o : Option Cause). is_none o) (sym same) ∙ some))

pub final_rests : FinalIsAtRest
final_rests m sound final = record { moves = λ q. no_moves m q final; awaits = λ q p there runs. awaits_others m q p sound final there runs }

-- running out

ran_out : (halt : Halt) (executed limit : ℕ) → executed ≤ limit → (is_going halt && not (nat_lt executed limit)) ≡ true → (halt ≡ Going) × (executed ≡ limit)
ran_out Going executed limit most out = (refl, spent executed limit most out)
  where
    spent : (executed limit : ℕ) → executed ≤ limit → not (nat_lt executed limit) ≡ true → executed ≡ limit
    spent executed limit most out = grind (arith, nat_tests)
ran_out Ended executed limit most out = absurd (cc)
ran_out (Faulted kind place) executed limit most out = absurd (cc)

at_limit : (halt : Halt) (executed limit : ℕ) → (halt ≡ Going) × (executed ≡ limit) → (is_going halt && not (nat_lt executed limit)) ≡ true
at_limit halt executed limit is = rw (is.0, is.1) (none limit)
  where
    none : (limit : ℕ) → not (nat_lt limit limit) ≡ true
    none limit = grind (arith, nat_tests)

pub runs_out : RunsOutAtLimit
runs_out m sound q p there = (ran_out p.halt p.executed m.limit (started_there m q p sound there).executed, at_limit p.halt p.executed m.limit)
