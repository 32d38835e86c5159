-- Every step keeps a machine sound, and so does every schedule.
use Rattle.std.proofs.Common.{◌≡◌, ◌<◌, ◌≤◌, ℕ, Bool, true, false, List, length, Option, Some, None, ◌⊎◌, inl, inr, refl, sym, subst, ap, ◌∙◌, arith}
use Rattle.std.specs.Prelude.{slice_index}
use Rattle.std.proofs.Math.ListN.{get_or-eq_default}
use Rattle.std.proofs.lemmas.Bool.{cases_lt}
use Rattle.qpu_word.specs.Words.{fields_of}
use Rattle.qpu_word.specs.Processor.{ProcessorState}
use Rattle.qpu_word.specs.Instruction.{is_link_point, halted}
use Rattle.qpu_shared.specs.declared.did.Did.{Did}
use Rattle.qpu_shared.specs.declared.did.Did.TheVariants.{Stepped, Awaits as ItAwaits, Faulted as ItFaulted}
use Rattle.qpu_shared.specs.SharedState.{SharedState}
use Rattle.qpu_shared.specs.Exec.{Does}
use Rattle.qpu_shared.specs.Instruction.{Outcome, NoStep, Awaits, Faults, Done, first_cause, instruction_result, outcome_under, is_running, instruction}
use Rattle.qpu_dma.specs.declared.direction.Direction.TheVariants.{Load as LoadOf, Store as StoreOf}
use Rattle.qpu_shared.specs.Moves.{row_moved, fetch_moved}
use Rattle.qpu_machine.specs.declared.actor.Actor.{Actor}
use Rattle.qpu_machine.specs.declared.actor.Actor.TheVariants.{Exec, Load, Store, Fetch}
use Rattle.qpu_machine.specs.Machine.{MachineState, processor_of, words_of, with_both, with_shared, after_exec, after_outcome, after_step, Step}
use Rattle.qpu_machine.specs.Kept.{KeepsPath}
use Rattle.qpu_machine.specs.Sound.{IsStarted, IsStartedAt, IsSoundMachine}
use Rattle.qpu_machine.specs.Schedule.{After, here, next}
use Rattle.qpu_machine.proofs.SoundLemmas.{runs_as, on_running, number_running, sound_after}
use Rattle.qpu_machine.proofs.MovedLemmas.{sound_by_row, sound_by_fetch}
use Rattle.qpu_machine.proofs.KeptStep.{keeps_by_word}

some_is : (a b : MachineState) → ◌≡◌ {A = Option MachineState} (Some a) (Some b) → a ≡ b
some_is a b e = cc

none_is : (a : MachineState) → ◌≡◌ {A = Option MachineState} None (Some a) → ⊥
none_is a e = cc

-- a processor that was started is one of the machine's
pub there_low : (m : MachineState) (q : ℕ) (p : ProcessorState) → IsSoundMachine m → processor_of m q ≡ Some p → q < length m.processors
there_low m q p sound there = by_place (cases_lt q (length m.processors))
  where
    by_place : (q < length m.processors) ⊎ (length m.processors ≤ q) → q < length m.processors
    by_place (inl low) = low
    by_place (inr past) = let none : processor_of m q ≡ None = get_or-eq_default m.processors None past in absurd (cc)

pub there_few : (m : MachineState) (q : ℕ) (p : ProcessorState) → IsSoundMachine m → processor_of m q ≡ Some p → q < 12
there_few m q p sound there = let low = there_low m q p sound there in omega (arith, low, sound.processors)

pub started_there : (m : MachineState) (q : ℕ) (p : ProcessorState) → IsSoundMachine m → processor_of m q ≡ Some p → IsStarted m q p
started_there m q p sound there = subst (IsStartedAt m q) there (sound.each q (there_few m q p sound there))

-- an instruction of a processor

-- a word that awaits is no step
abbrev pub is_step : Did → Bool
is_step Stepped = true
is_step (ItAwaits cause) = false
is_step (ItFaulted kind) = true

-- the processor of an instruction's step, which runs, and what its word comes to
pub record StepsExec (m : MachineState) (q : ℕ) (n : MachineState) : Type 0 where
  pub p : ProcessorState
  pub there : processor_of m q ≡ Some p
  pub runs : is_running m.limit p ≡ true
  pub after : ProcessorState
  pub left : SharedState
  pub did : Did
  pub does : Does did
      (outcome_under (first_cause (fields_of (slice_index (words_of m q) p.place)) q m.shared)
      (instruction_result (is_link_point (words_of m q)) (slice_index (words_of m q) p.place) p m.shared))
      p m.shared after left
  pub steps : is_step did ≡ true
  pub is : n ≡ with_both m q after left

by_outcome : (m : MachineState) (q : ℕ) (n : MachineState) (p : ProcessorState) (due : Outcome) → processor_of m q ≡ Some p → is_running m.limit p ≡ true
    → outcome_under (first_cause (fields_of (slice_index (words_of m q) p.place)) q m.shared) (instruction_result (is_link_point (words_of m q)) (slice_index (words_of m q) p.place) p m.shared) ≡ due
    → after_outcome m q p due ≡ Some n → StepsExec m q n
by_outcome m q n p NoStep there runs is steps = absurd (none_is n steps)
by_outcome m q n p (Awaits cause) there runs is steps = absurd (none_is n steps)
by_outcome m q n p (Faults kind) there runs is steps = record {
  p = p;
  there = there;
  runs = runs;
  after = halted kind p;
  left = m.shared;
  did = ItFaulted kind;
  does = (is, refl, refl);
  steps = refl;
  is = sym (some_is (with_both m q (halted kind p) m.shared) n steps);
}
by_outcome m q n p (Done after left) there runs is steps = record {
  p = p;
  there = there;
  runs = runs;
  after = after;
  left = left;
  did = Stepped;
  does = is;
  steps = refl;
  is = sym (some_is (with_both m q after left) n steps);
}

by_running : (m : MachineState) (q : ℕ) (n : MachineState) (p : ProcessorState) (runs : Bool) → is_running m.limit p ≡ runs → p.q ≡ q → processor_of m q ≡ Some p
    → after_outcome m q p (instruction (words_of m q) m.limit p m.shared) ≡ Some n → StepsExec m q n
unfolding instruction
by_running m q n p false rests number there steps =
    let none : instruction (words_of m q) m.limit p m.shared ≡ NoStep = rw rests refl in
    absurd (none_is n (sym (ap (after_outcome m q p) none) ∙ steps))
by_running m q n p true runs number there steps =
    by_outcome m q n p _ there runs refl (sym (ap (after_outcome m q p) (runs_as m q p runs number)) ∙ steps)

by_processor : (m : MachineState) (q : ℕ) (n : MachineState) (o : Option ProcessorState) → IsSoundMachine m → processor_of m q ≡ o → after_exec m q o ≡ Some n → StepsExec m q n
by_processor m q n None sound there steps = absurd (none_is n steps)
by_processor m q n (Some p) sound there steps =
    by_running m q n p (is_running m.limit p) refl (number_running m q p sound (there_few m q p sound there) there) there steps

pub steps_exec : (m : MachineState) (q : ℕ) (n : MachineState) → IsSoundMachine m → Step m (Exec q) n → StepsExec m q n
unfolding after_step
steps_exec m q n sound steps = by_processor m q n (processor_of m q) sound refl steps

pub keeps_exec : (m : MachineState) (q : ℕ) (n : MachineState) → IsSoundMachine m → (x : StepsExec m q n) → KeepsPath (words_of m q) q x.p m.shared x.after x.left
keeps_exec m q n sound x =
    let few = there_few m q x.p sound x.there in
    keeps_by_word (words_of m q) q x.p m.shared x.after x.left x.did (number_running m q x.p sound few x.there) (omega (arith, few, sound.pending))
    (started_there m q x.p sound x.there).clean (on_running m q x.p sound few x.there x.runs) x.does

sound_exec : (m : MachineState) (q : ℕ) (n : MachineState) → IsSoundMachine m → Step m (Exec q) n → IsSoundMachine n
sound_exec m q n sound steps =
    let x = steps_exec m q n sound steps in
    subst IsSoundMachine (sym x.is) (sound_after m q x.p x.after x.left sound (there_few m q x.p sound x.there) x.there x.runs (keeps_exec m q n sound x))

-- a move

-- the shared parts that a move's step leaves
pub record StepsMove (m : MachineState) (due : Option SharedState) (n : MachineState) : Type 0 where
  pub left : SharedState
  pub moves : due ≡ Some left
  pub is : n ≡ record m { shared = left }

by_move : (m : MachineState) (due : Option SharedState) (n : MachineState) → with_shared m due ≡ Some n → StepsMove m due n
by_move m None n steps = absurd (none_is n steps)
by_move m (Some left) n steps = record { left = left; moves = refl; is = sym (some_is (record m { shared = left }) n steps) }

pub steps_load : (m : MachineState) (q : ℕ) (n : MachineState) → Step m (Load q) n → StepsMove m (row_moved LoadOf m.shared q) n
unfolding after_step
steps_load m q n steps = by_move m (row_moved LoadOf m.shared q) n steps

pub steps_store : (m : MachineState) (q : ℕ) (n : MachineState) → Step m (Store q) n → StepsMove m (row_moved StoreOf m.shared q) n
unfolding after_step
steps_store m q n steps = by_move m (row_moved StoreOf m.shared q) n steps

pub steps_fetch : (m : MachineState) (q unit : ℕ) (n : MachineState) → Step m (Fetch q unit) n → StepsMove m (fetch_moved m.shared q unit) n
unfolding after_step
steps_fetch m q unit n steps = by_move m (fetch_moved m.shared q unit) n steps

-- one step, and a schedule

pub sound_step : (m : MachineState) (actor : Actor) (n : MachineState) → IsSoundMachine m → Step m actor n → IsSoundMachine n
sound_step m (Exec q) n sound steps = sound_exec m q n sound steps
sound_step m (Load q) n sound steps = let x = steps_load m q n steps in subst IsSoundMachine (sym x.is) (sound_by_row LoadOf m q true x.left sound x.moves)
sound_step m (Store q) n sound steps = let x = steps_store m q n steps in subst IsSoundMachine (sym x.is) (sound_by_row StoreOf m q true x.left sound x.moves)
sound_step m (Fetch q unit) n sound steps =
    let x = steps_fetch m q unit n steps in subst IsSoundMachine (sym x.is) (sound_by_fetch m q unit true x.left sound x.moves)

pub sound_along : {m n : MachineState} {s : List Actor} → IsSoundMachine m → After m s n → IsSoundMachine n
sound_along sound here = sound
sound_along {m} sound (next {n = n} {actor = actor} step more) = sound_along (sound_step m actor n sound step) more
