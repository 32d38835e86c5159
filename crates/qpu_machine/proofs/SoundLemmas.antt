-- A machine stays sound, and what a step of a processor comes to.
use Rattle.std.proofs.Common.{◌≡◌, ◌≢◌, ◌<◌, ℕ, Bool, true, false, List, length, Option, Some, None, ◌⊎◌, inl, inr, refl, sym, subst, ◌∙◌, arith}
use Rattle.std.specs.Prelude.{nat_lt, slice_index, ◌&&◌, is_some, is_none, not, Result, Ok, Err}
use Rattle.std.proofs.lemmas.List.{get_or-set_same, get_or-set_other}
use Rattle.std.proofs.Math.ListN.{length-set}
use Rattle.std.proofs.lemmas.Bool.{cases_eq}
use Rattle.std.proofs.lemmas.Bool.Decides.{nat_tests}
use Rattle.qpu_word.specs.declared.fault.FaultKind.{FaultKind}
use Rattle.qpu_word.specs.declared.state.Halt.{Halt}
use Rattle.qpu_word.specs.declared.state.Halt.TheVariants.{Going, Ended, Faulted}
use Rattle.qpu_word.specs.Words.{fields_of}
use Rattle.qpu_word.specs.Processor.{ProcessorState}
use Rattle.qpu_word.specs.Instruction.{is_link_point}
use Rattle.qpu_tmu.specs.Looks.{LookupsState}
use Rattle.qpu_shared.specs.declared.cause.Cause.{Cause}
use Rattle.qpu_shared.specs.declared.did.Did.{Did}
use Rattle.qpu_shared.specs.declared.did.Did.TheVariants.{Stepped, Awaits as ItAwaits, Faulted as ItFaulted}
use Rattle.qpu_shared.specs.declared.pending.Pending.{Pending}
use Rattle.qpu_shared.specs.SharedState.{SharedState}
use Rattle.qpu_shared.specs.Exec.{Does}
use Rattle.qpu_shared.specs.Instruction.{first_cause, instruction_result, outcome_of, outcome_under, is_going, is_running, instruction, pending_of}
use Rattle.qpu_machine.specs.declared.actor.Actor.TheVariants.{Exec}
use Rattle.qpu_machine.specs.Machine.{MachineState, processor_of, words_of, with_both, after_outcome, after_step}
use Rattle.qpu_machine.specs.Kept.{IsOnPath, IsKept, HasFewLooks, HasFewRows, KeepsPath}
use Rattle.qpu_machine.specs.Sound.{IsStarted, IsStartedAt, IsSoundMachine}

-- what a word of a running processor comes to in the machine

-- the word that a processor stands at, for what becomes of it
abbrev pub DoesWord : MachineState → ℕ → ProcessorState → Did → ProcessorState → SharedState → Type 0
DoesWord m q p did after left =
    Does did
    (outcome_under (first_cause (fields_of (slice_index (words_of m q) p.place)) q m.shared)
    (instruction_result (is_link_point (words_of m q)) (slice_index (words_of m q) p.place) p m.shared))
    p m.shared after left

-- the instruction of a running processor
pub runs_as : (m : MachineState) (q : ℕ) (p : ProcessorState) → is_running m.limit p ≡ true → p.q ≡ q
    → instruction (words_of m q) m.limit p m.shared
    ≡ outcome_under (first_cause (fields_of (slice_index (words_of m q) p.place)) q m.shared)
    (instruction_result (is_link_point (words_of m q)) (slice_index (words_of m q) p.place) p m.shared)
unfolding instruction
runs_as m q p runs number = rw (runs, ← number) refl

pub took_done : (m : MachineState) (q : ℕ) (p after : ProcessorState) (left : SharedState) → processor_of m q ≡ Some p → is_running m.limit p ≡ true → p.q ≡ q
    → DoesWord m q p Stepped after left → after_step m (Exec q) ≡ Some (with_both m q after left)
unfolding after_step
took_done m q p after left there runs number does = rw (there, runs_as m q p runs number, does) refl

pub took_fault : (m : MachineState) (q : ℕ) (p after : ProcessorState) (left : SharedState) (kind : _) → processor_of m q ≡ Some p → is_running m.limit p ≡ true → p.q ≡ q
    → DoesWord m q p (ItFaulted kind) after left → after_step m (Exec q) ≡ Some (with_both m q after left)
unfolding after_step
took_fault m q p after left kind there runs number does = rw (there, runs_as m q p runs number, does.0, does.1, does.2) refl

pub took_none : (m : MachineState) (q : ℕ) (p after : ProcessorState) (left : SharedState) (cause : _) → processor_of m q ≡ Some p → is_running m.limit p ≡ true → p.q ≡ q
    → DoesWord m q p (ItAwaits cause) after left → after_step m (Exec q) ≡ None
unfolding after_step
took_none m q p after left cause there runs number does = rw (there, runs_as m q p runs number, does.0) refl

-- a machine stays sound

-- another processor, of whose pending parts nothing but their fetched words changed
other_started : (m n : MachineState) (r : ℕ) (o : Option ProcessorState) → n.limit ≡ m.limit → n.programs ≡ m.programs → n.program_of ≡ m.program_of
    → ((p : ProcessorState) → IsKept (words_of m r) p (pending_of m.shared r).looks → IsKept (words_of m r) p (pending_of n.shared r).looks)
    → IsStartedAt m r o → IsStartedAt n r o
other_started m n r None limit programs program_of keeps at = tt
other_started m n r (Some p) limit programs program_of keeps at = record {
  number = at.number;
  program = rw (programs, program_of) at.program;
  clean = rw (programs, program_of) at.clean;
  executed = rw limit at.executed;
  kept = rw (programs, program_of) (keeps p at.kept);
}

-- one processor and what is shared are replaced, by what its word keeps
pub sound_after : (m : MachineState) (q : ℕ) (p after : ProcessorState) (left : SharedState) → IsSoundMachine m → q < 12 → processor_of m q ≡ Some p
    → is_running m.limit p ≡ true → KeepsPath (words_of m q) q p m.shared after left → IsSoundMachine (with_both m q after left)
sound_after m q p after left sound low there runs keeps = record {
  limit = sound.limit;
  pending = keeps.room ∙ sound.pending;
  looks = λ r. few_or_other m q left sound keeps.few keeps.others r (cases_eq r q);
  rows = λ r. rows_or_other m q left sound (keeps.rows (sound.rows q)) keeps.others r (cases_eq r q);
  processors = length-set m.processors q (Some after) ∙ sound.processors;
  each = λ r few. at_or_other m q p after left sound low there runs keeps r few (cases_eq r q);
}
  where
    few_or_other : (m : MachineState) (q : ℕ) (left : SharedState) → IsSoundMachine m → HasFewLooks (pending_of left q).looks
        → ((other : ℕ) → other ≢ q → pending_of left other ≡ pending_of m.shared other) → (r : ℕ) → (r ≡ q) ⊎ (r ≢ q) → HasFewLooks (pending_of left r).looks
    few_or_other m q left sound few others r (inl same) = subst (λ s. HasFewLooks (pending_of left s).looks) (sym same) few
    few_or_other m q left sound few others r (inr apart) = subst (λ (x : Pending). HasFewLooks x.looks) (sym (others r apart)) (sound.looks r)

    rows_or_other : (m : MachineState) (q : ℕ) (left : SharedState) → IsSoundMachine m → HasFewRows (pending_of left q)
        → ((other : ℕ) → other ≢ q → pending_of left other ≡ pending_of m.shared other) → (r : ℕ) → (r ≡ q) ⊎ (r ≢ q) → HasFewRows (pending_of left r)
    rows_or_other m q left sound few others r (inl same) = subst (λ s. HasFewRows (pending_of left s)) (sym same) few
    rows_or_other m q left sound few others r (inr apart) = subst HasFewRows (sym (others r apart)) (sound.rows r)

    executed_less : (m : MachineState) (p : ProcessorState) → is_running m.limit p ≡ true → p.executed < m.limit
    executed_less m p runs = grind (arith, nat_tests)

    own : (m : MachineState) (q : ℕ) (p after : ProcessorState) (left : SharedState) → IsSoundMachine m → q < 12 → processor_of m q ≡ Some p
        → is_running m.limit p ≡ true → KeepsPath (words_of m q) q p m.shared after left → IsStartedAt (with_both m q after left) q (processor_of (with_both m q after left) q)
    own m q p after left sound low there runs keeps =
        let at : IsStarted m q p = subst (IsStartedAt m q) there (sound.each q low) in
        let less = executed_less m p runs in
        rw (get_or-set_same m.processors q (Some after) None (omega (arith, sound.processors, low)))
        (record {
          number = keeps.number;
          program = at.program;
          clean = at.clean;
          executed = omega (arith, keeps.executed, less);
          kept = keeps.kept;
        })

    at_or_other : (m : MachineState) (q : ℕ) (p after : ProcessorState) (left : SharedState) → IsSoundMachine m → q < 12 → processor_of m q ≡ Some p
        → is_running m.limit p ≡ true → KeepsPath (words_of m q) q p m.shared after left → (r : ℕ) → r < 12 → (r ≡ q) ⊎ (r ≢ q)
        → IsStartedAt (with_both m q after left) r (processor_of (with_both m q after left) r)
    at_or_other m q p after left sound low there runs keeps r few (inl same) =
        subst (λ s. IsStartedAt (with_both m q after left) s (processor_of (with_both m q after left) s)) (sym same) (own m q p after left sound low there runs keeps)
    at_or_other m q p after left sound low there runs keeps r few (inr apart) =
        rw (get_or-set_other m.processors q r (Some after) None apart)
        (other_started m (with_both m q after left) r (processor_of m r) refl refl refl
        (λ o kept. rw (keeps.others r apart) kept) (sound.each r few))

-- look-ups with as many outstanding tell as much of a path
same_count : (code : List ℕ) (p : ProcessorState) (looks looks' : LookupsState) → length looks'.looks0 ≡ length looks.looks0 → length looks'.looks1 ≡ length looks.looks1
    → IsKept code p looks → IsKept code p looks'
same_count code p looks looks' first second kept going =
    let on = kept going in
    record {
      path = on.path;
      is_path = on.is_path;
      stands = on.stands;
      flags = on.flags;
      carry = on.carry;
      looks0 = first ∙ on.looks0;
      looks1 = second ∙ on.looks1;
    }

same_few : (looks looks' : LookupsState) → length looks'.looks0 ≡ length looks.looks0 → length looks'.looks1 ≡ length looks.looks1 → HasFewLooks looks → HasFewLooks looks'
same_few looks looks' first second few = let a = few.0 in let b = few.1 in (omega (arith, first, a), omega (arith, second, b))

-- what is shared is replaced, with as many look-ups outstanding for each processor
pub sound_moved : (m : MachineState) (left : SharedState) → IsSoundMachine m → length left.pending ≡ length m.shared.pending
    → ((r : ℕ) → (length (pending_of left r).looks.looks0 ≡ length (pending_of m.shared r).looks.looks0) × (length (pending_of left r).looks.looks1 ≡ length (pending_of m.shared r).looks.looks1))
    → ((r : ℕ) → HasFewRows (pending_of left r)) → IsSoundMachine (record m { shared = left })
sound_moved m left sound room counts rows = record {
  limit = sound.limit;
  pending = room ∙ sound.pending;
  looks = λ r. same_few (pending_of m.shared r).looks (pending_of left r).looks (counts r).0 (counts r).1 (sound.looks r);
  rows = rows;
  processors = sound.processors;
  each = λ r few.
      other_started m (record m { shared = left }) r (processor_of m r) refl refl refl
      (λ p kept. same_count (words_of m r) p (pending_of m.shared r).looks (pending_of left r).looks (counts r).0 (counts r).1 kept) (sound.each r few);
}

-- a processor that is running

going_of : (halt : Halt) → is_going halt ≡ true → halt ≡ Going
going_of Going is = refl
going_of Ended is = absurd (cc)
going_of (Faulted kind place) is = absurd (cc)

pub left_true : (a b : Bool) → (a && b) ≡ true → a ≡ true
left_true true b is = refl
left_true false b is = absurd (cc)

pub going_running : (limit : ℕ) (p : ProcessorState) → is_running limit p ≡ true → p.halt ≡ Going
going_running limit p runs = going_of p.halt (left_true (is_going p.halt) (nat_lt p.executed limit) runs)

-- it stands on a path
pub on_running : (m : MachineState) (q : ℕ) (p : ProcessorState) → IsSoundMachine m → q < 12 → processor_of m q ≡ Some p → is_running m.limit p ≡ true
    → IsOnPath (words_of m q) p (pending_of m.shared q).looks
on_running m q p sound low there runs =
    let at : IsStarted m q p = subst (IsStartedAt m q) there (sound.each q low) in at.kept (going_running m.limit p runs)

pub number_running : (m : MachineState) (q : ℕ) (p : ProcessorState) → IsSoundMachine m → q < 12 → processor_of m q ≡ Some p → p.q ≡ q
number_running m q p sound low there = let at : IsStarted m q p = subst (IsStartedAt m q) there (sound.each q low) in at.number

-- whether it has an instruction to take
is_some_done : (r : Result (ProcessorState × SharedState) FaultKind) (m : MachineState) (q : ℕ) (p : ProcessorState) → is_some (after_outcome m q p (outcome_of r)) ≡ true
is_some_done (Ok after) m q p = refl
is_some_done (Err kind) m q p = refl

some_under : (cause : Option Cause) (r : Result (ProcessorState × SharedState) FaultKind) (m : MachineState) (q : ℕ) (p : ProcessorState)
    → is_none cause ≡ is_some (after_outcome m q p (outcome_under cause r))
some_under None r m q p = sym (is_some_done r m q p)
some_under (Some cause) r m q p = refl

pub enabled_running : (m : MachineState) (q : ℕ) (p : ProcessorState) → processor_of m q ≡ Some p → is_running m.limit p ≡ true → p.q ≡ q
    → is_none (first_cause (fields_of (slice_index (words_of m q) p.place)) q m.shared) ≡ is_some (after_step m (Exec q))
unfolding after_step
enabled_running m q p there runs number =
    rw (there, runs_as m q p runs number)
    (some_under (first_cause (fields_of (slice_index (words_of m q) p.place)) q m.shared)
    (instruction_result (is_link_point (words_of m q)) (slice_index (words_of m q) p.place) p m.shared) m q p)

pub none_of_not : (some none : Bool) → some ≡ not none → none ≡ not some
none_of_not true true is = absurd (cc)
none_of_not true false is = refl
none_of_not false true is = refl
none_of_not false false is = absurd (cc)
