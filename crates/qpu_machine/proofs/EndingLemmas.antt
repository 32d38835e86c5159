-- A machine in which no processor's actor has a step is final.
use Rattle.std.proofs.Common.{◌≡◌, ◌<◌, ◌≤◌, ℕ, suc, zero, Bool, true, false, List, length, Option, Some, None, ◌⊎◌, inl, inr, refl, ap, sym, ◌∙◌, arith}
use Rattle.qpu_word.specs.declared.code.TheConstants.{TMU_UNITS}
use Rattle.std.specs.Prelude.{[], nat_lt, ◌||◌, ◌==◌, is_some, if◌then◌else◌}
use Rattle.std.proofs.Math.ListN.{get_or-eq_default}
use Rattle.std.proofs.lemmas.Bool.{cases_lt}
use Rattle.std.proofs.lemmas.Bool.Decides.{nat_tests}
use Rattle.qpu_tmu.specs.declared.look_up.LookUp.{LookUp}
use Rattle.qpu_tmu.specs.Looks.{next_look}
use Rattle.qpu_word.specs.Processor.{ProcessorState}
use Rattle.qpu_shared.specs.declared.pending.Pending.{Pending}
use Rattle.qpu_shared.specs.SharedState.{nothing_pending}
use Rattle.qpu_shared.specs.Instruction.{pending_of}
use Rattle.qpu_shared.specs.Moves.{unit_looks}
use Rattle.qpu_machine.specs.declared.actor.Actor.{Actor}
use Rattle.qpu_machine.specs.declared.actor.Actor.TheVariants.{Exec, Load, Store, Fetch}
use Rattle.qpu_machine.specs.Machine.{MachineState, after_exec, after_step, is_enabled}
use Rattle.qpu_machine.specs.Sound.{IsSoundMachine}
use Rattle.qpu_machine.specs.Ending.{IsFinal}
use Rattle.qpu_machine.specs.Still.{has_step}
use Rattle.qpu_machine.proofs.MovedLemmas.{some_load, some_store, some_fetch}

-- some actor has a step

either : (a b : Bool) → (a || b) ≡ true → (a ≡ true) ⊎ (b ≡ true)
either true b is = inl refl
either false b is = inr is

one_of : (m : MachineState) (q : ℕ)
    → ((is_enabled m (Exec q) || is_enabled m (Load q) || is_enabled m (Store q) || is_enabled m (Fetch q 0)) ≡ true) ⊎ (is_enabled m (Fetch q 1) ≡ true)
    → (actor : Actor) × (is_enabled m actor ≡ true)
one_of m q (inr is) = (Fetch q 1, is)
one_of m q (inl is) = of_four (either (is_enabled m (Exec q) || is_enabled m (Load q) || is_enabled m (Store q)) (is_enabled m (Fetch q 0)) is)
  where
    of_two : (is_enabled m (Exec q) ≡ true) ⊎ (is_enabled m (Load q) ≡ true) → (actor : Actor) × (is_enabled m actor ≡ true)
    of_two (inl is) = (Exec q, is)
    of_two (inr is) = (Load q, is)

    of_three : ((is_enabled m (Exec q) || is_enabled m (Load q)) ≡ true) ⊎ (is_enabled m (Store q) ≡ true) → (actor : Actor) × (is_enabled m actor ≡ true)
    of_three (inl is) = of_two (either (is_enabled m (Exec q)) (is_enabled m (Load q)) is)
    of_three (inr is) = (Store q, is)

    of_four : ((is_enabled m (Exec q) || is_enabled m (Load q) || is_enabled m (Store q)) ≡ true) ⊎ (is_enabled m (Fetch q 0) ≡ true)
        → (actor : Actor) × (is_enabled m actor ≡ true)
    of_four (inl is) = of_three (either (is_enabled m (Exec q) || is_enabled m (Load q)) (is_enabled m (Store q)) is)
    of_four (inr is) = (Fetch q 0, is)

pub moves_of : (m : MachineState) (q : ℕ) → has_step m q ≡ true → (actor : Actor) × (is_enabled m actor ≡ true)
unfolding has_step
moves_of m q is =
    one_of m q (either (is_enabled m (Exec q) || is_enabled m (Load q) || is_enabled m (Store q) || is_enabled m (Fetch q 0)) (is_enabled m (Fetch q 1)) is)

-- no actor has a step

pub none_of : {A : Type 0} (o : Option A) → is_some o ≡ false → o ≡ None
none_of None is = refl
none_of (Some a) is = absurd (cc)

-- the five actors of a processor
record IsStill (a b c d e : Bool) : Type 0 where
  exec : a ≡ false
  load : b ≡ false
  store : c ≡ false
  fetch0 : d ≡ false
  fetch1 : e ≡ false

five_false : (a b c d e : Bool) → (a || b || c || d || e) ≡ false → IsStill a b c d e
five_false true b c d e is = absurd (cc)
five_false false true c d e is = absurd (cc)
five_false false false true d e is = absurd (cc)
five_false false false false true e is = absurd (cc)
five_false false false false false true is = absurd (cc)
five_false false false false false false is = record { exec = refl; load = refl; store = refl; fetch0 = refl; fetch1 = refl }

still_of : (m : MachineState) (q : ℕ) → has_step m q ≡ false
    → IsStill (is_enabled m (Exec q)) (is_enabled m (Load q)) (is_enabled m (Store q)) (is_enabled m (Fetch q 0)) (is_enabled m (Fetch q 1))
unfolding has_step
still_of m q is = five_false (is_enabled m (Exec q)) (is_enabled m (Load q)) (is_enabled m (Store q)) (is_enabled m (Fetch q 0)) (is_enabled m (Fetch q 1)) is

-- a processor past the last
exec_past : (m : MachineState) (q : ℕ) → length m.processors ≤ q → after_step m (Exec q) ≡ None
unfolding after_step
exec_past m q past = ap (λ (p : Option ProcessorState). after_exec m q p) (get_or-eq_default m.processors None past)

nothing_past : (m : MachineState) (q : ℕ) → length m.shared.pending ≤ q → pending_of m.shared q ≡ nothing_pending
nothing_past m q past = get_or-eq_default m.shared.pending nothing_pending past

load_past : (m : MachineState) (q : ℕ) → length m.shared.pending ≤ q → is_enabled m (Load q) ≡ false
load_past m q past = sym (some_load m q) ∙ ap (λ (x : Pending). is_some x.load) (nothing_past m q past)

store_past : (m : MachineState) (q : ℕ) → length m.shared.pending ≤ q → is_enabled m (Store q) ≡ false
store_past m q past = sym (some_store m q) ∙ ap (λ (x : Pending). is_some x.store) (nothing_past m q past)

no_looks : (low first : Bool) → is_some (next_look (if low then (if first then [] else []) else [])) ≡ false
no_looks true true = refl
no_looks true false = refl
no_looks false first = refl

fetch_past : (m : MachineState) (q unit : ℕ) → length m.shared.pending ≤ q → is_enabled m (Fetch q unit) ≡ false
fetch_past m q unit past =
    sym (some_fetch m q unit) ∙ ap (λ (x : Pending). is_some (next_look (unit_looks x unit))) (nothing_past m q past) ∙ no_looks (nat_lt unit TMU_UNITS) (unit == 0)

-- a TMU unit past the last
unit_past : (m : MachineState) (q unit : ℕ) → 2 ≤ unit → is_enabled m (Fetch q unit) ≡ false
unit_past m q unit past =
    let none : unit_looks (pending_of m.shared q) unit ≡ [] = (let t : nat_lt unit TMU_UNITS ≡ false = grind (arith, nat_tests) in rw t refl) in
    sym (some_fetch m q unit) ∙ ap (λ (looks : List LookUp). is_some (next_look looks)) none

fetch_low : (m : MachineState) (q unit : ℕ) → has_step m q ≡ false → is_enabled m (Fetch q unit) ≡ false
fetch_low m q zero still = let s = still_of m q still in s.fetch0
fetch_low m q (suc zero) still = let s = still_of m q still in s.fetch1
fetch_low m q (suc (suc unit)) still = unit_past m q (suc (suc unit)) (omega arith)

-- each actor, of a processor below or past the last
still_actor : (m : MachineState) → IsSoundMachine m → ((q : ℕ) → q < 12 → has_step m q ≡ false) → (actor : Actor) → after_step m actor ≡ None
still_actor m sound still (Exec q) = at (cases_lt q 12)
  where
    at : (q < 12) ⊎ (12 ≤ q) → after_step m (Exec q) ≡ None
    at (inl low) = let s = still_of m q (still q low) in none_of (after_step m (Exec q)) s.exec
    at (inr past) = exec_past m q (omega (arith, sound.processors))
still_actor m sound still (Load q) = at (cases_lt q 12)
  where
    at : (q < 12) ⊎ (12 ≤ q) → after_step m (Load q) ≡ None
    at (inl low) = let s = still_of m q (still q low) in none_of (after_step m (Load q)) s.load
    at (inr past) = none_of (after_step m (Load q)) (load_past m q (omega (arith, sound.pending)))
still_actor m sound still (Store q) = at (cases_lt q 12)
  where
    at : (q < 12) ⊎ (12 ≤ q) → after_step m (Store q) ≡ None
    at (inl low) = let s = still_of m q (still q low) in none_of (after_step m (Store q)) s.store
    at (inr past) = none_of (after_step m (Store q)) (store_past m q (omega (arith, sound.pending)))
still_actor m sound still (Fetch q unit) = at (cases_lt q 12)
  where
    at : (q < 12) ⊎ (12 ≤ q) → after_step m (Fetch q unit) ≡ None
    at (inl low) = none_of (after_step m (Fetch q unit)) (fetch_low m q unit (still q low))
    at (inr past) = none_of (after_step m (Fetch q unit)) (fetch_past m q unit (omega (arith, sound.pending)))

pub final_of : (m : MachineState) → IsSoundMachine m → ((q : ℕ) → q < 12 → has_step m q ≡ false) → IsFinal m
final_of m sound still actor = still_actor m sound still actor
