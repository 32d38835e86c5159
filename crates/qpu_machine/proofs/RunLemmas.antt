-- Runs of local words by one processor, and machines in which nothing can move.
use Rattle.std.proofs.Common.{◌≡◌, ℕ, zero, suc, ◌+◌, true, false, List, [], ◌∷◌, ◌++◌, replicate, Some, Ok, refl, ap, subst, arith, append-nil}
use Rattle.std.specs.Prelude.{slice_index}
use Rattle.qpu_word.specs.declared.code.TheConstants.{PROCESSORS}
use Rattle.qpu_word.specs.Words.{fields_of, is_local}
use Rattle.qpu_word.specs.Processor.{ProcessorState}
use Rattle.qpu_word.specs.Instruction.{local_result, is_link_point}
use Rattle.qpu_shared.specs.Instruction.{is_running}
use Rattle.qpu_shared.proofs.LocalLemmas.{instruction_local}
use Rattle.qpu_machine.specs.declared.actor.Actor.{Actor}
use Rattle.qpu_machine.specs.declared.actor.Actor.TheVariants.{Exec, Load, Store, Fetch}
use Rattle.qpu_machine.specs.Machine.{MachineState, processor_of, words_of, with_both, after_step, Step}
use Rattle.qpu_machine.specs.Schedule.{After, here, next}
use Rattle.qpu_machine.specs.Ending.{IsFinal}
use Rattle.qpu_machine.specs.Serial.{has_local_step, Stretch, stops, goes, rests, InTurn, none, each, tries_of, Round, over, turn, SerialSchedule, ends, goes_on}

-- a running processor at a local word that doesn't fault
pub record IsAtLocal (m : MachineState) (q : ℕ) (p after : ProcessorState) : Type 0 where
  pub there : processor_of m q ≡ Some p
  pub runs : is_running m.limit p ≡ true
  pub local : is_local (fields_of (slice_index (words_of m q) p.place)) ≡ true
  pub does : local_result (is_link_point (words_of m q)) (slice_index (words_of m q) p.place) p ≡ Ok after

-- it takes a step that changes the processor alone
pub local_step : (m : MachineState) (q : ℕ) (p after : ProcessorState) → IsAtLocal m q p after → Step m (Exec q) (with_both m q after m.shared)
unfolding after_step
local_step m q p after at =
    rw (at.there, instruction_local (words_of m q) m.limit p m.shared at.runs at.local, at.does) refl

-- and it has a local step
pub local_enabled : (m : MachineState) (q : ℕ) (p after : ProcessorState) → IsAtLocal m q p after → has_local_step m q ≡ true
local_enabled m q p after at = rw (local_step m q p after at, at.there, at.local) refl

-- so many local steps of one processor
pub data Ran (q : ℕ) : MachineState → ℕ → MachineState → Type 0 where
  begun : {m : MachineState} → Ran q m 0 m
  one_more : {m n k : MachineState} {i : ℕ} → Ran q m i n → has_local_step n q ≡ true → Step n (Exec q) k → Ran q m (suc i) k

-- a schedule goes on by one step at its end
after_more : {m n k : MachineState} {s : List Actor} (actor : Actor) → After m s n → Step n actor k → After m (s ++ actor ∷ []) k
after_more actor here step = next step here
after_more actor (next first more) step = next first (after_more actor more step)

-- one more at the end is one more at the front
replicate_more : (i : ℕ) (actor : Actor) → replicate i actor ++ actor ∷ [] ≡ replicate (suc i) actor
replicate_more zero actor = refl
replicate_more (suc i) actor = ap (λ s. actor ∷ s) (replicate_more i actor)

-- local steps are a schedule
pub ran_after : {q i : ℕ} {m n : MachineState} → Ran q m i n → After m (replicate i (Exec q)) n
ran_after begun = here
ran_after {q} {m} (one_more {k = k} {i = j} before enabled step) =
    let P : List Actor → Type 0 = λ s. After m s k in subst P (replicate_more j (Exec q)) (after_more (Exec q) (ran_after before) step)

moved : (i : ℕ) (actor : Actor) (s : List Actor) → replicate i actor ++ actor ∷ s ≡ replicate (suc i) actor ++ s
moved zero actor s = refl
moved (suc i) actor s = ap (λ t. actor ∷ t) (moved i actor s)

-- local steps before a stretch
stretch_before : {q i : ℕ} {m n k : MachineState} {s : List Actor} → Ran q m i n → Stretch q n s k → Stretch q m (replicate i (Exec q) ++ s) k
stretch_before begun more = more
stretch_before {q} {m} {k} {s} (one_more {i = j} before enabled step) more =
    let P : List Actor → Type 0 = λ t. Stretch q m t k in
    subst P (moved j (Exec q) s) (stretch_before before (goes enabled step more))

-- in a final machine nobody has a local step
none_left : (m : MachineState) (q : ℕ) → IsFinal m → has_local_step m q ≡ false
none_left m q final = rw (final (Exec q)) refl

-- local steps are a stretch where none is left
pub ran_stops : {q i : ℕ} {m n : MachineState} → Ran q m i n → has_local_step n q ≡ false → Stretch q m (replicate i (Exec q)) n
ran_stops {q} {i} {m} {n} ran no_more =
    let P : List Actor → Type 0 = λ t. Stretch q m t n in
    subst P (append-nil (replicate i (Exec q))) (stretch_before ran (stops no_more))

-- as in a final machine
pub ran_stretch : {q i : ℕ} {m n : MachineState} → Ran q m i n → IsFinal n → Stretch q m (replicate i (Exec q)) n
ran_stretch {q} {i} {m} {n} ran final = ran_stops ran (none_left n q final)

-- in a final machine what a processor tries does nothing
tries_rest : (q : ℕ) (m : MachineState) → IsFinal m → InTurn (tries_of q) m [] m
tries_rest q m final =
    each (rests (final (Exec q))) (each (rests (final (Load q))) (each (rests (final (Store q)))
    (each (rests (final (Fetch q 0))) (each (rests (final (Fetch q 1))) none))))

-- and a round does nothing
pub round_rests : (d q : ℕ) (m : MachineState) → q + d ≡ PROCESSORS → IsFinal m → Round q m [] m
round_rests zero q m count final = over (omega (arith, count))
round_rests (suc d) q m count final =
    turn (omega (arith, count)) (stops (none_left m q final)) (tries_rest q m final) (round_rests d (q + 1) m (omega (arith, count)) final)

-- the first round of a machine whose first processor comes to its end alone
first_round : {i : ℕ} {m n : MachineState} → Ran 0 m i n → IsFinal n → Round 0 m (replicate i (Exec 0)) n
first_round {i} {m} {n} ran final =
    let P : List Actor → Type 0 = λ t. Round 0 m t n in
    subst P (append-nil (replicate i (Exec 0)))
    (turn (omega arith) (ran_stretch ran final) (tries_rest 0 n final) (round_rests 11 1 n refl final))

-- the serial schedule of such a machine
pub serial_alone : {i : ℕ} {m n : MachineState} → Ran 0 m i n → IsFinal n → SerialSchedule m (replicate i (Exec 0)) n
serial_alone {i} {m} {n} ran final =
    let P : List Actor → Type 0 = λ t. SerialSchedule m t n in
    subst P (append-nil (replicate i (Exec 0))) (goes_on (first_round ran final) (ends final))
