-- The rows that a transfer has still to move, one row after another.
use Rattle.std.proofs.Common.{◌≡◌, ◌<◌, ◌≤◌, ℕ, ◌+◌, zero, suc, true, length, Option, Some, None, ◌⊎◌, inl, inr, replicate, refl, ap, sym, subst, ◌∙◌, arith}
use Rattle.std.specs.Prelude.{nat_lt}
use Rattle.std.proofs.lemmas.Bool.{cases_lt}
use Rattle.std.proofs.lemmas.Bool.Decides.{nat_tests}
use Rattle.std.proofs.lemmas.List.{get_or-set_same}
use Rattle.std.proofs.Math.ListN.{get_or-eq_default}
use Rattle.qpu_dma.specs.declared.direction.Direction.{Direction}
use Rattle.qpu_dma.specs.declared.direction.Direction.TheVariants.{Load as LoadOf, Store as StoreOf}
use Rattle.qpu_dma.specs.Transfers.{TransferState, row_pairs}
use Rattle.qpu_dma.specs.Moves.{after_row}
use Rattle.qpu_shared.specs.declared.pending.Pending.{Pending}
use Rattle.qpu_shared.specs.SharedState.{SharedState, nothing_pending}
use Rattle.qpu_shared.specs.Instruction.{pending_of}
use Rattle.qpu_shared.specs.Moves.{with_pending, with_carried, with_transfer, transfer_in, after_row_of, row_moved}
use Rattle.qpu_machine.specs.declared.actor.Actor.{Actor}
use Rattle.qpu_machine.specs.declared.actor.Actor.TheVariants.{Exec, Load, Store, Fetch}
use Rattle.qpu_machine.specs.Machine.{MachineState, Step, after_step, with_shared}
use Rattle.qpu_machine.specs.Schedule.{After, here, next}
use Rattle.qpu_replay.specs.Widened.{rows_to_move, rows_still}
use Rattle.qpu_replay.proofs.AnswerLemmas.{some_none}

-- the actor that moves the rows of a direction, and its transfer

abbrev mover : Direction → ℕ → Actor
mover LoadOf q = Load q
mover StoreOf q = Store q

abbrev transfer : Direction → MachineState → ℕ → Option TransferState
transfer d m q = transfer_in d (pending_of m.shared q)

step_is : (d : Direction) (m : MachineState) (q : ℕ) → after_step m (mover d q) ≡ with_shared m (after_row_of d m.shared q (transfer d m q))
unfolding after_step row_moved
step_is LoadOf m q = refl
step_is StoreOf m q = refl

-- one step, where an actor has none

none_by : (d : Direction) (m : MachineState) (q : ℕ) (o : Option TransferState) → with_shared m (after_row_of d m.shared q o) ≡ None → rows_to_move o ≡ 1
none_by d m q None none = refl
none_by d m q (Some t) none = absurd (cc)

pub none_still : (m : MachineState) (actor : Actor) → after_step m actor ≡ None → rows_still m actor ≡ 1
none_still m (Exec q) none = refl
none_still m (Load q) none = none_by LoadOf m q (transfer LoadOf m q) (sym (step_is LoadOf m q) ∙ none)
none_still m (Store q) none = none_by StoreOf m q (transfer StoreOf m q) (sym (step_is StoreOf m q) ∙ none)
none_still m (Fetch q unit) none = refl

-- the move of a row leaves what is left of its transfer

there_by : (d : Direction) (h : SharedState) (q : ℕ) (t : TransferState) → transfer_in d (pending_of h q) ≡ Some t → (q < length h.pending) ⊎ (length h.pending ≤ q) → q < length h.pending
there_by d h q t is (inl there) = there
there_by LoadOf h q t is (inr past) =
    let none : (pending_of h q).load ≡ None = ap (λ (x : Pending). x.load) (get_or-eq_default h.pending nothing_pending past) in absurd (cc)
there_by StoreOf h q t is (inr past) =
    let none : (pending_of h q).store ≡ None = ap (λ (x : Pending). x.store) (get_or-eq_default h.pending nothing_pending past) in absurd (cc)

-- the shared parts after the next row of a transfer
abbrev left_by : Direction → SharedState → ℕ → TransferState → SharedState
left_by d h q t = with_pending (with_carried d h (row_pairs t t.moved)) q (with_transfer d (pending_of h q) (after_row t))

left_pending : (d : Direction) (h : SharedState) (q : ℕ) (t : TransferState) → q < length h.pending → transfer_in d (pending_of (left_by d h q t) q) ≡ after_row t
left_pending LoadOf h q t there =
    ap (λ (x : Pending). x.load) (get_or-set_same h.pending q (with_transfer LoadOf (pending_of h q) (after_row t)) nothing_pending there)
left_pending StoreOf h q t there =
    ap (λ (x : Pending). x.store) (get_or-set_same h.pending q (with_transfer StoreOf (pending_of h q) (after_row t)) nothing_pending there)

row_step : (d : Direction) (m : MachineState) (q : ℕ) (t : TransferState) → transfer d m q ≡ Some t → after_step m (mover d q) ≡ Some (record m { shared = left_by d m.shared q t })
row_step d m q t is = step_is d m q ∙ ap (λ (o : Option TransferState). with_shared m (after_row_of d m.shared q o)) is

same_machine : (a b : MachineState) → ◌≡◌ {A = Option MachineState} (Some a) (Some b) → a ≡ b
same_machine a b e = cc

row_by : (d : Direction) (m n : MachineState) (q : ℕ) (t : TransferState) → transfer d m q ≡ Some t → Step m (mover d q) n → transfer d n q ≡ after_row t
row_by d m n q t is step =
    let there = there_by d m.shared q t is (cases_lt q (length m.shared.pending)) in
    let same = same_machine (record m { shared = left_by d m.shared q t }) n (sym (row_step d m q t is) ∙ step) in
    subst (λ (x : MachineState). transfer d x q ≡ after_row t) same (left_pending d m.shared q t there)

row_left : (t : TransferState) → t.moved + 1 < t.rows → after_row t ≡ Some (record t { moved = t.moved + 1 })
unfolding after_row
row_left t low = let more : nat_lt (t.moved + 1) t.rows ≡ true = grind (arith, nat_tests) in rw more refl

-- where the first row is moved, so are those behind it

goes_by : (i : ℕ) (d : Direction) (m n : MachineState) (q : ℕ) (t : TransferState) → transfer d m q ≡ Some t → t.moved + i < t.rows → After m (replicate i (mover d q)) n → after_step n (mover d q) ≡ None → ⊥
goes_by zero d m n q t is low here none = some_none (record m { shared = left_by d m.shared q t }) (sym (row_step d m q t is) ∙ none)
goes_by (suc i) d m n q t is low (next {n = k} step far) none =
    goes_by i d k n q (record t { moved = t.moved + 1 }) (row_by d m k q t is step ∙ row_left t (omega (arith, low))) (omega (arith, low)) far none

goes_from : (i : ℕ) (d : Direction) (m n : MachineState) (q : ℕ) (o : Option TransferState) → transfer d m q ≡ o → 1 ≤ i → i < rows_to_move o → After m (replicate i (mover d q)) n
    → after_step n (mover d q) ≡ None → ⊥
goes_from i d m n q None is some few far none = absurd (omega (arith, some, few))
goes_from i d m n q (Some t) is some few far none = goes_by i d m n q t is (omega (arith, few)) far none

pub goes_on : (i : ℕ) (m n : MachineState) (actor : Actor) → 1 ≤ i → i < rows_still m actor → After m (replicate i actor) n → after_step n actor ≡ None → ⊥
goes_on i m n (Exec q) some few far none = absurd (omega (arith, some, few))
goes_on i m n (Load q) some few far none = goes_from i LoadOf m n q (transfer LoadOf m q) refl some few far none
goes_on i m n (Store q) some few far none = goes_from i StoreOf m n q (transfer StoreOf m q) refl some few far none
goes_on i m n (Fetch q unit) some few far none = absurd (omega (arith, some, few))
