-- A machine stays sound by moves.
use Rattle.std.proofs.Common.{◌≡◌, ◌≢◌, ◌<◌, ◌≤◌, ℕ, Bool, true, false, List, length, Option, Some, None, ◌⊎◌, inl, inr, refl, sym, subst, ap, ◌∙◌}
use Rattle.qpu_word.specs.declared.code.TheConstants.{TMU_UNITS}
use Rattle.std.proofs.Math.ListN.{get_or-eq_default}
use Rattle.std.proofs.lemmas.Bool.{cases_eq, cases_lt}
use Rattle.std.specs.Prelude.{[], nat_lt, ◌==◌, if◌then◌else◌, is_some, option_map, map, slice_index}
use Rattle.qpu_dma.specs.declared.direction.Direction.{Direction}
use Rattle.qpu_dma.specs.declared.direction.Direction.TheVariants.{Load as LoadOf, Store as StoreOf}
use Rattle.qpu_dma.specs.Transfers.{TransferState}
use Rattle.qpu_tmu.specs.Looks.{LookupsState, next_look, with_words}
use Rattle.qpu_tmu.specs.declared.look_up.LookUp.{LookUp}
use Rattle.qpu_shared.specs.declared.pending.Pending.{Pending}
use Rattle.qpu_shared.specs.SharedState.{SharedState, nothing_pending}
use Rattle.qpu_shared.specs.Exec.{Moves}
use Rattle.qpu_shared.specs.Instruction.{pending_of}
use Rattle.qpu_shared.specs.Moves.{transfer_in, after_row_of, after_fetch, fetched, unit_looks, row_moved, fetch_moved}
use Rattle.qpu_machine.specs.declared.actor.Actor.TheVariants.{Load, Store, Fetch}
use Rattle.qpu_machine.specs.Machine.{MachineState, with_shared, after_step}
use Rattle.qpu_machine.specs.Kept.{HasFewRows}
use Rattle.qpu_machine.specs.Sound.{IsSoundMachine}
use Rattle.qpu_machine.proofs.SoundLemmas.{sound_moved}
use Rattle.qpu_machine.proofs.KeptOthers.{others_by_row, others_by_fetch, same_looks_by_row, looks_by_fetch, length_kept_by_row, length_kept_by_fetch, few_rows_by_row, few_rows_by_fetch}

-- as many look-ups are outstanding for a processor
abbrev pub SameCounts : SharedState → SharedState → ℕ → Type 0
SameCounts h left r =
    (length (pending_of left r).looks.looks0 ≡ length (pending_of h r).looks.looks0) × (length (pending_of left r).looks.looks1 ≡ length (pending_of h r).looks.looks1)

-- of one processor and of the others
counts_of : (h left : SharedState) (q : ℕ) → ((other : ℕ) → other ≢ q → pending_of left other ≡ pending_of h other) → SameCounts h left q
    → (r : ℕ) → (r ≡ q) ⊎ (r ≢ q) → SameCounts h left r
counts_of h left q others own r (inl same) = subst (SameCounts h left) (sym same) own
counts_of h left q others own r (inr apart) =
    (ap (λ (x : Pending). length x.looks.looks0) (others r apart), ap (λ (x : Pending). length x.looks.looks1) (others r apart))

-- a processor past the last has nothing pending
nothing_past : (h : SharedState) (q : ℕ) → length h.pending ≤ q → pending_of h q ≡ nothing_pending
nothing_past h q past = get_or-eq_default h.pending nothing_pending past

transfer_past : (direction : Direction) → transfer_in direction nothing_pending ≡ None
transfer_past LoadOf = refl
transfer_past StoreOf = refl

pub row_there : (direction : Direction) (h : SharedState) (q : ℕ) (left : SharedState) → row_moved direction h q ≡ Some left → (q < length h.pending) ⊎ (length h.pending ≤ q)
    → q < length h.pending
unfolding row_moved
row_there direction h q left moved (inl there) = there
row_there direction h q left moved (inr past) =
    let none : after_row_of direction h q (transfer_in direction (pending_of h q)) ≡ None =
    ap (after_row_of direction h q) (ap (transfer_in direction) (nothing_past h q past) ∙ transfer_past direction) in
    absurd (cc)

either_empty : (low first : Bool) → (if low then (if first then [] else []) else []) ≡ (let e : List LookUp = [] in e)
either_empty true true = refl
either_empty true false = refl
either_empty false first = refl

pub fetch_there : (h : SharedState) (q unit : ℕ) (left : SharedState) → fetch_moved h q unit ≡ Some left → (q < length h.pending) ⊎ (length h.pending ≤ q) → q < length h.pending
unfolding fetch_moved
fetch_there h q unit left moved (inl there) = there
fetch_there h q unit left moved (inr past) =
    let empty : unit_looks (pending_of h q) unit ≡ [] =
    ap (λ (x : Pending). unit_looks x unit) (nothing_past h q past) ∙ either_empty (nat_lt unit TMU_UNITS) (unit == 0) in
    let none : after_fetch h q unit (fetched h.memory (unit_looks (pending_of h q) unit)) ≡ None = ap (λ looks. after_fetch h q unit (fetched h.memory looks)) empty in
    absurd (cc)

-- the parts after a move that was made, or not
-- what a move keeps
record KeepsPending (m : MachineState) (left : SharedState) : Type 0 where
  room : length left.pending ≡ length m.shared.pending
  counts : (r : ℕ) → SameCounts m.shared left r
  rows : (r : ℕ) → HasFewRows (pending_of left r)

sound_by : (m : MachineState) (moved : Bool) (due : Option SharedState) (left : SharedState) → IsSoundMachine m → Moves moved due m.shared left
    → (due ≡ Some left → KeepsPending m left) → IsSoundMachine (record m { shared = left })
sound_by m true due left sound moves keeps = let k = keeps moves in sound_moved m left sound k.room k.counts k.rows
sound_by m false due left sound moves keeps = rw moves.1 sound

-- few rows of one processor and of the others
rows_of : (m : MachineState) (left : SharedState) (q : ℕ) → IsSoundMachine m → ((other : ℕ) → other ≢ q → pending_of left other ≡ pending_of m.shared other)
    → HasFewRows (pending_of left q) → (r : ℕ) → (r ≡ q) ⊎ (r ≢ q) → HasFewRows (pending_of left r)
rows_of m left q sound others own r (inl same) = subst (λ k. HasFewRows (pending_of left k)) (sym same) own
rows_of m left q sound others own r (inr apart) = subst HasFewRows (sym (others r apart)) (sound.rows r)

-- the move of a row
pub sound_by_row : (direction : Direction) (m : MachineState) (q : ℕ) (moved : Bool) (left : SharedState) → IsSoundMachine m
    → Moves moved (row_moved direction m.shared q) m.shared left → IsSoundMachine (record m { shared = left })
sound_by_row direction m q moved left sound moves =
    sound_by m moved (row_moved direction m.shared q) left sound moves
    (λ due.
    let there = row_there direction m.shared q left due (cases_lt q (length m.shared.pending)) in
    let looks = same_looks_by_row direction m.shared q left due there in
    let others : (other : ℕ) → other ≢ q → pending_of left other ≡ pending_of m.shared other = λ other apart. others_by_row direction m.shared q other left apart due in
    record {
      room = length_kept_by_row direction m.shared q left due;
      counts = λ r. counts_of m.shared left q others (ap (λ (x : LookupsState). length x.looks0) looks, ap (λ (x : LookupsState). length x.looks1) looks) r (cases_eq r q);
      rows = λ r. rows_of m left q sound others (few_rows_by_row direction m.shared q left due there (sound.rows q)) r (cases_eq r q);
    })

-- a look-up's move
pub sound_by_fetch : (m : MachineState) (q unit : ℕ) (moved : Bool) (left : SharedState) → IsSoundMachine m → Moves moved (fetch_moved m.shared q unit) m.shared left
    → IsSoundMachine (record m { shared = left })
sound_by_fetch m q unit moved left sound moves =
    sound_by m moved (fetch_moved m.shared q unit) left sound moves
    (λ due.
    let there = fetch_there m.shared q unit left due (cases_lt q (length m.shared.pending)) in
    let others : (other : ℕ) → other ≢ q → pending_of left other ≡ pending_of m.shared other = λ other apart. others_by_fetch m.shared q unit other left apart due in
    record {
      room = length_kept_by_fetch m.shared q unit left due;
      counts = λ r.
          counts_of m.shared left q others (looks_by_fetch m.shared q unit 0 left due there, looks_by_fetch m.shared q unit 1 left due there) r (cases_eq r q);
      rows = λ r. rows_of m left q sound others (few_rows_by_fetch m.shared q unit left due there (sound.rows q)) r (cases_eq r q);
    })

-- whether a move is pending

row_some : (direction : Direction) (h : SharedState) (q : ℕ) (transfer : Option TransferState) (m : MachineState)
    → is_some transfer ≡ is_some (with_shared m (after_row_of direction h q transfer))
row_some direction h q None m = refl
row_some direction h q (Some t) m = refl

pub some_load : (m : MachineState) (q : ℕ) → is_some (pending_of m.shared q).load ≡ is_some (after_step m (Load q))
unfolding after_step row_moved
some_load m q = row_some LoadOf m.shared q (pending_of m.shared q).load m

pub some_store : (m : MachineState) (q : ℕ) → is_some (pending_of m.shared q).store ≡ is_some (after_step m (Store q))
unfolding after_step row_moved
some_store m q = row_some StoreOf m.shared q (pending_of m.shared q).store m

fetch_some : (h : SharedState) (q unit : ℕ) (at : Option (List ℕ)) (f : List ℕ → List LookUp) (m : MachineState)
    → is_some at ≡ is_some (with_shared m (after_fetch h q unit (option_map f at)))
fetch_some h q unit None f m = refl
fetch_some h q unit (Some at) f m = refl

pub some_fetch : (m : MachineState) (q unit : ℕ) → is_some (next_look (unit_looks (pending_of m.shared q) unit)) ≡ is_some (after_step m (Fetch q unit))
unfolding after_step fetch_moved
some_fetch m q unit =
    let looks : List LookUp = unit_looks (pending_of m.shared q) unit in
    fetch_some m.shared q unit (next_look looks) (λ at. with_words (map (slice_index m.shared.memory) at) looks) m
