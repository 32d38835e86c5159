-- What a step of one processor leaves alone of what is pending.
use Rattle.std.proofs.Common.{◌≡◌, ◌≢◌, ◌<◌, ◌+◌, ℕ, Bool, true, false, List, [], length, map, Option, Some, None, refl, ap, sym, ◌∙◌, subst, length-set, if◌then◌else◌}
use Rattle.qpu_word.specs.declared.code.TheConstants.{TMU_UNITS}
use Rattle.std.proofs.lemmas.List.{get_or-set_same, get_or-set_other}
use Rattle.std.specs.Prelude.{◌==◌, nat_lt, slice_index, slice_index_or, slice_set, option_map}
use Rattle.qpu_word.specs.declared.word.Fields.{Fields}
use Rattle.qpu_word.specs.declared.traffic.Outs.{Outs}
use Rattle.qpu_word.specs.Processor.{ProcessorState}
use Rattle.qpu_dma.specs.declared.direction.Direction.{Direction}
use Rattle.qpu_dma.specs.declared.direction.Direction.TheVariants.{Load as LoadOf, Store as StoreOf}
use Rattle.qpu_dma.specs.declared.Pair.{Pair}
use Rattle.qpu_dma.specs.Transfers.{TransferState, row_pairs}
use Rattle.qpu_dma.specs.Moves.{after_row}
use Rattle.qpu_tmu.specs.declared.look_up.LookUp.{LookUp}
use Rattle.qpu_tmu.specs.Looks.{LookupsState, queue_of, with_queue, next_look, with_words}
use Rattle.qpu_shared.specs.declared.pending.Pending.{Pending}
use Rattle.qpu_shared.specs.declared.starts.Begun.{Begun}
use Rattle.qpu_shared.specs.SharedState.{SharedState, nothing_pending}
use Rattle.qpu_shared.specs.Instruction.{pending_of, looks_of, shared_after}
use Rattle.qpu_shared.specs.Moves.{unit_looks, fetched, with_pending, with_carried, transfer_in, with_transfer, after_row_of, after_fetch, row_moved, fetch_moved}
use Rattle.qpu_machine.specs.Kept.{IsShort, HasFewRows}
use Rattle.qpu_machine.proofs.KeptLooks.{fetched_length}

-- what is left where a move is made
left_is : (P : SharedState → Type 0) (made left : SharedState) → ◌≡◌ {A = Option SharedState} (Some made) (Some left) → P made → P left
left_is P made left e held = let same : made ≡ left = cc in subst P same held

none_left : (left : SharedState) → ◌≡◌ {A = Option SharedState} None (Some left) → ⊥
none_left left e = cc

-- what others have pending

-- an entry is replaced, and the others stay
others_stay : (pending : List Pending) (q other : ℕ) (new : Pending) → other ≢ q → slice_index_or (slice_set pending q new) other nothing_pending ≡ slice_index_or pending other nothing_pending
others_stay pending q other new apart = get_or-set_other pending q other new nothing_pending apart

pub others_by_instruction : (f : Fields) (p : ProcessorState) (outs : Outs) (starts : Begun) (h : SharedState) (q other : ℕ) → p.q ≡ q → other ≢ q
    → pending_of (shared_after f p outs starts h) other ≡ pending_of h other
unfolding shared_after
others_by_instruction f p outs starts h q other is apart =
    others_stay h.pending p.q other _ (λ same. apart (same ∙ is))

-- what is pending after a row was moved
pub pending_by_row : (direction : Direction) (h : SharedState) (q : ℕ) (pairs : List Pair) (new : Pending)
    → (with_pending (with_carried direction h pairs) q new).pending ≡ slice_set h.pending q new
pending_by_row LoadOf h q pairs new = refl
pending_by_row StoreOf h q pairs new = refl

-- what holds of what is pending after the next row of a transfer was moved
pub left_by_row : (P : List Pending → Type 0) (direction : Direction) (h : SharedState) (q : ℕ) (left : SharedState) (transfer : Option TransferState)
    → after_row_of direction h q transfer ≡ Some left
    → ((t : TransferState) → transfer ≡ Some t → P (slice_set h.pending q (with_transfer direction (pending_of h q) (after_row t)))) → P left.pending
left_by_row P direction h q left None e made = absurd (none_left left e)
left_by_row P direction h q left (Some t) e made =
    left_is (λ (s : SharedState). P s.pending) _ left e (subst P (sym (pending_by_row direction h q (row_pairs t t.moved) _)) (made t refl))

pub others_by_row : (direction : Direction) (h : SharedState) (q other : ℕ) (left : SharedState) → other ≢ q → row_moved direction h q ≡ Some left
    → pending_of left other ≡ pending_of h other
unfolding row_moved
others_by_row direction h q other left apart e =
    left_by_row (λ (xs : List Pending). slice_index_or xs other nothing_pending ≡ pending_of h other) direction h q left (transfer_in direction (pending_of h q)) e
    (λ t is. others_stay h.pending q other _ apart)

fetch_others : (h : SharedState) (q unit other : ℕ) (left : SharedState) (looks : Option (List LookUp)) → other ≢ q → after_fetch h q unit looks ≡ Some left
    → pending_of left other ≡ pending_of h other
fetch_others h q unit other left None apart e = absurd (none_left left e)
fetch_others h q unit other left (Some looks) apart e =
    left_is (λ (s : SharedState). pending_of s other ≡ pending_of h other) _ left e (others_stay h.pending q other _ apart)

pub others_by_fetch : (h : SharedState) (q unit other : ℕ) (left : SharedState) → other ≢ q → fetch_moved h q unit ≡ Some left → pending_of left other ≡ pending_of h other
unfolding fetch_moved
others_by_fetch h q unit other left apart e = fetch_others h q unit other left (fetched h.memory (unit_looks (pending_of h q) unit)) apart e

-- the look-ups of the processor itself

-- an entry is replaced by another
replaced : (pending : List Pending) (q : ℕ) (new : Pending) → q < length pending → slice_index_or (slice_set pending q new) q nothing_pending ≡ new
replaced pending q new there = get_or-set_same pending q new nothing_pending there

-- a transfer is replaced, and the look-ups stay
looks_stay : (direction : Direction) (pending : Pending) (transfer : Option TransferState) → (with_transfer direction pending transfer).looks ≡ pending.looks
looks_stay LoadOf pending transfer = refl
looks_stay StoreOf pending transfer = refl

pub same_looks_by_row : (direction : Direction) (h : SharedState) (q : ℕ) (left : SharedState) → row_moved direction h q ≡ Some left → q < length h.pending
    → (pending_of left q).looks ≡ (pending_of h q).looks
unfolding row_moved
same_looks_by_row direction h q left e there =
    left_by_row (λ (xs : List Pending). (slice_index_or xs q nothing_pending).looks ≡ (pending_of h q).looks) direction h q left (transfer_in direction (pending_of h q)) e
    (λ t is. ap (λ (o : Pending). o.looks) (replaced h.pending q _ there) ∙ looks_stay direction (pending_of h q) (after_row t))

-- a fetch keeps how many look-ups a unit has

-- words of a waiting look-up are put in its place
fetched_by : (words : List ℕ → List ℕ) (looks : List LookUp) (at : Option (List ℕ)) (new : List LookUp)
    → option_map (λ (a : List ℕ). with_words (words a) looks) at ≡ Some new → length new ≡ length looks
fetched_by words looks None new e = absurd (cc)
fetched_by words looks (Some a) new e =
    let same : with_words (words a) looks ≡ new = cc in
    ap length (sym same) ∙ fetched_length (words a) looks

fetched_long : (memory : List ℕ) (looks new : List LookUp) → fetched memory looks ≡ Some new → length new ≡ length looks
fetched_long memory looks new e = fetched_by (map (slice_index memory)) looks (next_look looks) new e

-- a fetch of a unit that there isn't makes none
long_by : (low : Bool) (memory : List ℕ) (queue new : List LookUp) → fetched memory (if low then queue else []) ≡ Some new → length new ≡ length queue
long_by true memory queue new e = fetched_long memory queue new e
long_by false memory queue new e = absurd (cc)

-- a queue is replaced by another as long
queue_by : (unit_is_0 u_is_0 : Bool) (lookups : LookupsState) (new : List LookUp) → length new ≡ length (if unit_is_0 then lookups.looks0 else lookups.looks1)
    → length (if u_is_0 then (if unit_is_0 then record lookups { looks0 = new } else record lookups { looks1 = new }).looks0
    else (if unit_is_0 then record lookups { looks0 = new } else record lookups { looks1 = new }).looks1)
    ≡ length (if u_is_0 then lookups.looks0 else lookups.looks1)
queue_by true true lookups new long = long
queue_by true false lookups new long = refl
queue_by false true lookups new long = refl
queue_by false false lookups new long = long

queue_long : (lookups : LookupsState) (unit u : ℕ) (new : List LookUp) → length new ≡ length (queue_of lookups unit)
    → length (queue_of (with_queue lookups unit new) u) ≡ length (queue_of lookups u)
queue_long lookups unit u new long = queue_by (unit == 0) (u == 0) lookups new long

fetch_looks : (h : SharedState) (q unit u : ℕ) (left : SharedState) (looks : Option (List LookUp)) → fetched h.memory (unit_looks (pending_of h q) unit) ≡ looks
    → after_fetch h q unit looks ≡ Some left → q < length h.pending → length (queue_of (pending_of left q).looks u) ≡ length (queue_of (pending_of h q).looks u)
fetch_looks h q unit u left None is e there = absurd (none_left left e)
fetch_looks h q unit u left (Some new) is e there =
    let long : length new ≡ length (queue_of (pending_of h q).looks unit) = long_by (nat_lt unit TMU_UNITS) h.memory (looks_of (pending_of h q) unit) new is in
    left_is (λ (s : SharedState). length (queue_of (pending_of s q).looks u) ≡ length (queue_of (pending_of h q).looks u)) _ left e
    (ap (λ (o : Pending). length (queue_of o.looks u)) (replaced h.pending q (record (pending_of h q) { looks = with_queue (pending_of h q).looks unit new }) there)
    ∙ queue_long (pending_of h q).looks unit u new long)

pub looks_by_fetch : (h : SharedState) (q unit u : ℕ) (left : SharedState) → fetch_moved h q unit ≡ Some left → q < length h.pending
    → length (queue_of (pending_of left q).looks u) ≡ length (queue_of (pending_of h q).looks u)
unfolding fetch_moved
looks_by_fetch h q unit u left e there = fetch_looks h q unit u left (fetched h.memory (unit_looks (pending_of h q) unit)) refl e there

-- how many processors there are

pub length_kept_by_instruction : (f : Fields) (p : ProcessorState) (outs : Outs) (starts : Begun) (h : SharedState) → length (shared_after f p outs starts h).pending ≡ length h.pending
unfolding shared_after
length_kept_by_instruction f p outs starts h = length-set h.pending p.q _

pub length_kept_by_row : (direction : Direction) (h : SharedState) (q : ℕ) (left : SharedState) → row_moved direction h q ≡ Some left → length left.pending ≡ length h.pending
unfolding row_moved
length_kept_by_row direction h q left e =
    left_by_row (λ (xs : List Pending). length xs ≡ length h.pending) direction h q left (transfer_in direction (pending_of h q)) e
    (λ t is. length-set h.pending q _)

fetch_length : (h : SharedState) (q unit : ℕ) (left : SharedState) (looks : Option (List LookUp)) → after_fetch h q unit looks ≡ Some left → length left.pending ≡ length h.pending
fetch_length h q unit left None e = absurd (none_left left e)
fetch_length h q unit left (Some looks) e = left_is (λ (s : SharedState). length s.pending ≡ length h.pending) _ left e (length-set h.pending q _)

pub length_kept_by_fetch : (h : SharedState) (q unit : ℕ) (left : SharedState) → fetch_moved h q unit ≡ Some left → length left.pending ≡ length h.pending
unfolding fetch_moved
length_kept_by_fetch h q unit left e = fetch_length h q unit left (fetched h.memory (unit_looks (pending_of h q) unit)) e

-- how many rows are pending

-- after a row of a transfer was moved, it has as many
short_after : (more : Bool) (t : TransferState) → IsShort (Some t) → IsShort (if more then Some (record t { moved = t.moved + 1 }) else None)
short_after true t short = short
short_after false t short = tt

-- a transfer is replaced by the rest of itself
rows_replaced : (direction : Direction) (pending : Pending) (t : TransferState) → transfer_in direction pending ≡ Some t → HasFewRows pending
    → HasFewRows (with_transfer direction pending (after_row t))
unfolding after_row
rows_replaced LoadOf pending t is few = (short_after (nat_lt (t.moved + 1) t.rows) t (subst IsShort is few.0), few.1)
rows_replaced StoreOf pending t is few = (few.0, short_after (nat_lt (t.moved + 1) t.rows) t (subst IsShort is few.1))

pub few_rows_by_row : (direction : Direction) (h : SharedState) (q : ℕ) (left : SharedState) → row_moved direction h q ≡ Some left → q < length h.pending
    → HasFewRows (pending_of h q) → HasFewRows (pending_of left q)
unfolding row_moved
few_rows_by_row direction h q left e there few =
    left_by_row (λ (xs : List Pending). HasFewRows (slice_index_or xs q nothing_pending)) direction h q left (transfer_in direction (pending_of h q)) e
    (λ t is. subst HasFewRows (sym (replaced h.pending q _ there)) (rows_replaced direction (pending_of h q) t is few))

-- a fetch leaves the transfers as they are
rows_by_fetch : (h : SharedState) (q unit : ℕ) (left : SharedState) (looks : Option (List LookUp)) → after_fetch h q unit looks ≡ Some left → q < length h.pending
    → HasFewRows (pending_of h q) → HasFewRows (pending_of left q)
rows_by_fetch h q unit left None e there few = absurd (none_left left e)
rows_by_fetch h q unit left (Some looks) e there few =
    left_is (λ (s : SharedState). HasFewRows (pending_of s q)) _ left e (subst HasFewRows (sym (replaced h.pending q _ there)) few)

pub few_rows_by_fetch : (h : SharedState) (q unit : ℕ) (left : SharedState) → fetch_moved h q unit ≡ Some left → q < length h.pending
    → HasFewRows (pending_of h q) → HasFewRows (pending_of left q)
unfolding fetch_moved
few_rows_by_fetch h q unit left e there few = rows_by_fetch h q unit left (fetched h.memory (unit_looks (pending_of h q) unit)) e there few
