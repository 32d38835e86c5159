-- How many moves are pending: an instruction makes 80 more at most, and a move one less.
use Rattle.std.proofs.Common.{◌≡◌, ◌<◌, ◌≤◌, ◌+◌, ℕ, zero, suc, Bool, true, false, List, [], ◌∷◌, ◌++◌, ◌*◌, drop, length, Option, Some, None, Result, Ok, Err, IsTrue, refl, ap, sym, subst, ◌∙◌, arith}
use Rattle.std.specs.Prelude.{◌==◌, ◌&&◌, nat_lt, is_some, map, find, option_map, slice_index, if◌then◌else◌}
use Rattle.std.proofs.lemmas.Bool.Decides.{nat_tests}
use Rattle.qpu_word.specs.declared.word.Fields.{Fields}
use Rattle.qpu_word.specs.declared.lanes.Lanes.{Lanes}
use Rattle.qpu_word.specs.declared.traffic.Outs.{Outs}
use Rattle.qpu_word.specs.declared.setup.Book.{Book}
use Rattle.qpu_word.specs.declared.fault.FaultKind.{FaultKind}
use Rattle.qpu_word.specs.declared.fault.FaultKind.TheVariants.{Transfer as TransferFault}
use Rattle.qpu_word.specs.declared.code.TheConstants.{WRITE_DMA_ADDRESS, TMU_UNITS}
use Rattle.qpu_word.specs.Words.{swaps_writes, is_tmu_load, add_writes, mul_writes, writes_a, writes_b, one_if}
use Rattle.qpu_word.specs.Instruction.{after_setups, first_lane, as_lanes, is_look_address, look_address, outs_from, sent_to, sent_to_a, sent_to_b}
use Rattle.qpu_dma.specs.declared.direction.Direction.{Direction}
use Rattle.qpu_dma.specs.declared.direction.Direction.TheVariants.{Load as LoadOf, Store as StoreOf}
use Rattle.qpu_dma.specs.Transfers.{TransferState, transfer_of, fits}
use Rattle.qpu_dma.proofs.SetupLemmas.{load_rows, transfer_rows}
use Rattle.qpu_tmu.specs.declared.look_up.LookUp.{LookUp}
use Rattle.qpu_tmu.specs.Looks.{LookupsState, with_queue, is_waiting, with_look, with_words, next_look}
use Rattle.qpu_shared.specs.declared.pending.Pending.{Pending}
use Rattle.qpu_shared.specs.declared.starts.Begun.{Begun}
use Rattle.qpu_shared.specs.Instruction.{looks_of, after_vpm_write, setup_in, step_in, started_with, transfer_started, look_issued, after_writes, or_pending, after_take, after_issue, pending_after}
use Rattle.qpu_shared.specs.Moves.{fetched, unit_looks}
use Rattle.qpu_machine.specs.Bound.{waiting, rows_left, moves_pending, moves_most}
use Rattle.qpu_machine.specs.Kept.{IsShort, HasFewRows}
use Rattle.qpu_machine.proofs.KeptLooks.{ok_same, through, look_starts, by_issue, none_there}

-- look-ups that aren't fetched

waiting_both : (xs ys : List LookUp) → waiting (xs ++ ys) ≡ waiting xs + waiting ys
waiting_both [] ys = omega arith
waiting_both (look ∷ more) ys = let rest = waiting_both more ys in omega (arith, rest)

take_fewer : (takes : Bool) (looks : List LookUp) → waiting (if takes then drop 1 looks else looks) ≤ waiting looks
take_fewer false looks = omega arith
take_fewer true [] = omega arith
take_fewer true (look ∷ more) = omega arith

issue_more : (look : Option Lanes) (look_unit unit : ℕ) (looks : List LookUp) → waiting (after_issue look look_unit unit looks) ≤ waiting looks + one_if (is_some look && (look_unit == unit))
issue_more None look_unit unit looks = omega arith
issue_more (Some at) look_unit unit looks = by_test (look_unit == unit)
  where
    by_test : (b : Bool) → waiting (if b then with_look at.v looks else looks) ≤ waiting looks + one_if b
    by_test true = let both = waiting_both looks (record { at = at.v; words = None } ∷ []) in omega (arith, both)
    by_test false = omega arith

one_unit : (unit : ℕ) (some : Bool) → one_if (some && (unit == 0)) + one_if (some && (unit == 1)) ≤ one_if some
one_unit zero true = omega arith
one_unit zero false = omega arith
one_unit (suc zero) true = omega arith
one_unit (suc zero) false = omega arith
one_unit (suc (suc unit)) some = rw (apart (suc (suc unit)) 0 (omega arith), apart (suc (suc unit)) 1 (omega arith)) (neither some)
  where
    apart : (n k : ℕ) → k < n → (n == k) ≡ false
    apart n k less = grind (arith, nat_tests)

    neither : (some : Bool) → one_if (some && false) + one_if (some && false) ≤ one_if some
    neither true = omega arith
    neither false = omega arith

-- what an instruction starts

rows_more : (new old : Option TransferState) → rows_left (or_pending new old) ≤ rows_left new + rows_left old
rows_more None old = omega arith
rows_more (Some t) None = omega arith
rows_more (Some t) (Some u) = omega arith

-- the most rows of a transfer
abbrev rows_most : Direction → ℕ
rows_most LoadOf = 16
rows_most StoreOf = 64

most_short : (direction : Direction) → rows_most direction ≤ 64
most_short LoadOf = omega arith
most_short StoreOf = omega arith

-- a transfer that starts has few rows, where there is one
record StartsFew (direction : Direction) (at : Option ℕ) (starts : Option TransferState) : Type 0 where
  short : IsShort starts
  most : rows_left starts ≤ rows_most direction * one_if (is_some at)

few_none : (direction : Direction) (starts : Option TransferState) → ◌≡◌ {A = Result (Option TransferState) FaultKind} (Ok None) (Ok starts) → StartsFew direction None starts
few_none direction starts e =
    let same : ◌≡◌ {A = Option TransferState} None starts = cc in
    subst (StartsFew direction None) same (record { short = tt; most = omega arith })

few_some : (direction : Direction) (address : ℕ) (t : TransferState) (starts : Option TransferState) → t.rows ≤ rows_most direction
    → ◌≡◌ {A = Result (Option TransferState) FaultKind} (Ok (Some t)) (Ok starts) → StartsFew direction (Some address) starts
few_some LoadOf address t starts few e =
    let same : ◌≡◌ {A = Option TransferState} (Some t) starts = cc in
    subst (StartsFew LoadOf (Some address)) same (record { short = omega (arith, few); most = omega (arith, few) })
few_some StoreOf address t starts few e =
    let same : ◌≡◌ {A = Option TransferState} (Some t) starts = cc in
    subst (StartsFew StoreOf (Some address)) same (record { short = omega (arith, few); most = omega (arith, few) })

-- a transfer of each direction that may start has few rows
rows_few : (direction : Direction) (setup step address words : ℕ) → IsTrue (fits (transfer_of direction setup step address) words)
    → (transfer_of direction setup step address).rows ≤ rows_most direction
rows_few LoadOf setup step address words may = load_rows setup step address
rows_few StoreOf setup step address words may = transfer_rows StoreOf setup step address words may

few_fitting : (direction : Direction) (setup step address : ℕ) (memory : List ℕ) (may : Bool) (starts : Option TransferState)
    → fits (transfer_of direction setup step address) (length memory) ≡ may
    → (if may then Ok (Some (transfer_of direction setup step address)) else Err TransferFault) ≡ Ok starts → StartsFew direction (Some address) starts
few_fitting direction setup step address memory true starts may e =
    few_some direction address _ starts (rows_few direction setup step address (length memory) may) e
few_fitting direction setup step address memory false starts may e = absurd (cc)

few_with : (direction : Direction) (setup : Option ℕ) (step address : ℕ) (memory : List ℕ) (starts : Option TransferState)
    → started_with direction setup step address memory ≡ Ok starts → StartsFew direction (Some address) starts
few_with direction None step address memory starts e = absurd (cc)
few_with direction (Some setup) step address memory starts e =
    few_fitting direction setup step address memory (fits (transfer_of direction setup step address) (length memory)) starts refl e

few_started : (direction : Direction) (at : Option ℕ) (book : Book) (memory : List ℕ) (starts : Option TransferState)
    → transfer_started direction at book memory ≡ Ok starts → StartsFew direction at starts
few_started direction None book memory starts e = few_none direction starts e
few_started direction (Some address) book memory starts e = few_with direction (setup_in direction book) (step_in direction book) address memory starts e

-- both transfers that an instruction starts
record StartFew (outs : Outs) (starts : Begun) : Type 0 where
  load : StartsFew LoadOf outs.load_at starts.load
  store : StartsFew StoreOf outs.store_at starts.store

both_start : (outs : Outs) (memory : List ℕ) (book : Book) (starts : Begun) → after_writes outs memory book ≡ Ok starts → StartFew outs starts
unfolding after_writes
both_start outs memory book starts e =
    through (after_vpm_write outs.vpm book) _ starts (λ b _.
    through (after_setups outs b) _ starts (λ c _.
    through (transfer_started LoadOf outs.load_at c memory) _ starts (λ load is_load.
    through (transfer_started StoreOf outs.store_at c memory) _ starts (λ store is_store.
    through (look_issued outs.look memory) _ starts (λ look _ last.
    subst (StartFew outs) (ok_same _ _ last)
    (record { load = few_started LoadOf outs.load_at c memory load is_load; store = few_started StoreOf outs.store_at c memory store is_store })))))) e

-- what is pending after an instruction has few rows
short_or : (new old : Option TransferState) → IsShort new → IsShort old → IsShort (or_pending new old)
short_or None old first second = second
short_or (Some t) old first second = first

pub rows_by_instruction : (f : Fields) (outs : Outs) (memory : List ℕ) (book : Book) (starts : Begun) (pending : Pending) → after_writes outs memory book ≡ Ok starts
    → HasFewRows pending → HasFewRows (pending_after f outs starts pending)
unfolding pending_after
rows_by_instruction f outs memory book starts pending begins few =
    let both = both_start outs memory book starts begins in
    (short_or starts.load pending.load both.load.short few.0, short_or starts.store pending.store both.store.short few.1)

-- a word has two writes, so it starts two moves at most

some_lane : (b : Bool) (x : List ℕ) → is_some (first_lane (if b then Some x else None)) ≡ b
some_lane true x = refl
some_lane false x = refl

to_load : (f : Fields) (add mul : List ℕ) → is_some (first_lane (sent_to_a f add mul WRITE_DMA_ADDRESS)) ≡ writes_a f WRITE_DMA_ADDRESS
unfolding sent_to_a
to_load f add mul = some_lane (writes_a f WRITE_DMA_ADDRESS) _

to_store : (f : Fields) (add mul : List ℕ) → is_some (first_lane (sent_to_b f add mul WRITE_DMA_ADDRESS)) ≡ writes_b f WRITE_DMA_ADDRESS
unfolding sent_to_b
to_store f add mul = some_lane (writes_b f WRITE_DMA_ADDRESS) _

either_file : (exchanged a b : Bool) → one_if (if exchanged then b else a) + one_if (if exchanged then a else b) ≡ one_if a + one_if b
either_file true a b = omega arith
either_file false a b = refl

other_place : (writes_it : Bool) (address : ℕ) → (writes_it && is_look_address address) ≡ true → one_if (writes_it && (address == WRITE_DMA_ADDRESS)) ≡ 0
other_place writes_it address is = grind (arith, nat_tests)

pub one_most : (b : Bool) → one_if b ≤ 1
one_most true = omega arith
one_most false = omega arith

two_writes : (f : Fields) (add mul : List ℕ)
    → one_if (writes_a f WRITE_DMA_ADDRESS) + one_if (writes_b f WRITE_DMA_ADDRESS) + one_if (is_some (as_lanes (sent_to f add mul (look_address f)))) ≤ 2
two_writes f add mul =
    let a : ℕ = one_if (add_writes f && (f.waddr_add == WRITE_DMA_ADDRESS)) in
    let m : ℕ = one_if (mul_writes f && (f.waddr_mul == WRITE_DMA_ADDRESS)) in
    let files : one_if (writes_a f WRITE_DMA_ADDRESS) + one_if (writes_b f WRITE_DMA_ADDRESS) ≡ a + m =
    either_file (swaps_writes f) (add_writes f && (f.waddr_add == WRITE_DMA_ADDRESS)) (mul_writes f && (f.waddr_mul == WRITE_DMA_ADDRESS)) in
    let few_a = one_most (add_writes f && (f.waddr_add == WRITE_DMA_ADDRESS)) in
    let few_m = one_most (mul_writes f && (f.waddr_mul == WRITE_DMA_ADDRESS)) in
    let few_l = one_most (is_some (as_lanes (sent_to f add mul (look_address f)))) in
    by_issue f _
    (λ is. let none = other_place (mul_writes f) f.waddr_mul is.mul in omega (arith, files, few_a, few_m, few_l, none))
    (λ is. let none = other_place (add_writes f) f.waddr_add is.add in omega (arith, files, few_a, few_m, few_l, none))
    (λ is. let none : one_if (is_some (as_lanes (sent_to f add mul (look_address f)))) ≡ 0 = ap one_if (none_there f add mul is) in omega (arith, files, few_a, few_m, few_l, none))

two_outs : (f : Fields) (add mul : List ℕ)
    → one_if (is_some (outs_from f add mul).load_at) + one_if (is_some (outs_from f add mul).store_at) + one_if (is_some (outs_from f add mul).look) ≤ 2
unfolding outs_from
two_outs f add mul = rw (to_load f add mul, to_store f add mul) (two_writes f add mul)

-- sixteen rows, 64 rows and a look-up, of which two are started
most_of_two : (load store look load_at store_at look_at : ℕ) → load ≤ 16 * load_at → store ≤ 64 * store_at → look ≡ look_at → load_at ≤ 1 → store_at ≤ 1 → look_at ≤ 1
    → load_at + store_at + look_at ≤ 2 → load + store + look ≤ 80
most_of_two load store look load_at store_at look_at a b c la sa ka two = omega (arith, a, b, c, la, sa, ka, two)

-- so an instruction makes 80 more pending at most
pub moves_by_instruction : (f : Fields) (add mul memory : List ℕ) (book : Book) (starts : Begun) (pending : Pending) → after_writes (outs_from f add mul) memory book ≡ Ok starts
    → moves_pending (pending_after f (outs_from f add mul) starts pending) ≤ moves_pending pending + moves_most
unfolding pending_after
moves_by_instruction f add mul memory book starts pending begins =
    let outs : Outs = outs_from f add mul in
    let load = rows_more starts.load pending.load in
    let store = rows_more starts.store pending.store in
    let first = issue_more starts.look outs.look_unit 0 (after_take f 0 pending.looks.looks0) in
    let second = issue_more starts.look outs.look_unit 1 (after_take f 1 pending.looks.looks1) in
    let took0 = take_fewer (is_tmu_load f 0) pending.looks.looks0 in
    let took1 = take_fewer (is_tmu_load f 1) pending.looks.looks1 in
    let unit = one_unit outs.look_unit (is_some starts.look) in
    let both = both_start outs memory book starts begins in
    let most = most_of_two (rows_left starts.load) (rows_left starts.store) (one_if (is_some starts.look)) (one_if (is_some outs.load_at)) (one_if (is_some outs.store_at)) (one_if (is_some outs.look))
    both.load.most both.store.most (ap one_if (look_starts outs memory book starts begins)) (one_most (is_some outs.load_at)) (one_most (is_some outs.store_at)) (one_most (is_some outs.look)) (two_outs f add mul) in
    omega (arith, load, store, first, second, took0, took1, unit, most)

-- moves

-- words are put into one look-up that waited
one_waits : (waits : Bool) (words : List ℕ) (look : LookUp) (more : List LookUp)
    → (is_some (option_map (λ (l : LookUp). l.at) (find is_waiting more)) ≡ true → waiting (with_words words more) + 1 ≡ waiting more) → is_waiting look ≡ waits
    → is_some (option_map (λ (l : LookUp). l.at) (if waits then Some look else find is_waiting more)) ≡ true
    → waiting (if waits then record look { words = Some words } ∷ more else look ∷ with_words words more) + 1 ≡ one_if waits + waiting more
one_waits true words look more rest is some = omega arith
one_waits false words look more rest is some = let less = rest some in let none = ap one_if is in omega (arith, less, none)

some_waits : (words : List ℕ) (looks : List LookUp) → is_some (next_look looks) ≡ true → waiting (with_words words looks) + 1 ≡ waiting looks
some_waits words [] some = absurd (cc)
some_waits words (look ∷ more) some = one_waits (is_waiting look) words look more (some_waits words more) refl some

fetched_by : (words : List ℕ → List ℕ) (looks : List LookUp) (at : Option (List ℕ)) (new : List LookUp) → next_look looks ≡ at
    → option_map (λ (a : List ℕ). with_words (words a) looks) at ≡ Some new → waiting new + 1 ≡ waiting looks
fetched_by words looks None new is e = absurd (cc)
fetched_by words looks (Some a) new is e =
    let same : with_words (words a) looks ≡ new = cc in
    let less = some_waits (words a) looks (ap (λ (o : Option (List ℕ)). is_some o) is) in
    ap (λ (xs : List LookUp). waiting xs + 1) (sym same) ∙ less

fetched_fewer : (low : Bool) (memory : List ℕ) (queue new : List LookUp) → fetched memory (if low then queue else []) ≡ Some new → waiting new + 1 ≡ waiting queue
fetched_fewer true memory queue new e = fetched_by (map (slice_index memory)) queue (next_look queue) new refl e
fetched_fewer false memory queue new e = absurd (cc)

queue_fewer : (is_0 : Bool) (lookups : LookupsState) (new : List LookUp) → waiting new + 1 ≡ waiting (if is_0 then lookups.looks0 else lookups.looks1)
    → waiting (if is_0 then record lookups { looks0 = new } else record lookups { looks1 = new }).looks0
    + waiting (if is_0 then record lookups { looks0 = new } else record lookups { looks1 = new }).looks1 + 1
    ≡ waiting lookups.looks0 + waiting lookups.looks1
queue_fewer true lookups new less = omega (arith, less)
queue_fewer false lookups new less = omega (arith, less)

pub moves_by_fetch : (memory : List ℕ) (pending : Pending) (unit : ℕ) (new : List LookUp) → fetched memory (unit_looks pending unit) ≡ Some new
    → moves_pending (record pending { looks = with_queue pending.looks unit new }) + 1 ≡ moves_pending pending
moves_by_fetch memory pending unit new e =
    let less = queue_fewer (unit == 0) pending.looks new (fetched_fewer (nat_lt unit TMU_UNITS) memory (looks_of pending unit) new e) in omega (arith, less)
