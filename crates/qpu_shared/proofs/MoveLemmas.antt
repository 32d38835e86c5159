-- The move of a row, element by element.
use Rattle.std.proofs.Common.{◌≡◌, ℕ, ◌+◌, ◌/◌, ◌^◌, ◌<◌, ◌≤◌, List, [], ◌∷◌, length, get_or, take, refl, ap, sym, ◌∙◌, arith, Some, None, fold, length-set}
use Rattle.std.specs.Prelude.{Bool, true, false, Option, IfSome, IsTrue, nat_lt, if◌then◌else◌}
use Rattle.std.specs.List.{slice_get}
use Rattle.std.proofs.lemmas.List.{take_all}
use Rattle.std.proofs.lemmas.List.Sums.{fold_more}
use Rattle.std.proofs.lemmas.Bool.Decides.{nat_tests}
use Rattle.std.proofs.lemmas.Option.{slice_get-get_or}
use Rattle.qpu_bytes.specs.Elements.{element, part, with_part, with_words, words_from}
use Rattle.qpu_bytes.proofs.RunLemmas.{length_from}
use Rattle.std.proofs.lemmas.List.FromFn.{get_or-map-range_with_len}
use Rattle.qpu_dma.specs.declared.direction.Direction.{Direction}
use Rattle.qpu_dma.specs.declared.direction.Direction.TheVariants.{Load as LoadOf, Store as StoreOf}
use Rattle.qpu_dma.specs.declared.Pair.{Pair}
use Rattle.qpu_dma.specs.Transfers.{TransferState, pair_at, row_pairs, fits}
use Rattle.qpu_dma.specs.Moves.{carried, carried_one, after_row}
use Rattle.qpu_dma.specs.declared.WordRow.{WordRow}
use Rattle.qpu_dma.specs.Runs.{LiesInRun}
use Rattle.qpu_dma.proofs.FitLemmas.{length-row_pairs}
use Rattle.qpu_dma.proofs.CarriedLemmas.{row_carried}
use Rattle.qpu_shared.specs.SharedState.{SharedState}
use Rattle.qpu_shared.specs.Moves.{with_carried}

-- the shared parts after the first j elements of a row
pub record IsCarried (direction : Direction) (t : TransferState) (old now : SharedState) (j : ℕ) : Type 0 where
  pub is : now ≡ with_carried direction old (take j (row_pairs t t.moved))
  pub long : length now.memory ≡ length old.memory

-- before the first
pub carried_none : (direction : Direction) (t : TransferState) (old : SharedState) → IsCarried direction t old old 0
unfolding carried
carried_none LoadOf t old = record { is = refl; long = refl }
carried_none StoreOf t old = record { is = refl; long = refl }

-- one more of a list
with_more : (direction : Direction) (old : SharedState) (pairs : List Pair) (j : ℕ) (pair : Pair) → j < length pairs → get_or pairs j pair ≡ pair
    → with_carried direction (with_carried direction old (take j pairs)) (pair ∷ []) ≡ with_carried direction old (take (j + 1) pairs)
unfolding carried
with_more LoadOf old pairs j pair low is =
    let step = fold_more (carried_one LoadOf old.memory) old.vpm pairs j pair low in
    ap (λ (vpm : List ℕ). record old { vpm = vpm }) (sym (step ∙ ap (carried_one LoadOf old.memory (fold (carried_one LoadOf old.memory) old.vpm (take j pairs))) is))
with_more StoreOf old pairs j pair low is =
    let step = fold_more (carried_one StoreOf old.vpm) old.memory pairs j pair low in
    ap (λ (memory : List ℕ). record old { memory = memory }) (sym (step ∙ ap (carried_one StoreOf old.vpm (fold (carried_one StoreOf old.vpm) old.memory (take j pairs))) is))

-- one element more
pub carried_more : {direction : Direction} {t : TransferState} {old now next : SharedState} {j : ℕ} (pair : Pair) → j < t.row_length → pair ≡ pair_at t t.moved j
    → next ≡ with_carried direction now (pair ∷ []) → length next.memory ≡ length now.memory → IsCarried direction t old now j → IsCarried direction t old next (j + 1)
unfolding row_pairs
carried_more {direction} {t} {old} {now} {next} {j} pair low is made long before =
    let there : j < length (row_pairs t t.moved) = omega (arith, low, length-row_pairs t t.moved) in
    let at : get_or (row_pairs t t.moved) j pair ≡ pair = get_or-map-range_with_len (pair_at t t.moved) 0 t.row_length j j pair low (omega arith) ∙ sym is in
    record {
      is = made ∙ (ap (λ (s : SharedState). with_carried direction s (pair ∷ [])) before.is ∙ with_more direction old (row_pairs t t.moved) j pair there at);
      long = long ∙ before.long;
    }

-- after the last
pub carried_all : {direction : Direction} {t : TransferState} {old now : SharedState} {j : ℕ} → t.row_length ≤ j → IsCarried direction t old now j
    → now ≡ with_carried direction old (row_pairs t t.moved)
unfolding row_pairs
carried_all {direction} {t} {old} {now} {j} high done =
    done.is ∙ ap (with_carried direction old) (take_all j (row_pairs t t.moved) (omega (arith, high, length-row_pairs t t.moved)))

-- carrying leaves what is pending, and the length of memory
pub carried_long : (direction : Direction) (from into : List ℕ) (pairs : List Pair) → length (fold (carried_one direction from) into pairs) ≡ length into
carried_long direction from into [] = refl
carried_long direction from into (pair ∷ pairs) =
    carried_long direction from (carried_one direction from into pair) pairs ∙ length-set into _ _

pub row_long : (direction : Direction) (h next : SharedState) (pairs : List Pair) → next ≡ with_carried direction h pairs → length next.memory ≡ length h.memory
unfolding carried
row_long LoadOf h next pairs is = ap (λ (s : SharedState). length s.memory) is
row_long StoreOf h next pairs is = ap (λ (s : SharedState). length s.memory) is ∙ carried_long StoreOf h.vpm h.memory pairs

pub row_pending : (direction : Direction) (h next : SharedState) (pairs : List Pair) → next ≡ with_carried direction h pairs → next.pending ≡ h.pending
row_pending LoadOf h next pairs is = ap (λ (s : SharedState). s.pending) is
row_pending StoreOf h next pairs is = ap (λ (s : SharedState). s.pending) is

-- a row of words that stand side by side is carried at once
pub run_loaded : (h : SharedState) (t : TransferState) (row : WordRow) (count : ℕ) (words : List ℕ) → count ≡ t.row_length → LiesInRun t t.moved row
    → words ≡ words_from h.memory row.at count → row.at + count ≤ length h.memory → row.place + t.row_length ≤ length h.vpm
    → ((i : ℕ) → i < count → get_or h.memory (row.at + i) 0 < 2 ^ 32) → ((i : ℕ) → get_or h.vpm i 0 < 2 ^ 32)
    → record h { vpm = with_words h.vpm row.place words } ≡ with_carried LoadOf h (row_pairs t t.moved)
run_loaded h t row count words same lies is there inside small old =
    ap (λ (vpm : List ℕ). record h { vpm = vpm })
    (ap (with_words h.vpm row.place) (is ∙ ap (words_from h.memory row.at) same)
    ∙ sym (row_carried LoadOf t t.moved row h.memory h.vpm lies (λ i low. small i (omega (arith, low, same))) (λ i low. old (row.place + i)) (omega (arith, there, same)) inside))

pub run_stored : (h : SharedState) (t : TransferState) (row : WordRow) (count : ℕ) (words : List ℕ) → count ≡ t.row_length → LiesInRun t t.moved row
    → words ≡ words_from h.vpm row.place count → row.at + length words ≤ length h.memory → row.place + t.row_length ≤ length h.vpm
    → ((i : ℕ) → i < length words → get_or h.memory (row.at + i) 0 < 2 ^ 32) → ((i : ℕ) → get_or h.vpm i 0 < 2 ^ 32)
    → record h { memory = with_words h.memory row.at words } ≡ with_carried StoreOf h (row_pairs t t.moved)
run_stored h t row count words same lies is there inside small old =
    let long : length words ≡ t.row_length = ap length is ∙ length_from h.vpm row.place count (omega (arith, same, inside)) ∙ same in
    ap (λ (memory : List ℕ). record h { memory = memory })
    (ap (with_words h.memory row.at) (is ∙ ap (words_from h.vpm row.place) same)
    ∙ sym (row_carried StoreOf t t.moved row h.vpm h.memory lies (λ i low. old (row.place + i)) (λ i low. small i (omega (arith, low, long))) inside (omega (arith, there, long))))

-- a word inside memory is there
pub no_word : (memory : List ℕ) (at : ℕ) → at < length memory → slice_get memory at ≡ None → ⊥
no_word memory at low none = let there = slice_get-get_or memory at 0 low in cc

-- what is left of a transfer that fits does
left_fits : (words : ℕ) (more : Bool) (t : TransferState) → IsTrue (fits t words)
    → IfSome (if more then Some (record t { moved = t.moved + 1 }) else None) (λ x. IsTrue (fits x words))
unfolding fits
left_fits words true t may = may
left_fits words false t may = tt

pub rest_fits : (words : ℕ) (t : TransferState) → IsTrue (fits t words) → IfSome (after_row t) (λ x. IsTrue (fits x words))
unfolding after_row
rest_fits words t may = left_fits words (nat_lt (t.moved + 1) t.rows) t may

-- one element of a load
value_is : (inside : Bool) (here value : ℕ) → ◌≡◌ {A = Option ℕ} (if inside then Some here else None) (Some value) → value ≡ here
value_is true here value e = let same : here ≡ value = cc in sym same
value_is false here value e = absurd (cc)

pub one_loaded : (h : SharedState) (pair : Pair) (value : ℕ) → element h.memory pair.at pair.size ≡ Some value
    → record h { vpm = with_part h.vpm pair.place pair.size value } ≡ with_carried LoadOf h (pair ∷ [])
unfolding carried
one_loaded h pair value there =
    ap (λ (v : ℕ). record h { vpm = with_part h.vpm pair.place pair.size v }) (value_is (nat_lt (pair.at / 4) (length h.memory)) _ value there)

-- one element of a store
pub one_stored : (h : SharedState) (pair : Pair) (value : ℕ) → pair.at / 4 < length h.memory → value ≡ part h.vpm pair.place pair.size
    → record h { memory = (if nat_lt (pair.at / 4) (length h.memory) then with_part h.memory pair.at pair.size value else h.memory) } ≡ with_carried StoreOf h (pair ∷ [])
unfolding carried
one_stored h pair value low is =
    let test : nat_lt (pair.at / 4) (length h.memory) ≡ true = grind (arith, nat_tests) in
    rw test (ap (λ (v : ℕ). record h { memory = with_part h.memory pair.at pair.size v }) is)
