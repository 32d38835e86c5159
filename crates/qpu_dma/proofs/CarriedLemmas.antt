-- A row of words that stand side by side is carried at once.
use Rattle.std.proofs.Common.{◌≡◌, ℕ, zero, suc, ◌+◌, ◌*◌, ◌/◌, ◌%◌, ◌^◌, ◌<◌, ◌≤◌, List, length, get_or, take, fold, refl, ap, sym, arith, ◌∙◌}
use Rattle.std.proofs.Math.ListN.{set}
use Rattle.std.proofs.lemmas.List.{take_all}
use Rattle.std.proofs.lemmas.List.Sums.{fold_more}
use Rattle.std.proofs.lemmas.List.FromFn.{get_or-map-range_with_len}
use Rattle.qpu_bytes.specs.declared.size.Size.TheVariants.{Word}
use Rattle.qpu_bytes.specs.Elements.{word_part, with_word_part, part, with_part, with_words, words_from}
use Rattle.qpu_bytes.proofs.RunLemmas.{run_none, run_more, behind_run, length_from}
use Rattle.qpu_dma.specs.declared.direction.Direction.{Direction}
use Rattle.qpu_dma.specs.declared.direction.Direction.TheVariants.{Load, Store}
use Rattle.qpu_dma.specs.declared.Pair.{Pair}
use Rattle.qpu_dma.specs.declared.WordRow.{WordRow}
use Rattle.qpu_dma.specs.Transfers.{TransferState, pair_at, row_pairs}
use Rattle.qpu_dma.specs.Moves.{source, target, carried_one, carried}
use Rattle.qpu_dma.specs.Runs.{LiesInRun, run_source, run_target}
use Rattle.qpu_dma.proofs.FitLemmas.{length-row_pairs}

-- a whole word is read and written as it is
word_read : (w : ℕ) → w < 2 ^ 32 → word_part w 0 4 ≡ w
unfolding word_part
word_read w low = omega (arith, low)

word_put : (w v : ℕ) → w < 2 ^ 32 → v < 2 ^ 32 → with_word_part w 0 4 v ≡ v
unfolding with_word_part
word_put w v low small = omega (arith, low, small)

one_word : (from into : List ℕ) (at place : ℕ) → get_or from at 0 < 2 ^ 32 → get_or into place 0 < 2 ^ 32
    → with_part into (4 * place) Word (part from (4 * at) Word) ≡ set into place (get_or from at 0)
one_word from into at place low old =
    let from_word : 4 * at / 4 ≡ at = omega arith in
    let from_byte : 4 * at % 4 ≡ 0 = omega arith in
    let to_word : 4 * place / 4 ≡ place = omega arith in
    let to_byte : 4 * place % 4 ≡ 0 = omega arith in
    rw (from_word, from_byte, to_word, to_byte, word_read (get_or from at 0) low, word_put (get_or into place 0) (get_or from at 0) old low) refl

-- one word of a row
carried_word : (direction : Direction) (from into : List ℕ) (row : WordRow) (j : ℕ) → get_or from (run_source direction row + j) 0 < 2 ^ 32 → get_or into (run_target direction row + j) 0 < 2 ^ 32
    → carried_one direction from into (record { at = 4 * (row.at + j); place = 4 * (row.place + j); size = Word }) ≡ set into (run_target direction row + j) (get_or from (run_source direction row + j) 0)
carried_word Load from into row j low old = one_word from into (row.at + j) (row.place + j) low old
carried_word Store from into row j low old = one_word from into (row.place + j) (row.at + j) low old

-- the first j words
first_words : (direction : Direction) (t : TransferState) (k : ℕ) (row : WordRow) (from into : List ℕ) → LiesInRun t k row
    → ((i : ℕ) → i < t.row_length → get_or from (run_source direction row + i) 0 < 2 ^ 32) → ((i : ℕ) → i < t.row_length → get_or into (run_target direction row + i) 0 < 2 ^ 32)
    → run_source direction row + t.row_length ≤ length from → run_target direction row + t.row_length ≤ length into
    → (j : ℕ) → j ≤ t.row_length → fold (carried_one direction from) into (take j (row_pairs t k)) ≡ with_words into (run_target direction row) (words_from from (run_source direction row) j)
unfolding row_pairs
first_words direction t k row from into lies small old source target zero low = run_none into from (run_target direction row) (run_source direction row)
first_words direction t k row from into lies small old source target (suc j) low =
    let place = run_target direction row in
    let at = run_source direction row in
    let pair : Pair = record { at = 4 * (row.at + j); place = 4 * (row.place + j); size = Word } in
    let before = first_words direction t k row from into lies small old source target j (omega (arith, low)) in
    let there : j < length (row_pairs t k) = omega (arith, low, length-row_pairs t k) in
    let next : get_or (row_pairs t k) j pair ≡ pair = get_or-map-range_with_len (pair_at t k) 0 t.row_length j j pair (omega (arith, low)) (omega arith) ∙ lies j (omega (arith, low)) in
    let count = length_from from at j (omega (arith, source, low)) in
    let untouched : get_or (with_words into place (words_from from at j)) (place + j) 0 ≡ get_or into (place + j) 0 =
    behind_run into place (words_from from at j) (place + j) (omega (arith, count, target, low)) (omega (arith, count)) in
    let fits : get_or (with_words into place (words_from from at j)) (place + j) 0 < 2 ^ 32 = rw untouched (old j (omega (arith, low))) in
    let more : suc j ≡ j + 1 = omega arith in
    rw more (fold_more (carried_one direction from) into (row_pairs t k) j pair there
    ∙ rw (before, next) (carried_word direction from (with_words into place (words_from from at j)) row j (small j (omega (arith, low))) fits
    ∙ run_more into from place at j (omega (arith, target, low)) (omega (arith, source, low))))

-- the whole row
pub row_carried : (direction : Direction) (t : TransferState) (k : ℕ) (row : WordRow) (from into : List ℕ) → LiesInRun t k row
    → ((i : ℕ) → i < t.row_length → get_or from (run_source direction row + i) 0 < 2 ^ 32) → ((i : ℕ) → i < t.row_length → get_or into (run_target direction row + i) 0 < 2 ^ 32)
    → run_source direction row + t.row_length ≤ length from → run_target direction row + t.row_length ≤ length into
    → carried direction from into (row_pairs t k) ≡ with_words into (run_target direction row) (words_from from (run_source direction row) t.row_length)
unfolding carried
row_carried direction t k row from into lies small old source target =
    let whole : take t.row_length (row_pairs t k) ≡ row_pairs t k = take_all t.row_length (row_pairs t k) (omega (arith, length-row_pairs t k)) in
    ap (fold (carried_one direction from) into) (sym whole) ∙ first_words direction t k row from into lies small old source target t.row_length (omega arith)
