-- Words of which some are replaced by others, one behind the other.
use Rattle.std.proofs.Common.{◌≡◌, ◌≢◌, ℕ, ◌+◌, ◌-◌, ◌<◌, ◌≤◌, ◌⊎◌, inl, inr, List, ◌++◌, length, get_or, take, drop, refl, ap, sym, arith, ◌∙◌}
use Rattle.std.proofs.Math.ListN.{set, length-set}
use Rattle.std.proofs.lemmas.Bool.{cases_eq, cases_lt}
use Rattle.std.specs.Prelude.{min}
use Rattle.std.proofs.lemmas.List.{ext_get_or, take-append-drop, get_or-set_same, get_or-set_other, length-append, get_or_append_left, get_or-append_right, get_or-take, get_or-drop, length-take, length-drop}
use Rattle.qpu_bytes.specs.Elements.{with_words, words_from}

front_long : (words : List ℕ) (at : ℕ) → at ≤ length words → length (take at words) ≡ at
front_long words at low = length-take at words ∙ omega (arith, low)

-- as many words as before
pub length_with : (words : List ℕ) (at : ℕ) (values : List ℕ) → at + length values ≤ length words → length (with_words words at values) ≡ length words
length_with words at values low =
    let front = front_long words at (omega arith) in
    let back = length-drop (at + length values) words in
    let whole = length-append (take at words) (values ++ drop (at + length values) words) in
    let rest = length-append values (drop (at + length values) words) in
    omega (arith, front, back, whole, rest, low)

-- a word before them
pub before_run : (words : List ℕ) (at : ℕ) (values : List ℕ) (k : ℕ) → at + length values ≤ length words → k < at → get_or (with_words words at values) k 0 ≡ get_or words k 0
before_run words at values k low early =
    let front = front_long words at (omega arith) in
    get_or_append_left (take at words) (values ++ drop (at + length values) words) 0 k (omega (arith, front, early)) ∙ get_or-take at words k 0 early

-- one of them
pub in_run : (words : List ℕ) (at : ℕ) (values : List ℕ) (k : ℕ) → at + length values ≤ length words → at ≤ k → k < at + length values → get_or (with_words words at values) k 0 ≡ get_or values (k - at) 0
in_run words at values k low from to =
    get_or-append_right (take at words) (values ++ drop (at + length values) words) at k 0 (front_long words at (omega arith)) from
    ∙ get_or_append_left values (drop (at + length values) words) 0 (k - at) (omega arith)

-- a word behind them
pub behind_run : (words : List ℕ) (at : ℕ) (values : List ℕ) (k : ℕ) → at + length values ≤ length words → at + length values ≤ k → get_or (with_words words at values) k 0 ≡ get_or words k 0
behind_run words at values k low late =
    let back : at + length values + (k - at - length values) ≡ k = omega arith in
    get_or-append_right (take at words) (values ++ drop (at + length values) words) at k 0 (front_long words at (omega arith)) (omega arith)
    ∙ get_or-append_right values (drop (at + length values) words) (length values) (k - at) 0 refl (omega arith)
    ∙ get_or-drop (at + length values) words (k - at - length values) 0
    ∙ ap (λ i. get_or words i 0) back

-- so many words from an index on
pub length_from : (words : List ℕ) (at count : ℕ) → at + count ≤ length words → length (words_from words at count) ≡ count
length_from words at count low =
    let long = length-take count (drop at words) in
    let rest = length-drop at words in
    omega (arith, long, rest, low)

pub word_from : (words : List ℕ) (at count k : ℕ) → k < count → get_or (words_from words at count) k 0 ≡ get_or words (at + k) 0
word_from words at count k low = get_or-take count (drop at words) k 0 low ∙ get_or-drop at words k 0

lt_of : (a b : ℕ) → b ≤ a → (a < b + 1) ⊎ (b + 1 ≤ a) → (a ≡ b → ⊥) → b + 1 ≤ a
lt_of a b past (inl small) apart = absurd (apart (omega (arith, past, small)))
lt_of a b past (inr large) apart = large

not_same : (a b : ℕ) → b ≤ a → (a ≡ b → ⊥) → b + 1 ≤ a
not_same a b past apart = lt_of a b past (cases_lt a (b + 1)) apart

-- no word is replaced
pub run_none : (words from : List ℕ) (at source : ℕ) → words ≡ with_words words at (words_from from source 0)
run_none words from at source =
    let same : at ≡ at + 0 = omega arith in
    sym (take-append-drop at words) ∙ ap (λ n. take at words ++ drop n words) same

-- one word more
pub run_more : (words from : List ℕ) (at source j : ℕ) → at + j < length words → source + j < length from
    → set (with_words words at (words_from from source j)) (at + j) (get_or from (source + j) 0) ≡ with_words words at (words_from from source (j + 1))
run_more words from at source j low there =
    ext_get_or 0 (set (with_words words at (words_from from source j)) (at + j) (get_or from (source + j) 0)) (with_words words at (words_from from source (j + 1)))
    (length-set (with_words words at (words_from from source j)) (at + j) (get_or from (source + j) 0) ∙ before ∙ sym after)
    (λ k within. word_at k (cases_lt k at) (cases_lt k (at + j)) (cases_eq k (at + j))) where
      count : length (words_from from source j) ≡ j
      count = length_from from source j (omega (arith, there))

      more : length (words_from from source (j + 1)) ≡ j + 1
      more = length_from from source (j + 1) (omega (arith, there))

      room : at + length (words_from from source j) ≤ length words
      room = omega (arith, count, low)

      room_more : at + length (words_from from source (j + 1)) ≤ length words
      room_more = omega (arith, more, low)

      before : length (with_words words at (words_from from source j)) ≡ length words
      before = length_with words at (words_from from source j) room

      after : length (with_words words at (words_from from source (j + 1))) ≡ length words
      after = length_with words at (words_from from source (j + 1)) room_more

      other : (k : ℕ) → k ≢ at + j → get_or (set (with_words words at (words_from from source j)) (at + j) (get_or from (source + j) 0)) k 0 ≡ get_or (with_words words at (words_from from source j)) k 0
      other k apart = get_or-set_other (with_words words at (words_from from source j)) (at + j) k (get_or from (source + j) 0) 0 apart

      word_at : (k : ℕ) → (k < at) ⊎ (at ≤ k) → (k < at + j) ⊎ (at + j ≤ k) → (k ≡ at + j) ⊎ (k ≢ at + j)
          → get_or (set (with_words words at (words_from from source j)) (at + j) (get_or from (source + j) 0)) k 0 ≡ get_or (with_words words at (words_from from source (j + 1))) k 0
      word_at k (inl early) ends same =
          other k (λ e. omega (arith, early, e))
          ∙ before_run words at (words_from from source j) k room early
          ∙ sym (before_run words at (words_from from source (j + 1)) k room_more early)
      word_at k (inr from_at) (inl inside) same =
          other k (λ e. omega (arith, inside, e))
          ∙ in_run words at (words_from from source j) k room from_at (omega (arith, count, inside))
          ∙ word_from from source j (k - at) (omega (arith, from_at, inside))
          ∙ sym (word_from from source (j + 1) (k - at) (omega (arith, from_at, inside)))
          ∙ sym (in_run words at (words_from from source (j + 1)) k room_more from_at (omega (arith, more, inside)))
      word_at k (inr from_at) (inr past) (inl same) =
          let place : k - at ≡ j = omega (arith, same) in
          ap (λ i. get_or (set (with_words words at (words_from from source j)) (at + j) (get_or from (source + j) 0)) i 0) same
          ∙ get_or-set_same (with_words words at (words_from from source j)) (at + j) (get_or from (source + j) 0) 0 (omega (arith, before, low))
          ∙ sym (in_run words at (words_from from source (j + 1)) k room_more from_at (omega (arith, more, same))
          ∙ ap (λ i. get_or (words_from from source (j + 1)) i 0) place
          ∙ word_from from source (j + 1) j (omega arith))
      word_at k (inr from_at) (inr past) (inr apart) =
          let late : at + (j + 1) ≤ k = omega (arith, past, not_same k (at + j) past apart) in
          other k apart
          ∙ behind_run words at (words_from from source j) k room (omega (arith, count, late))
          ∙ sym (behind_run words at (words_from from source (j + 1)) k room_more (omega (arith, more, late)))
