-- What a fetch does to a queue of look-ups, by the position of the look-up that it serves.
use Rattle.std.proofs.Common.{◌≡◌, ℕ, zero, suc, ◌<◌, ◌≤◌, true, false, List, [], ◌∷◌, length, get_or, set, Some, None, refl, ap, arith}
use Rattle.std.specs.List.{refill, position, position_or_len}
use Rattle.std.proofs.lemmas.Grind.{common_steps}
use Rattle.std.proofs.lemmas.Bool.Decides.{nat_tests}
use Rattle.std.proofs.lemmas.List.Quantifiers.{position-Some}
use Rattle.std.proofs.lemmas.List.Sums.{fails_before_first}
use Rattle.qpu_tmu.specs.declared.look_up.LookUp.{LookUp}
use Rattle.qpu_tmu.specs.Looks.{is_waiting, with_words}

-- a list written over one of its own length is the list written
pub refilled : {A : Type 0} (xs ws : List A) → length ws ≡ length xs → refill (length xs) xs ws ≡ ws
refilled xs ws same = grind (arith, common_steps)

words_from : (words : List ℕ) (looks : List LookUp) (i : ℕ) (d : LookUp) → i < length looks → is_waiting (get_or looks i d) ≡ true → ((k : ℕ) → k < i → is_waiting (get_or looks k d) ≡ false) → with_words words looks ≡ set looks i (record (get_or looks i d) { words = Some words })
words_from words [] i d low here before = absurd (omega arith)
words_from words (look ∷ more) zero d low here before = rw here refl
words_from words (look ∷ more) (suc i) d low here before =
    rw (before 0 (omega arith))
    (ap (λ rest. look ∷ rest) (words_from words more i d (omega arith) here (λ k h. before (suc k) (omega arith))))

-- the look-up at the first position that isn't fetched gets the words
pub words_at : (words : List ℕ) (looks : List LookUp) (i : ℕ) (d : LookUp) → position is_waiting looks ≡ Some i → with_words words looks ≡ set looks i (record (get_or looks i d) { words = Some words })
words_at words looks i d found =
    let facts = position-Some is_waiting looks i d found in
    words_from words looks i d facts.0 facts.1 facts.2

-- where all are fetched
all_fetched : (words : List ℕ) (looks : List LookUp) (d : LookUp) → ((k : ℕ) → k < length looks → is_waiting (get_or looks k d) ≡ false) → with_words words looks ≡ looks
all_fetched words [] d each = refl
all_fetched words (look ∷ more) d each =
    rw (each 0 (omega arith))
    (ap (λ rest. look ∷ rest) (all_fetched words more d (λ k h. each (suc k) (omega arith))))

none_before : (looks : List LookUp) → position is_waiting looks ≡ None → length looks ≤ position_or_len is_waiting looks
none_before looks none = grind (arith, nat_tests, none)

-- where none waits, no look-up gets the words
pub words_nowhere : (words : List ℕ) (looks : List LookUp) (d : LookUp) → position is_waiting looks ≡ None → with_words words looks ≡ looks
words_nowhere words looks d none =
    let past = none_before looks none in
    all_fetched words looks d (λ k h. fails_before_first is_waiting looks k d (omega arith))
