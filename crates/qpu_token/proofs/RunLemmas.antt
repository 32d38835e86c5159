-- Runs of bytes that pass a test: how long the longest is.
use Rattle.std.proofs.Common.{◌≡◌, ℕ, zero, suc, ◌+◌, ◌<◌, ◌≤◌, Bool, true, false, ◌&&◌, List, ◌∷◌, length, get_or, take, refl, ap, ◌∙◌, arith, one-add}
use Rattle.std.specs.List.{prefix_len, list_all}
use Rattle.std.proofs.lemmas.List.{length-take-le, get_or-take}
use Rattle.std.proofs.lemmas.List.Folds.{list_all_at}
use Rattle.std.proofs.lemmas.List.Sums.{prefix_len_stops, prefix_len-le-length}
use Rattle.qpu_text.specs.Numbers.{is_run}
use Rattle.qpu_text.proofs.NumberLemmas.{all_in_run}
use Rattle.qpu_token.specs.declared.piece.Shape.{Shape}
use Rattle.qpu_token.specs.Words.{is_word}
use Rattle.qpu_token.specs.Tokens.{Begins}

and_false : (b : Bool) → (b && false) ≡ false
and_false true = refl
and_false false = refl

-- no front that is longer than the longest run is one
pub none_longer : (p : ℕ → Bool) (xs : List ℕ) (m : ℕ) → prefix_len p xs < m → m ≤ length xs → list_all p (take m xs) ≡ false
none_longer p xs m past inside =
    let stops : p (get_or xs (prefix_len p xs) 0) ≡ false = prefix_len_stops p xs 0 (omega arith) in
    let short : length (take m xs) ≡ m = length-take-le m xs inside in
    list_all_at p (take m xs) (prefix_len p xs) 0 (omega arith) (ap p (get_or-take m xs (prefix_len p xs) 0 past) ∙ stops)

-- the same of words whose first byte has a test of its own
pub run_word : (first others : ℕ → Bool) (byte : ℕ) (more : List ℕ) → first byte ≡ true → others byte ≡ true → is_run first others (take (prefix_len others (byte ∷ more)) (byte ∷ more)) ≡ true
run_word first others byte more head among = rw (among, one-add, head) (all_in_run others more)

pub run_longest : (first others : ℕ → Bool) (byte : ℕ) (more : List ℕ) → others byte ≡ true → (m : ℕ) → prefix_len others (byte ∷ more) < m → m ≤ length (byte ∷ more) → is_run first others (take m (byte ∷ more)) ≡ false
run_longest first others byte more among zero past inside = absurd (omega arith)
run_longest first others byte more among (suc m) past inside =
    let longer : 1 + prefix_len others more < suc m = rw among at past in
    rw (none_longer others more m (omega arith) (omega arith)) (and_false (first byte))

pub run_begins : (dotted : Bool) (shape : Shape) (first others : ℕ → Bool) (byte : ℕ) (more : List ℕ) → ((word : List ℕ) → is_word dotted shape word ≡ is_run first others word) → first byte ≡ true → others byte ≡ true → Begins dotted shape (prefix_len others (byte ∷ more)) (byte ∷ more)
run_begins dotted shape first others byte more is head among = record {
  inside = prefix_len-le-length others (byte ∷ more);
  word = is _ ∙ run_word first others byte more head among;
  longest = λ m past inside. is _ ∙ run_longest first others byte more among m past inside;
}
