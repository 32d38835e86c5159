-- Where two texts differ.
use Rattle.std.proofs.Common.{◌≡◌, ◌≢◌, ℕ, ◌+◌, ◌<◌, ◌≤◌, Bool, true, false, List, [], ◌∷◌, length, drop, Some, None, refl, ap, sym, ◌∙◌, arith}
use Rattle.std.specs.Prelude.{min, slice_index_or, ◌==◌, if◌then◌else◌}
use Rattle.std.proofs.lemmas.Bool.{eqb-true}
use Rattle.std.proofs.lemmas.Bool.Decides.{nat_tests}
use Rattle.std.proofs.lemmas.List.{drop_more, length-drop}
use Rattle.qpu_tool.specs.Replaying.{differing_line}

-- a text doesn't differ from itself

same_byte : (a : ℕ) → (a == a) ≡ true
same_byte a = grind (arith)

pub differs_none : (line : ℕ) (text : List ℕ) → differing_line line text text ≡ None
unfolding differing_line
differs_none line [] = refl
differs_none line (a ∷ text) = rw (same_byte a) (differs_none (if a == 10 then line + 1 else line) text)

pub differs_not : (first line : ℕ) (text : List ℕ) → differing_line first text text ≡ Some line → ⊥
differs_not first line text is = let f : None ≡ Some line = sym (differs_none first text) ∙ is in absurd (cc)

-- texts that don't differ are the same

same_head : (a b : ℕ) (text other : List ℕ) → a ≡ b → text ≡ other → a ∷ text ≡ b ∷ other
same_head a b text other p q = ap (λ (c : ℕ). c ∷ text) p ∙ ap (λ (t : List ℕ). b ∷ t) q

same_by : (line a b : ℕ) (text other : List ℕ) (test : Bool) → (a == b) ≡ test → ((n : ℕ) → differing_line n text other ≡ None → text ≡ other)
    → (if test then differing_line (if a == 10 then line + 1 else line) text other else Some line) ≡ None → a ∷ text ≡ b ∷ other
same_by line a b text other true is rest none = same_head a b text other (eqb-true a b is) (rest (if a == 10 then line + 1 else line) none)
same_by line a b text other false is rest none = absurd (let f : Some line ≡ None = none in cc)

pub same_texts : (text other : List ℕ) (line : ℕ) → differing_line line text other ≡ None → text ≡ other
unfolding differing_line
same_texts [] [] line none = refl
same_texts [] (b ∷ other) line none = absurd (let f : Some line ≡ None = none in cc)
same_texts (a ∷ text) [] line none = absurd (let f : Some line ≡ None = none in cc)
same_texts (a ∷ text) (b ∷ other) line none = same_by line a b text other (a == b) refl (same_texts text other) none

-- bytes that are the same are passed by, and others aren't

abbrev behind : ℕ → ℕ → ℕ
behind line byte = if byte == 10 then line + 1 else line

behind_by : (line : ℕ) (ends : Bool) → (if ends then line + 1 else line) ≤ line + 1
behind_by line true = omega arith
behind_by line false = omega arith

pub behind_most : (line byte : ℕ) → (if byte == 10 then line + 1 else line) ≤ line + 1
behind_most line byte = behind_by line (byte == 10)

passes : (line a b : ℕ) (text other : List ℕ) → a ≡ b → differing_line line (a ∷ text) (b ∷ other) ≡ differing_line (behind line a) text other
unfolding differing_line
passes line a b text other same = let test : (a == b) ≡ true = rw same (same_byte b) in rw test refl

apart_test : (a b : ℕ) → a ≢ b → (a == b) ≡ false
apart_test a b apart = grind (arith, nat_tests)

stops : (line a b : ℕ) (text other : List ℕ) → a ≢ b → differing_line line (a ∷ text) (b ∷ other) ≡ Some line
unfolding differing_line
stops line a b text other apart = rw (apart_test a b apart) refl

pub same_on : (line : ℕ) (text other : List ℕ) (i : ℕ) → i < length text → i < length other → slice_index_or text i 0 ≡ slice_index_or other i 0
    → differing_line (behind line (slice_index_or text i 0)) (drop (i + 1) text) (drop (i + 1) other) ≡ differing_line line (drop i text) (drop i other)
same_on line text other i low below same =
    rw (drop_more text i 0 low, drop_more other i 0 below) (sym (passes line _ _ (drop (i + 1) text) (drop (i + 1) other) same))

pub other_at : (line : ℕ) (text other : List ℕ) (i : ℕ) → i < length text → i < length other → slice_index_or text i 0 ≢ slice_index_or other i 0
    → differing_line line (drop i text) (drop i other) ≡ Some line
other_at line text other i low below apart =
    rw (drop_more text i 0 low, drop_more other i 0 below) (stops line _ _ (drop (i + 1) text) (drop (i + 1) other) apart)

-- the end of one of them, or of both

both_end : (line : ℕ) (text other : List ℕ) → length text ≡ 0 → length other ≡ 0 → differing_line line text other ≡ None
unfolding differing_line
both_end line [] [] p q = refl
both_end line [] (b ∷ other) p q = absurd (omega (arith, q))
both_end line (a ∷ text) other p q = absurd (omega (arith, p))

one_ends : (line : ℕ) (text other : List ℕ) → min (length text) (length other) ≡ 0 → length text ≢ length other → differing_line line text other ≡ Some line
unfolding differing_line
one_ends line [] [] p q = absurd (q refl)
one_ends line [] (b ∷ other) p q = refl
one_ends line (a ∷ text) [] p q = refl
one_ends line (a ∷ text) (b ∷ other) p q = absurd (omega (arith, p))

pub ends_both : (line : ℕ) (text other : List ℕ) (i : ℕ) → min (length text) (length other) ≤ i → length text ≡ length other
    → differing_line line (drop i text) (drop i other) ≡ None
ends_both line text other i past same =
    both_end line (drop i text) (drop i other) (omega (arith, length-drop i text, past, same)) (omega (arith, length-drop i other, past, same))

pub ends_one : (line : ℕ) (text other : List ℕ) (i : ℕ) → i ≡ min (length text) (length other) → length text ≢ length other
    → differing_line line (drop i text) (drop i other) ≡ Some line
ends_one line text other i is apart =
    let long = length-drop i text in
    let short = length-drop i other in
    one_ends line (drop i text) (drop i other) (omega (arith, long, short, is)) (λ same. apart (omega (arith, long, short, is, same)))
