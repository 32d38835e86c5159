-- Lines and fields cut off a text, by the place of the first byte of their kind.
use Rattle.std.proofs.Common.{◌≡◌, ◌∙◌, ℕ, suc, ◌+◌, ◌<◌, ◌≤◌, Bool, true, false, List, [], ◌∷◌, ◌++◌, length, take, drop, get_or, Some, None, refl, ap, sym, arith, one-add}
use Rattle.std.specs.Prelude.{position, ◌==◌}
use Rattle.std.specs.List.{position_or_len}
use Rattle.std.specs.Str.{IsUtf8, IsCharBoundary}
use Rattle.std.proofs.lemmas.Bool.{eqb-true}
use Rattle.std.proofs.lemmas.Bool.Decides.{nat_tests}
use Rattle.std.proofs.lemmas.List.{take_more}
use Rattle.std.proofs.lemmas.List.Quantifiers.{position-Some}
use Rattle.std.proofs.lemmas.Str.{IsCharBoundary-after_ascii}
use Rattle.qpu_text.specs.Bytes.{LF, is_lf}
use Rattle.qpu_text.specs.Lines.{Cut, cut_at, first_line, whole_line, lines}

pub at_first : {X : Type 0} (p : X → Bool) (xs : List X) (i : ℕ) → position p xs ≡ Some i → (position_or_len p xs < length xs) × (position_or_len p xs ≡ i)
at_first p xs i h = (grind (arith, nat_tests), grind (arith, nat_tests))

pub none_first : {X : Type 0} (p : X → Bool) (xs : List X) → position p xs ≡ None → length xs ≤ position_or_len p xs
none_first p xs h = grind (arith, nat_tests)

-- cut at a place, and not cut

abbrev pub cut_here : ℕ → List ℕ → Cut
cut_here at text = record { front = take at text; found = true; rest = drop (at + 1) text }

abbrev pub uncut : List ℕ → Cut
uncut text = record { front = text; found = false; rest = [] }

abbrev pub is_mark : ℕ → ℕ → Bool
is_mark mark = λ (byte : ℕ). byte == mark

place_behind : (p : ℕ → Bool) (byte : ℕ) (text : List ℕ) → p byte ≡ false → position_or_len p (byte ∷ text) ≡ suc (position_or_len p text)
place_behind p byte text other = rw other (one-add (position_or_len p text))

place_here : (p : ℕ → Bool) (byte : ℕ) (text : List ℕ) → p byte ≡ true → position_or_len p (byte ∷ text) ≡ 0
place_here p byte text is = rw is refl

cut_by : (mark byte : ℕ) (text : List ℕ) (here : Bool) → is_mark mark byte ≡ here
    → (position_or_len (is_mark mark) text < length text → cut_at mark text ≡ cut_here (position_or_len (is_mark mark) text) text)
    → position_or_len (is_mark mark) (byte ∷ text) < length (byte ∷ text)
    → cut_at mark (byte ∷ text) ≡ cut_here (position_or_len (is_mark mark) (byte ∷ text)) (byte ∷ text)
unfolding cut_at
cut_by mark byte text true is more below = rw is refl
cut_by mark byte text false is more below =
    let place = place_behind (is_mark mark) byte text is in
    let rest = more (omega (arith, place, below)) in
    let next : suc (position_or_len (is_mark mark) text) + 1 ≡ suc (position_or_len (is_mark mark) text + 1) = omega arith in
    rw (place, is, rest, next) refl

cut_in : (mark : ℕ) (text : List ℕ) → position_or_len (is_mark mark) text < length text → cut_at mark text ≡ cut_here (position_or_len (is_mark mark) text) text
cut_in mark [] below = absurd (omega (arith, below))
cut_in mark (byte ∷ text) below = cut_by mark byte text (is_mark mark byte) refl (cut_in mark text) below

pub cut_some : (mark : ℕ) (text : List ℕ) (at : ℕ) → position (is_mark mark) text ≡ Some at → cut_at mark text ≡ cut_here at text
cut_some mark text at h =
    let found = at_first (is_mark mark) text at h in
    rw (← found.1) (cut_in mark text found.0)

whole_by : (mark byte : ℕ) (text : List ℕ) (here : Bool) → is_mark mark byte ≡ here
    → (length text ≤ position_or_len (is_mark mark) text → cut_at mark text ≡ uncut text)
    → length (byte ∷ text) ≤ position_or_len (is_mark mark) (byte ∷ text)
    → cut_at mark (byte ∷ text) ≡ uncut (byte ∷ text)
unfolding cut_at
whole_by mark byte text true is more past =
    absurd (omega (arith, place_here (is_mark mark) byte text is, past))
whole_by mark byte text false is more past =
    let place = place_behind (is_mark mark) byte text is in
    let rest = more (omega (arith, place, past)) in
    rw (is, rest) refl

whole_in : (mark : ℕ) (text : List ℕ) → length text ≤ position_or_len (is_mark mark) text → cut_at mark text ≡ uncut text
unfolding cut_at
whole_in mark [] past = refl
whole_in mark (byte ∷ text) past = whole_by mark byte text (is_mark mark byte) refl (whole_in mark text) past

pub cut_none : (mark : ℕ) (text : List ℕ) → position (is_mark mark) text ≡ None → cut_at mark text ≡ uncut text
cut_none mark text h = whole_in mark text (none_first (is_mark mark) text h)

-- the first line begins the lines

abbrev BeginsLines : List ℕ → Type 0
BeginsLines text = lines text ≡ whole_line (first_line text) ∷ lines (first_line text).rest

onto_whole : (byte : ℕ) (front rest : List ℕ) (found : Bool) → whole_line (record { front = byte ∷ front; found = found; rest = rest }) ≡ byte ∷ whole_line (record { front = front; found = found; rest = rest })
onto_whole byte front rest true = refl
onto_whole byte front rest false = refl

begins_one : (byte : ℕ) (here : Bool) → is_lf byte ≡ here → BeginsLines (byte ∷ [])
unfolding lines cut_at
begins_one byte true is = rw is refl
begins_one byte false is = rw is refl

begins_more : (byte : ℕ) (text : List ℕ) (here : Bool) → is_lf byte ≡ here → BeginsLines text → BeginsLines (byte ∷ text)
unfolding lines cut_at
begins_more byte text true is more = rw is refl
begins_more byte text false is more =
    let cut = first_line text in
    rw (is, more) (ap (λ (line : List ℕ). line ∷ lines cut.rest) (sym (onto_whole byte cut.front cut.rest cut.found)))

begins : (byte : ℕ) (text : List ℕ) → BeginsLines (byte ∷ text)
begins byte [] = begins_one byte (is_lf byte) refl
begins byte (next ∷ text) = begins_more byte (next ∷ text) (is_lf byte) refl (begins next text)

pub lines_none : lines [] ≡ []
unfolding lines
lines_none = refl

-- a line that is cut off ends with a line feed
pub line_ends : (text : List ℕ) (at : ℕ) → position is_lf text ≡ Some at → take (at + 1) text ≡ take at text ++ LF ∷ []
line_ends text at h =
    let found = position-Some is_lf text at 0 h in
    take_more text at 0 found.0 ∙ ap (λ (b : ℕ). take at text ++ b ∷ []) (eqb-true (get_or text at 0) LF found.1)

pub lines_first : (text : List ℕ) (at : ℕ) → position is_lf text ≡ Some at → lines text ≡ take (at + 1) text ∷ lines (drop (at + 1) text)
lines_first [] at h = absurd (omega (arith, (at_first is_lf [] at h).0))
lines_first (byte ∷ text) at h = begins byte text ∙ rw (cut_some LF (byte ∷ text) at h, line_ends (byte ∷ text) at h) refl

pub lines_last : (text : List ℕ) → position is_lf text ≡ None → 0 < length text → lines text ≡ text ∷ []
lines_last [] h some = absurd (omega (arith, some))
lines_last (byte ∷ text) h some = begins byte text ∙ rw (cut_none LF (byte ∷ text) h, lines_none) refl

-- behind a line feed a text may be cut
pub lf_boundary : (text : List ℕ) (at : ℕ) → IsUtf8 text → position is_lf text ≡ Some at → IsCharBoundary text (at + 1)
lf_boundary text at utf8 h =
    let found = position-Some is_lf text at 0 h in
    let byte : get_or text at 0 ≡ LF = eqb-true _ _ found.1 in
    IsCharBoundary-after_ascii text at utf8 found.0 (omega (arith, byte))
