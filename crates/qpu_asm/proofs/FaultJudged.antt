-- The first faulty mark of a kind is the leftmost token that the table tells.
use Rattle.std.proofs.Common.{◌≡◌, ℕ, suc, ◌+◌, inl, inr, Bool, true, false, List, [], ◌∷◌, ◌++◌, append_assoc, map, take, drop, Option, Some, None, refl, ap, sym, subst, ◌∙◌, arith}
use Rattle.std.proofs.lemmas.List.{append-nil, map-append}
use Rattle.std.specs.Prelude.{◌||◌, ◌≤◌, fold, if◌then◌else◌}
use Rattle.std.specs.List.{list_any}
use Rattle.qpu_token.specs.declared.token.Token.{Token}
use Rattle.qpu_line.specs.declared.symbol.Symbol.{Symbol}
use Rattle.qpu_line.specs.declared.symbol.Symbol.TheVariants as symbol
use Rattle.qpu_asm.specs.declared.placed.Placed.{Placed}
use Rattle.qpu_asm.specs.declared.part.Part.{Part}
use Rattle.qpu_asm.specs.declared.mark.What.{What}
use Rattle.qpu_asm.specs.declared.mark.Mark.{Mark}
use Rattle.qpu_asm.specs.declared.judge.Judged.{Judged}
use Rattle.qpu_asm.specs.SectionTokens.{SectionTokens}
use Rattle.qpu_asm.specs.Clashes.{is_wrong, clashes}
use Rattle.qpu_asm.specs.Forms.{Slot, filled, form}
use Rattle.qpu_asm.specs.Stands.{Spot, means, first_stands, moved, slots_stand, mnemonic_means, symbol_stands, part_stands, in_part, line_stands}
use Rattle.qpu_asm.specs.Faults.{token_at, token_in, IsLeft}
use Rattle.qpu_asm.specs.reader.Judging.{first_faulty}
use Rattle.qpu_asm.specs.reader.Marks.{part_marks}
use Rattle.qpu_asm.proofs.GrowLemmas.{later_marks, grows_later}
use Rattle.qpu_asm.proofs.FaultMarks.{Alike, alike_same, alike_append, alike_then}
use Rattle.qpu_asm.proofs.FaultChain.{mark_at, told}
use Rattle.qpu_asm.proofs.FaultSections.{AllMarked}

abbrev Stand : Type 0
Stand = Spot × What

-- tokens from left to right

abbrev pub AllLeft : Stand → List Stand → Type 0
AllLeft s [] = Unit {0}
AllLeft s (t ∷ ts) = IsLeft s.0.0 s.0.1 t.0.0 t.0.1 × AllLeft s ts

abbrev pub Sorted : List Stand → Type 0
Sorted [] = Unit {0}
Sorted (s ∷ ts) = AllLeft s ts × Sorted ts

-- a token judged behind others
pub record JudgedFrom (k : Judged) (before after : List Stand) (spot : Spot) : Type 0 where
  pub front : List Stand
  pub meant : What
  pub back : List Stand
  pub among : after ≡ front ++ (spot, meant) ∷ back
  pub faulty : (is_wrong k meant || list_any (λ e. clashes k e.1 meant) (before ++ front)) ≡ true

abbrev pub mark_of : (Spot → Token) → Stand → Mark
mark_of tok s = mark_at (tok s.0) s.1

any_marked : (k : Judged) (w : What) (tok : Spot → Token) (before : List Stand) → list_any (λ e. clashes k e.what w) (map (mark_of tok) before) ≡ list_any (λ e. clashes k e.1 w) before
any_marked k w tok [] = refl
any_marked k w tok (s ∷ before) = ap (λ z. clashes k s.1 w || z) (any_marked k w tok before)

pub data First (k : Judged) (tok : Spot → Token) (before after : List Stand) : Option Token → Type 0 where
  found : {t : Token} (spot : Spot) → JudgedFrom k before after spot → ((other : Spot) → JudgedFrom k before after other → IsLeft spot.0 spot.1 other.0 other.1) → t ≡ tok spot → First k tok before after (Some t)
  nowhere : ((other : Spot) → JudgedFrom k before after other → ⊥) → First k tok before after None

left_among : (s : Stand) (front : List Stand) (t : Stand) (back all : List Stand) → all ≡ front ++ t ∷ back → AllLeft s all → IsLeft s.0.0 s.0.1 t.0.0 t.0.1
left_among s front t back all e left = by front (subst (AllLeft s) e left)
  where
    by : (front : List Stand) → AllLeft s (front ++ t ∷ back) → IsLeft s.0.0 s.0.1 t.0.0 t.0.1
    by [] left = left.0
    by (f ∷ front) left = by front left.1

same_left : (s t : Spot) → s ≡ t → IsLeft s.0 s.1 t.0 t.1
same_left s t e = inr (ap (λ z. z.0) e, (let f : s.1 ≡ t.1 = ap (λ z. z.1) e in omega arith))

head_left : (k : Judged) (before : List Stand) (s : Stand) (after : List Stand) → AllLeft s after → (other : Spot) → JudgedFrom k before (s ∷ after) other → IsLeft s.0.0 s.0.1 other.0 other.1
head_left k before s after left other h = by h.front h.among
  where
    by : (front : List Stand) → s ∷ after ≡ front ++ (other, h.meant) ∷ h.back → IsLeft s.0.0 s.0.1 other.0 other.1
    by [] e = same_left s.0 other (let f : s ≡ (other, h.meant) = cc in ap (λ z. z.0) f)
    by (f ∷ front) e = left_among s front (other, h.meant) h.back after (let g : after ≡ front ++ (other, h.meant) ∷ h.back = cc in g) left

later_from : (k : Judged) (before : List Stand) (s : Stand) (after : List Stand) (spot : Spot) → JudgedFrom k (before ++ s ∷ []) after spot → JudgedFrom k before (s ∷ after) spot
later_from k before s after spot h = record {
  front = s ∷ h.front;
  meant = h.meant;
  back = h.back;
  among = ap (λ z. s ∷ z) h.among;
  faulty = (let P : List Stand → Type 0 = λ z. (is_wrong k h.meant || list_any (λ e. clashes k e.1 h.meant) z) ≡ true in subst P (append_assoc before (s ∷ []) h.front) h.faulty);
}

back_from : (k : Judged) (before : List Stand) (s : Stand) (after : List Stand) (spot : Spot) → (is_wrong k s.1 || list_any (λ e. clashes k e.1 s.1) before) ≡ false
    → JudgedFrom k before (s ∷ after) spot → JudgedFrom k (before ++ s ∷ []) after spot
back_from k before s after spot fine h = by h.front h.among h.faulty
  where
    by : (front : List Stand) → s ∷ after ≡ front ++ (spot, h.meant) ∷ h.back → (is_wrong k h.meant || list_any (λ e. clashes k e.1 h.meant) (before ++ front)) ≡ true → JudgedFrom k (before ++ s ∷ []) after spot
    by [] e f = absurd (first e f)
      where
        first : s ∷ after ≡ (spot, h.meant) ∷ h.back → (is_wrong k h.meant || list_any (λ z. clashes k z.1 h.meant) (before ++ [])) ≡ true → ⊥
        first e f =
            let same : s ≡ (spot, h.meant) = cc in
            let w : s.1 ≡ h.meant = ap (λ z. z.1) same in
            let P : What → Type 0 = λ z. (is_wrong k z || list_any (λ q. clashes k q.1 z) before) ≡ false in
            let g : (is_wrong k h.meant || list_any (λ q. clashes k q.1 h.meant) before) ≡ false = subst P w fine in
            let R : List Stand → Type 0 = λ z. (is_wrong k h.meant || list_any (λ q. clashes k q.1 h.meant) z) ≡ true in
            let f2 : (is_wrong k h.meant || list_any (λ q. clashes k q.1 h.meant) before) ≡ true = subst R (append-nil before) f in
            let bad : true ≡ false = sym f2 ∙ g in
            grind (arith, bad)
    by (f0 ∷ front) e f =
        let head : s ≡ f0 = cc in
        let tail : after ≡ front ++ (spot, h.meant) ∷ h.back = cc in
        let R : List Stand → Type 0 = λ z. (is_wrong k h.meant || list_any (λ q. clashes k q.1 h.meant) z) ≡ true in
        let P : Stand → Type 0 = λ z. R (before ++ z ∷ front) in
        record { front = front; meant = h.meant; back = h.back; among = tail; faulty = subst R (sym (append_assoc before (s ∷ []) front)) (subst P (sym head) f) }

nothing_from : (k : Judged) (before : List Stand) (spot : Spot) → JudgedFrom k before [] spot → ⊥
nothing_from k before spot h = by h.front h.among
  where
    by : (front : List Stand) → [] ≡ front ++ (spot, h.meant) ∷ h.back → ⊥
    by [] e = cc
    by (f ∷ front) e = cc

mark_more : (tok : Spot → Token) (before : List Stand) (s : Stand) → map (mark_of tok) before ++ mark_of tok s ∷ [] ≡ map (mark_of tok) (before ++ s ∷ [])
mark_more tok before s = sym (map-append (mark_of tok) before (s ∷ []))

first_by : (k : Judged) (tok : Spot → Token) (before : List Stand) (s : Stand) (after : List Stand) (b : Bool) (r : Option Token) → AllLeft s after → (is_wrong k s.1 || list_any (λ e. clashes k e.1 s.1) before) ≡ b
    → First k tok (before ++ s ∷ []) after r → First k tok before (s ∷ after) (if b then Some (tok s.0) else r)
first_by k tok before s after true r left e later =
    found s.0 (record { front = []; meant = s.1; back = after; among = refl; faulty = (let P : List Stand → Type 0 = λ z. (is_wrong k s.1 || list_any (λ q. clashes k q.1 s.1) z) ≡ true in subst P (sym (append-nil before)) e) }) (head_left k before s after left) refl
first_by k tok before s after false _ left e (found spot h least is) =
    found spot (later_from k before s after spot h) (λ other g. least other (back_from k before s after other e g)) is
first_by k tok before s after false _ left e (nowhere never) = nowhere (λ other g. never other (back_from k before s after other e g))

pub first_found : (k : Judged) (tok : Spot → Token) (before after : List Stand) → Sorted after → First k tok before after (first_faulty k (map (mark_of tok) before) (map (mark_of tok) after))
first_found k tok before [] sorted = nowhere (nothing_from k before)
first_found k tok before (s ∷ after) sorted =
    let F : List Mark → Type 0 = λ z. First k tok (before ++ s ∷ []) after (first_faulty k z (map (mark_of tok) after)) in
    let later : First k tok (before ++ s ∷ []) after (first_faulty k (map (mark_of tok) before ++ mark_of tok s ∷ []) (map (mark_of tok) after)) =
    subst F (sym (mark_more tok before s)) (first_found k tok (before ++ s ∷ []) after sorted.1) in
    first_by k tok before s after _ _ sorted.0 (ap (λ z. is_wrong k s.1 || z) (sym (any_marked k s.1 tok before))) later

-- the tokens of a line stand from left to right

abbrev AllAfter : ℕ → ℕ → List (ℕ × What) → Type 0
AllAfter i m [] = Unit {0}
AllAfter i m (s ∷ ss) = (m ≤ s.0) × AllAfter i m ss

abbrev InOrder : List (ℕ × What) → Type 0
InOrder [] = Unit {0}
InOrder (s ∷ ss) = AllAfter 0 s.0 ss × InOrder ss

moved_after : (n m : ℕ) (ss : List (ℕ × What)) → AllAfter 0 m ss → AllAfter 0 (n + m) (moved n ss)
moved_after n m [] all = tt
moved_after n m (s ∷ ss) all = ((let e : m ≤ s.0 = all.0 in omega arith), moved_after n m ss all.1)

moved_order : (n : ℕ) (ss : List (ℕ × What)) → InOrder ss → InOrder (moved n ss)
moved_order n [] order = tt
moved_order n (s ∷ ss) order = (moved_after n s.0 ss order.0, moved_order n ss order.1)

after_zero : (ss : List (ℕ × What)) → AllAfter 0 0 ss
after_zero [] = tt
after_zero (s ∷ ss) = (omega arith, after_zero ss)

first_order : (ws : List What) (ss : List (ℕ × What)) → InOrder ss → InOrder (first_stands ws ++ ss)
first_order [] ss order = order
first_order (w ∷ ws) ss order = (after_zero (first_stands ws ++ ss), first_order ws ss order)

slots_by : (mul : Bool) (s : Slot) (slots : List Slot) (before xs : List Placed) (o : Option ℕ) → ((n : ℕ) → InOrder (slots_stand mul slots (take n xs) (drop n xs)))
    → InOrder (elim o as (λ _. List (ℕ × What)) [ None ↦ [] | Some n ↦ first_stands (means mul s before xs) ++ moved n (slots_stand mul slots (take n xs) (drop n xs)) ])
slots_by mul s slots before xs None again = tt
slots_by mul s slots before xs (Some n) again = first_order (means mul s before xs) _ (moved_order n _ (again n))

slots_order : (mul : Bool) (slots : List Slot) (before xs : List Placed) → InOrder (slots_stand mul slots before xs)
slots_order mul [] before xs = tt
slots_order mul (s ∷ slots) before xs = slots_by mul s slots before xs (filled s before xs) (λ n. slots_order mul slots (take n xs) (drop n xs))

symbol_order : (mul : Bool) (s : Symbol) (rest : List Placed) → InOrder (symbol_stands mul s rest)
symbol_order mul (symbol.Name n) rest = first_order (mnemonic_means mul n) _ (moved_order 1 _ (slots_order mul (form n) [] rest))
symbol_order mul _ rest = tt

part_order : (mul : Bool) (xs : List Placed) → InOrder (part_stands mul xs)
part_order mul [] = tt
part_order mul (x ∷ rest) = symbol_order mul x.symbol rest

-- parts behind a part
abbrev Behind : ℕ → List Stand → Type 0
Behind i [] = Unit {0}
Behind i (t ∷ ts) = (i ≤ t.0.0) × Behind i ts

behind_append : (i : ℕ) (a b : List Stand) → Behind i a → Behind i b → Behind i (a ++ b)
behind_append i [] b one two = two
behind_append i (t ∷ a) b one two = (one.0, behind_append i a b one.1 two)

behind_part : (i j : ℕ) (ss : List (ℕ × What)) → i ≤ j → Behind i (in_part j ss)
behind_part i j [] le = tt
behind_part i j (s ∷ ss) le = (le, behind_part i j ss le)

behind_line : (mul : Bool) (i j : ℕ) (parts : List SectionTokens) → i ≤ j → Behind i (line_stands mul j parts)
behind_line mul i j [] le = tt
behind_line mul i j (p ∷ parts) le = behind_append i _ _ (behind_part i j (part_stands mul p.tokens) le) (behind_line true i (j + 1) parts (omega arith))

left_part : (i m : ℕ) (w : What) (ss : List (ℕ × What)) (later : List Stand) → AllAfter 0 m ss → Behind (i + 1) later → AllLeft ((i, m), w) (in_part i ss ++ later)
left_part i m w [] [] all behind = tt
left_part i m w [] (t ∷ later) all behind = (inl (let e : i + 1 ≤ t.0.0 = behind.0 in omega arith), left_part i m w [] later all behind.1)
left_part i m w (s ∷ ss) later all behind = (inr (refl, all.0), left_part i m w ss later all.1 behind)

sorted_part : (i : ℕ) (ss : List (ℕ × What)) (later : List Stand) → InOrder ss → Behind (i + 1) later → Sorted later → Sorted (in_part i ss ++ later)
sorted_part i [] later order behind sorted = sorted
sorted_part i (s ∷ ss) later order behind sorted = (left_part i s.0 s.1 ss later order.0 behind, sorted_part i ss later order.1 behind sorted)

pub line_sorted : (mul : Bool) (i : ℕ) (parts : List SectionTokens) → Sorted (line_stands mul i parts)
line_sorted mul i [] = tt
line_sorted mul i (p ∷ parts) =
    sorted_part i (part_stands mul p.tokens) (line_stands true (i + 1) parts) (part_order mul p.tokens) (behind_line true (i + 1) (i + 1) parts (omega arith)) (line_sorted true (i + 1) parts)

-- the marks of a line's parts

abbrev pub told_line : Bool → List SectionTokens → List Mark
told_line mul [] = []
told_line mul (p ∷ parts) = told p.end p.tokens (part_stands mul p.tokens) ++ told_line true parts

later_alike : (ps : List Part) (parts : List SectionTokens) → AllMarked true ps parts → Alike (later_marks ps) (told_line true parts)
later_alike [] [] all = alike_same [] [] refl
later_alike [] (s ∷ parts) all = absurd all
later_alike (p ∷ ps) [] all = absurd all
later_alike (p ∷ ps) (s ∷ parts) all =
    alike_then _ _ _ (alike_same _ _ (grows_later (part_marks true [] p) ps)) (alike_append (part_marks true [] p) (told s.end s.tokens (part_stands true s.tokens)) (later_marks ps) (told_line true parts) all.0 (later_alike ps parts all.1))

pub line_alike : (p : Part) (ps : List Part) (parts : List SectionTokens) → AllMarked false (p ∷ ps) parts → Alike (fold (part_marks true) (part_marks false [] p) ps) (told_line false parts)
line_alike p ps [] all = absurd all
line_alike p ps (s ∷ parts) all =
    alike_then _ _ _ (alike_same _ _ (grows_later (part_marks false [] p) ps)) (alike_append (part_marks false [] p) (told s.end s.tokens (part_stands false s.tokens)) (later_marks ps) (told_line true parts) all.0 (later_alike ps parts all.1))

part_told : (i : ℕ) (p : SectionTokens) (tok : Spot → Token) (ss : List (ℕ × What)) → ((m : ℕ) → tok (i, m) ≡ token_at p.end p.tokens m) → told p.end p.tokens ss ≡ map (mark_of tok) (in_part i ss)
part_told i p tok [] same = refl
part_told i p tok (s ∷ ss) same = rw (same s.0, part_told i p tok ss same) refl

pub line_told : (mul : Bool) (end : Token) (i : ℕ) (parts : List SectionTokens) (tok : Spot → Token) → ((j m : ℕ) → tok (i + j, m) ≡ token_in end parts j m) → told_line mul parts ≡ map (mark_of tok) (line_stands mul i parts)
line_told mul end i [] tok same = refl
line_told mul end i (p ∷ parts) tok same =
    let here : (m : ℕ) → tok (i, m) ≡ token_at p.end p.tokens m = λ m. ap (λ z. tok (z, m)) (let e : i ≡ i + 0 = omega arith in e) ∙ same 0 m in
    let later : (j m : ℕ) → tok (i + 1 + j, m) ≡ token_in end parts j m = λ j m. ap (λ z. tok (z, m)) (let e : i + 1 + j ≡ i + suc j = omega arith in e) ∙ same (suc j) m in
    rw (part_told i p tok (part_stands mul p.tokens) here, line_told true end (i + 1) parts tok later) (sym (map-append (mark_of tok) (in_part i (part_stands mul p.tokens)) (line_stands true (i + 1) parts)))
