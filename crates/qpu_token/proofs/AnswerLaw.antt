-- A text has one answer.
use Rattle.std.proofs.Common.{◌≡◌, ◌≢◌, ◌⊎◌, ℕ, suc, ◌+◌, ◌<◌, ◌≤◌, Bool, true, false, List, [], ◌∷◌, ◌++◌, length, take, drop, Ok, Err, refl, ap, sym, subst, ◌∙◌, inl, inr, append_assoc, arith}
use Rattle.std.specs.Prelude.{All, nat_lt}
use Rattle.std.proofs.lemmas.List.Elements.{All-cons, All-append}
use Rattle.std.proofs.lemmas.Bool.Decides.{nat_tests}
use Rattle.qpu_token.specs.declared.fault.AsmKind.{AsmKind}
use Rattle.qpu_token.specs.declared.fault.AsmKind.TheVariants.{BadByte, NumberTooLarge, Memory}
use Rattle.qpu_token.specs.declared.fault.AsmFault.{AsmFault}
use Rattle.qpu_token.specs.declared.token.Token.{Token}
use Rattle.qpu_token.specs.declared.piece.Shape.{Shape}
use Rattle.qpu_token.specs.declared.piece.Shape.TheVariants.{Blank, Comment, Name, Number, Sign, LineEnd}
use Rattle.qpu_token.specs.declared.before.Before.{Before}
use Rattle.qpu_token.specs.declared.before.Before.TheVariants.{Other}
use Rattle.qpu_token.specs.declared.place.Place.{Place}
use Rattle.qpu_token.specs.Places.{place_at}
use Rattle.qpu_token.specs.Tokens.{dotted, Begins, told, Cut, at_start, on, last_end, AreTokens, text_of, after_text, before_of, fits, AllFit}
use Rattle.qpu_token.specs.Faults.{IsBadByte, IsLineDone, IsTooLarge, FaultOf}
use Rattle.qpu_token.specs.Reading.{place_behind}
use Rattle.qpu_token.specs.OneAnswer.{HasOneAnswer}
use Rattle.qpu_token.proofs.PlaceLemmas.{place_on}
use Rattle.qpu_token.proofs.ReadLemmas.{end_inside}
use Rattle.qpu_token.proofs.CutLaw.{Ahead, arrived, step, ahead_of, joined, one_cut, stands_still, one_shape}

true_false : (b : Bool) → b ≡ true → b ≡ false → ⊥
true_false b here there = cc

cut_inside : {text : List ℕ} {ts : List Token} {at : ℕ} → Cut text ts at → at ≤ length text
cut_inside at_start = omega arith
cut_inside {text} (on shape n cut begins) = end_inside text _ _ n shape (cut_inside cut) begins

-- numbers that fit

fit_at : (text : List ℕ) (before : Before) (front : List Token) (token : Token) (more : List Token) → AllFit text before (front ++ token ∷ more) → fits (before_of text before front) token.kind ≡ true
fit_at text before [] token more fit = fit.0
fit_at text before (t ∷ front) token more fit = fit_at text (after_text before (text_of text t)) front token more fit.1

heads : (x y : Token) (xs ys : List Token) → ◌≡◌ {A = List Token} (x ∷ xs) (y ∷ ys) → x ≡ y
heads x y xs ys e = cc

tails : (x y : Token) (xs ys : List Token) → ◌≡◌ {A = List Token} (x ∷ xs) (y ∷ ys) → xs ≡ ys
tails x y xs ys e = cc

-- the first number that doesn't fit is one
first_unfit : (text : List ℕ) (before : Before) (xs ys : List Token) (x y : Token) (rest more : List Token) → AllFit text before xs → fits (before_of text before xs) x.kind ≡ false → AllFit text before ys → fits (before_of text before ys) y.kind ≡ false → ◌≡◌ {A = List Token} (xs ++ x ∷ rest) (ys ++ y ∷ more) → x ≡ y
first_unfit text before [] [] x y rest more p u q v e = heads x y rest more e
first_unfit text before [] (y' ∷ ys) x y rest more p u q v e =
    absurd (true_false (fits before x.kind) (subst (λ t. fits before t.kind ≡ true) (sym (heads x y' rest (ys ++ y ∷ more) e)) q.0) u)
first_unfit text before (x' ∷ xs) [] x y rest more p u q v e =
    absurd (true_false (fits before y.kind) (subst (λ t. fits before t.kind ≡ true) (heads x' y (xs ++ x ∷ rest) more e) p.0) v)
first_unfit text before (x' ∷ xs) (y' ∷ ys) x y rest more p u q v e =
    let same = heads x' y' (xs ++ x ∷ rest) (ys ++ y ∷ more) e in
    let before_same : after_text before (text_of text y') ≡ after_text before (text_of text x') = ap (λ t. after_text before (text_of text t)) (sym same) in
    first_unfit text (after_text before (text_of text x')) xs ys x y rest more p.1 u
    (subst (λ b. AllFit text b ys) before_same q.1)
    (subst (λ b. fits (before_of text b ys) y.kind ≡ false) before_same v)
    (tails x' y' (xs ++ x ∷ rest) (ys ++ y ∷ more) e)

all_at : (P : Token → Type 0) (front : List Token) (token : Token) (more : List Token) → All P (front ++ token ∷ more) → P token
all_at P [] token more all = all 0 token (omega arith)
all_at P (t ∷ front) token more all = all_at P front token more (λ k d low. all (suc k) d (omega arith))

-- a number that doesn't fit stands behind a front in which all fit
unfit_behind : (text : List ℕ) (P : Token → Type 0) (before : Before) (front back ys : List Token) (y : Token) (more : List Token) → AllFit text before front → fits (before_of text before ys) y.kind ≡ false → ◌≡◌ {A = List Token} (front ++ back) (ys ++ y ∷ more) → All P back → P y
unfit_behind text P before [] back ys y more p v e all = all_at P ys y more (subst (λ ts. All P ts) e all)
unfit_behind text P before (x ∷ front) back [] y more p v e all =
    absurd (true_false (fits before y.kind) (subst (λ t. fits before t.kind ≡ true) (heads x y (front ++ back) more e) p.0) v)
unfit_behind text P before (x ∷ front) back (y' ∷ ys) y more p v e all =
    let same = heads x y' (front ++ back) (ys ++ y ∷ more) e in
    let before_same : after_text before (text_of text y') ≡ after_text before (text_of text x) = ap (λ t. after_text before (text_of text t)) (sym same) in
    unfit_behind text P (after_text before (text_of text x)) front back ys y more p.1
    (subst (λ b. fits (before_of text b ys) y.kind ≡ false) before_same v)
    (tails x y' (front ++ back) (ys ++ y ∷ more) e) all

-- lines

line_behind : (place : Place) (shape : Shape) (word : List ℕ) → place.line ≤ (place_behind place shape word).line
line_behind place Blank word = omega arith
line_behind place Comment word = omega arith
line_behind place Name word = omega arith
line_behind place Number word = omega arith
line_behind place Sign word = omega arith
line_behind place LineEnd word = omega arith

line_on : (text : List ℕ) (at n : ℕ) (shape : Shape) → Begins (dotted text at) shape n (drop at text) → (place_at text at).line ≤ (place_at text (at + n)).line
line_on text at n shape begins = rw (place_on text (dotted text at) at n shape begins.word) (line_behind (place_at text at) shape (take n (drop at text)))

line_ahead : {text : List ℕ} {a b : ℕ} {ts : List Token} → Ahead text a ts b → (place_at text a).line ≤ (place_at text b).line
line_ahead arrived = omega arith
line_ahead {text} {a} {b} {ts} (step shape n begins ahead) =
    let here = line_on text a n shape begins in let later = line_ahead ahead in omega arith

told_below : (text : List ℕ) (at n line : ℕ) (shape : Shape) → (place_at text at).line ≤ line → All (λ t. t.line ≤ line) (told text at n shape)
told_below text at n line Blank le = λ k d low. absurd (omega arith)
told_below text at n line Comment le = λ k d low. absurd (omega arith)
told_below text at n line Name le = All-cons (λ t. t.line ≤ line) _ [] le (λ k d low. absurd (omega arith))
told_below text at n line Number le = All-cons (λ t. t.line ≤ line) _ [] le (λ k d low. absurd (omega arith))
told_below text at n line Sign le = All-cons (λ t. t.line ≤ line) _ [] le (λ k d low. absurd (omega arith))
told_below text at n line LineEnd le = All-cons (λ t. t.line ≤ line) _ [] le (λ k d low. absurd (omega arith))

-- no token of a front stands in a later line
cut_below : {text : List ℕ} {ts : List Token} {at : ℕ} → Cut text ts at → (line : ℕ) → (place_at text at).line ≤ line → All (λ t. t.line ≤ line) ts
cut_below at_start line le = λ k d low. absurd (omega arith)
cut_below {text} (on {tokens = front} {at = at} shape n cut begins) line le =
    let here = line_on text at n shape begins in
    All-append (λ t. t.line ≤ line) front (told text at n shape) (cut_below cut line (omega arith)) (told_below text at n line shape (omega arith))

-- two answers

no_bad : (text : List ℕ) (ts : List Token) (line column : ℕ) → AreTokens text ts → IsBadByte text line column → ⊥
no_bad text ts line column are bad =
    let some = bad.some in
    let r = joined (ahead_of bad.cut) (ahead_of are.cut) (omega arith) in
    let still = stands_still r.2 bad.nothing in
    omega arith

no_large : (text : List ℕ) (ts : List Token) (line column : ℕ) → AreTokens text ts → IsTooLarge text line column → ⊥
no_large text ts line column are large =
    let r = joined (ahead_of large.cut) (ahead_of are.cut) (cut_inside large.cut) in
    let whole : are.written ≡ large.front ++ large.token ∷ (large.back ++ r.0) = r.1 ∙ append_assoc large.front (large.token ∷ large.back) r.0 in
    true_false _ (fit_at text Other large.front large.token (large.back ++ r.0) (subst (λ vs. AllFit text Other vs) whole are.fit)) large.large

same_bad : (text : List ℕ) (l c m d : ℕ) → IsBadByte text l c → IsBadByte text m d → (l ≡ m) × (c ≡ d)
same_bad text l c m d p q =
    let places : ◌≡◌ {A = Place} (record { line = l; column = c }) (record { line = m; column = d }) = sym p.place ∙ (ap (place_at text) same_at ∙ q.place) in
    (ap (λ place. place.line) places, ap (λ place. place.column) places)
  where
    by_less : (b : Bool) → nat_lt p.at q.at ≡ b → p.at ≡ q.at
    by_less true e = sym (stands_still (joined (ahead_of p.cut) (ahead_of q.cut) (grind (arith, nat_tests, e))).2 p.nothing)
    by_less false e = stands_still (joined (ahead_of q.cut) (ahead_of p.cut) (grind (arith, nat_tests, e))).2 q.nothing

    same_at : p.at ≡ q.at
    same_at = by_less (nat_lt p.at q.at) refl

same_large_after : (text : List ℕ) (l c m d : ℕ) (p : IsTooLarge text l c) (q : IsTooLarge text m d) → p.at ≤ q.at → p.token ≡ q.token
same_large_after text l c m d p q le =
    let r = joined (ahead_of p.cut) (ahead_of q.cut) le in
    sym (first_unfit text Other q.front p.front q.token p.token q.back (p.back ++ r.0) q.fit q.large p.fit p.large (r.1 ∙ append_assoc p.front (p.token ∷ p.back) r.0))

same_large : (text : List ℕ) (l c m d : ℕ) → IsTooLarge text l c → IsTooLarge text m d → (l ≡ m) × (c ≡ d)
same_large text l c m d p q = (
  sym (all_at (λ t. t.line ≡ l) [] p.token p.back p.same_line) ∙ (ap (λ t. t.line) same_token ∙ all_at (λ t. t.line ≡ m) [] q.token q.back q.same_line),
  sym p.column_is ∙ (ap (λ t. t.column) same_token ∙ q.column_is),
)
  where
    by_less : (b : Bool) → nat_lt p.at q.at ≡ b → p.token ≡ q.token
    by_less true e = same_large_after text l c m d p q (grind (arith, nat_tests, e))
    by_less false e = sym (same_large_after text m d l c q p (grind (arith, nat_tests, e)))

    same_token : p.token ≡ q.token
    same_token = by_less (nat_lt p.at q.at) refl

-- from the end of a line on, another line comes
line_after : {text : List ℕ} {a b : ℕ} {ts : List Token} (n : ℕ) → Begins (dotted text a) LineEnd n (drop a text) → Ahead text a ts b → a < b → (place_at text a).line < (place_at text b).line
line_after n ends arrived less = absurd (omega arith)
line_after {text} {a} {b} {ts} n ends (step shape m begins ahead) less =
    let later = line_ahead ahead in
    let next : (place_at text (a + m)).line ≡ (place_at text a).line + 1 = next_line shape (one_shape (dotted text a) shape LineEnd m n (drop a text) begins ends) begins in
    omega arith
  where
    next_line : (shape : Shape) → shape ≡ LineEnd → Begins (dotted text a) shape m (drop a text) → (place_at text (a + m)).line ≡ (place_at text a).line + 1
    next_line shape is begins =
        ap (λ place. place.line) (place_on text (dotted text a) a m shape begins.word) ∙ ap (λ s. (place_behind (place_at text a) s (take m (drop a text))).line) is

not_both_behind : (text : List ℕ) (l c m d : ℕ) (p : IsBadByte text l c) (q : IsTooLarge text m d) → q.at ≤ p.at → ⊥
not_both_behind text l c m d p q le = by_done q.done
  where
    r : (vs : List Token) × ((p.front ++ p.back) ≡ (q.front ++ q.token ∷ q.back) ++ vs) × Ahead text q.at vs p.at
    r = joined (ahead_of q.cut) (ahead_of p.cut) le

    in_line : q.token.line ≡ l
    in_line = unfit_behind text (λ t. t.line ≡ l) Other p.front p.back q.front q.token (q.back ++ r.0) p.fit q.large (r.1 ∙ append_assoc q.front (q.token ∷ q.back) r.0) p.same_line

    below : q.token.line ≤ (place_at text q.at).line
    below = all_at (λ t. t.line ≤ (place_at text q.at).line) q.front q.token q.back (cut_below q.cut (place_at text q.at).line (omega arith))

    line_there : (place_at text p.at).line ≡ l
    line_there = ap (λ place. place.line) p.place

    by_less : (b : Bool) → nat_lt q.at p.at ≡ b → (n : ℕ) → Begins (dotted text q.at) LineEnd n (drop q.at text) → ⊥
    by_less true e n ends = let less = line_after n ends r.2 (grind (arith, nat_tests, e)) in omega (arith, in_line, below, line_there)
    by_less false e n ends =
        let same : q.at ≡ p.at = grind (arith, nat_tests, e, le) in
        let here : Begins (dotted text p.at) LineEnd n (drop p.at text) = subst (λ at. Begins (dotted text at) LineEnd n (drop at text)) same ends in
        true_false _ here.word (p.nothing LineEnd n here.inside)

    by_done : IsLineDone text q.at → ⊥
    by_done (inl end) = let some = p.some in omega arith
    by_done (inr begins) = by_less (nat_lt q.at p.at) refl begins.0 begins.1

not_both : (text : List ℕ) (l c m d : ℕ) → IsBadByte text l c → IsTooLarge text m d → ⊥
not_both text l c m d p q = not_both_behind text l c m d p q (by_less (nat_lt p.at q.at) refl)
  where
    by_less : (b : Bool) → nat_lt p.at q.at ≡ b → q.at ≤ p.at
    by_less true e = let still = stands_still (joined (ahead_of p.cut) (ahead_of q.cut) (grind (arith, nat_tests, e))).2 p.nothing in omega arith
    by_less false e = grind (arith, nat_tests, e)

-- the kinds of this stage
Staged : List ℕ → AsmKind → ℕ → ℕ → Type 0
Staged text kind line column = (IsBadByte text line column × (kind ≡ BadByte)) ⊎ (IsTooLarge text line column × (kind ≡ NumberTooLarge))

staged : (text : List ℕ) (kind : AsmKind) (line column : ℕ) → FaultOf text kind line column → kind ≢ Memory → Staged text kind line column
unfolding Staged
staged text BadByte line column h other = inl (h, refl)
staged text NumberTooLarge line column h other = inr (h, refl)
staged text Memory line column h other = absurd (other refl)
staged text _ line column h other = absurd h

fault_same : (e f : AsmFault) → e.kind ≡ f.kind → e.line ≡ f.line → e.column ≡ f.column → e ≡ f
fault_same e f p q r =
    ap (λ k. the_fault k e.line e.column) p ∙ (ap (λ l. the_fault f.kind l e.column) q ∙ ap (λ c. the_fault f.kind f.line c) r)
  where
    the_fault : AsmKind → ℕ → ℕ → AsmFault
    the_fault k l c = record { kind = k; line = l; column = c }

same_fault : (text : List ℕ) (e f : AsmFault) → Staged text e.kind e.line e.column → Staged text f.kind f.line f.column → e ≡ f
unfolding Staged
same_fault text e f (inl p) (inl q) =
    let same = same_bad text e.line e.column f.line f.column p.0 q.0 in fault_same e f (p.1 ∙ sym q.1) same.0 same.1
same_fault text e f (inl p) (inr q) = absurd (not_both text e.line e.column f.line f.column p.0 q.0)
same_fault text e f (inr p) (inl q) = absurd (not_both text f.line f.column e.line e.column q.0 p.0)
same_fault text e f (inr p) (inr q) =
    let same = same_large text e.line e.column f.line f.column p.0 q.0 in fault_same e f (p.1 ∙ sym q.1) same.0 same.1

no_fault : (text : List ℕ) (ts : List Token) (kind : AsmKind) (line column : ℕ) → AreTokens text ts → Staged text kind line column → ⊥
unfolding Staged
no_fault text ts kind line column are (inl p) = no_bad text ts line column are p.0
no_fault text ts kind line column are (inr p) = no_large text ts line column are p.0

same_tokens : (text : List ℕ) (ts us : List Token) → AreTokens text ts → AreTokens text us → ts ≡ us
same_tokens text ts us p q = p.whole ∙ (ap (λ vs. vs ++ last_end text) (one_cut p.cut q.cut) ∙ sym q.whole)

pub one_answer : HasOneAnswer
one_answer text (Ok ts) (Ok us) p q = ap Ok (same_tokens text ts us p q)
one_answer text (Ok ts) (Err f) p q = absurd (no_fault text ts f.kind f.line f.column p (staged text f.kind f.line f.column q.0 q.1))
one_answer text (Err e) (Ok us) p q = absurd (no_fault text us e.kind e.line e.column q (staged text e.kind e.line e.column p.0 p.1))
one_answer text (Err e) (Err f) p q =
    ap Err (same_fault text e f (staged text e.kind e.line e.column p.0 p.1) (staged text f.kind f.line f.column q.0 q.1))
