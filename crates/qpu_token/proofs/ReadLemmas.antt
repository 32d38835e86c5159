-- Reading on by one word leads from the tokens of a front of the text to those of a longer one.
use Rattle.std.proofs.Common.{◌≡◌, ℕ, zero, suc, ◌+◌, ◌-◌, ◌<◌, ◌≤◌, Bool, true, false, List, [], ◌∷◌, ◌++◌, length, take, drop, refl, ap, sym, subst, ◌∙◌, append-nil, append_assoc, arith}
use Rattle.std.specs.Prelude.{nat_lt, if◌then◌else◌}
use Rattle.std.proofs.lemmas.List.{length-take-le, length-drop}
use Rattle.std.proofs.lemmas.List.Elements.{All-cons, All-append}
use Rattle.std.proofs.lemmas.List.Sums.{fold-append}
use Rattle.std.proofs.lemmas.Bool.Decides.{nat_tests}
use Rattle.qpu_token.specs.declared.token.TokenKind.{TokenKind}
use Rattle.qpu_token.specs.declared.token.TokenKind.TheVariants as kind
use Rattle.qpu_token.specs.declared.token.Token.{Token}
use Rattle.qpu_token.specs.declared.piece.Shape.{Shape}
use Rattle.qpu_token.specs.declared.piece.Shape.TheVariants.{Blank, Comment, Name, Number, Sign, LineEnd}
use Rattle.qpu_token.specs.declared.before.Before.{Before}
use Rattle.qpu_token.specs.declared.before.Before.TheVariants.{Other}
use Rattle.qpu_token.specs.declared.place.Place.{Place}
use Rattle.qpu_token.specs.declared.here.Here.{Here}
use Rattle.qpu_token.specs.declared.turn.Turn.TheVariants.{Told, TooLarge}
use Rattle.qpu_text.specs.Numbers.{number_value}
use Rattle.qpu_token.specs.Words.{is_word}
use Rattle.qpu_token.specs.Places.{place_at}
use Rattle.qpu_token.specs.Tokens.{dotted, Begins, NothingBegins, token_at, told, Cut, at_start, on, text_of, after_text, before_of, bound, fits, AllFit}
use Rattle.qpu_token.specs.Faults.{InLine, IsBadByte, IsLineDone, IsTooLarge}
use Rattle.qpu_token.specs.Reading.{place_behind, before_behind, after_piece, token_here, Moved, IsRead, turn_of, IsLarge, TurnTaken, IsPastLarge}
use Rattle.qpu_token.proofs.PlaceLemmas.{place_on}

-- the text of a token

text_of-token_at : (text : List ℕ) (at n : ℕ) (kind : TokenKind) → text_of text (token_at text at n kind) ≡ take n (drop at text)
text_of-token_at text at n kind = let same : at + n - at ≡ n = omega arith in rw same refl

before_told : (text : List ℕ) (before : Before) (at n : ℕ) (shape : Shape) → before_behind before shape (take n (drop at text)) ≡ before_of text before (told text at n shape)
before_told text before at n Blank = refl
before_told text before at n Comment = refl
before_told text before at n Name = ap (after_text before) (sym (text_of-token_at text at n kind.Name))
before_told text before at n Number = ap (after_text before) (sym (text_of-token_at text at n (kind.Number (number_value (take n (drop at text))))))
before_told text before at n Sign = ap (after_text before) (sym (text_of-token_at text at n kind.Punct))
before_told text before at n LineEnd = ap (after_text before) (sym (text_of-token_at text at n kind.LineEnd))

word_long : (text : List ℕ) (after : Bool) (at n : ℕ) (shape : Shape) → Begins after shape n (drop at text) → length (take n (drop at text)) ≡ n
word_long text after at n shape begins = length-take-le n (drop at text) begins.inside

moved : (text : List ℕ) (here : Here) (shape : Shape) (n : ℕ) → here.place ≡ place_at text here.at → Begins (dotted text here.at) shape n (drop here.at text) → Moved text here (after_piece here shape (take n (drop here.at text))) (told text here.at n shape)
moved text here shape n place begins =
    let long = word_long text (dotted text here.at) here.at n shape begins in
    record {
      shape = shape;
      n = n;
      begins = begins;
      at = ap (λ k. here.at + k) long;
      place = rw (long, place_on text (dotted text here.at) here.at n shape begins.word, place) refl;
      before = before_told text here.before here.at n shape;
      told_is = refl;
    }

-- a token from here
token_same : (text : List ℕ) (here : Here) (n m : ℕ) (kind : TokenKind) → here.place ≡ place_at text here.at → m ≡ n → token_at text here.at n kind ≡ token_here here kind (here.at + m)
token_same text here n m kind place same = rw (place, same) refl

retold : (text : List ℕ) (here next : Here) (us vs : List Token) → us ≡ vs → Moved text here next us → Moved text here next vs
retold text here next us vs same m = subst (λ ts. Moved text here next ts) same m

turned_number : (text : List ℕ) (here : Here) (n : ℕ) → here.place ≡ place_at text here.at → Begins (dotted text here.at) Number n (drop here.at text) → TurnTaken text here (turn_of here Number (take n (drop here.at text)))
turned_number text here n place begins = by_bound (nat_lt (number_value word) (bound here.before)) refl
  where
    word : List ℕ
    word = take n (drop here.at text)

    by_bound : (b : Bool) → nat_lt (number_value word) (bound here.before) ≡ b → TurnTaken text here (if b then Told (token_here here (kind.Number (number_value word)) (here.at + length word)) (after_piece here Number word) else TooLarge (after_piece here Number word))
    by_bound true e =
        (retold text here _ _ _ (ap (λ t. t ∷ []) (token_same text here n _ (kind.Number (number_value word)) place (word_long text (dotted text here.at) here.at n Number begins))) (moved text here Number n place begins), e)
    by_bound false e = record {
      n = number_value word;
      moved = retold text here _ _ _ (ap (λ t. t ∷ []) (token_same text here n _ (kind.Number (number_value word)) place (word_long text (dotted text here.at) here.at n Number begins))) (moved text here Number n place begins);
      large = grind (arith, nat_tests, e);
      same_line = refl;
    }

pub turned : (text : List ℕ) (here : Here) (shape : Shape) (n : ℕ) → here.place ≡ place_at text here.at → Begins (dotted text here.at) shape n (drop here.at text) → TurnTaken text here (turn_of here shape (take n (drop here.at text)))
turned text here Blank n place begins = moved text here Blank n place begins
turned text here Comment n place begins = moved text here Comment n place begins
turned text here Name n place begins =
    (retold text here _ _ _ (ap (λ t. t ∷ []) (token_same text here n _ kind.Name place (word_long text (dotted text here.at) here.at n Name begins))) (moved text here Name n place begins), refl)
turned text here Number n place begins = turned_number text here n place begins
turned text here Sign n place begins =
    (retold text here _ _ _ (ap (λ t. t ∷ []) (token_same text here n _ kind.Punct place (word_long text (dotted text here.at) here.at n Sign begins))) (moved text here Sign n place begins), refl)
turned text here LineEnd n place begins =
    (retold text here _ _ _ (ap (λ t. t ∷ []) (token_same text here n _ kind.LineEnd place (word_long text (dotted text here.at) here.at n LineEnd begins))) (moved text here LineEnd n place begins), refl)

-- a word has a byte

no_empty : (after : Bool) (shape : Shape) → is_word after shape [] ≡ true → ⊥
no_empty after Blank t = cc
no_empty after Comment t = cc
no_empty after Name t = cc
no_empty true Number t = cc
no_empty false Number t = cc
no_empty after Sign t = cc
no_empty after LineEnd t = cc

pub word_some : (after : Bool) (shape : Shape) (n : ℕ) (rest : List ℕ) → is_word after shape (take n rest) ≡ true → 0 < n
word_some after shape zero rest t = absurd (no_empty after shape t)
word_some after shape (suc n) rest t = omega arith

pub moves_on : (text : List ℕ) (here next : Here) (us : List Token) → Moved text here next us → here.at < next.at
moves_on text here next us m = let some = word_some _ m.shape m.n _ m.begins.word in omega (arith, m.at)

-- the next tokens

AllFit-append : (text : List ℕ) (before : Before) (xs ys : List Token) → AllFit text before xs → AllFit text (before_of text before xs) ys → AllFit text before (xs ++ ys)
AllFit-append text before [] ys p q = q
AllFit-append text before (x ∷ xs) ys p q = (p.0, AllFit-append text (after_text before (text_of text x)) xs ys p.1 q)

-- the end of a word is inside the text
pub end_inside : (text : List ℕ) (after : Bool) (at n : ℕ) (shape : Shape) → at ≤ length text → Begins after shape n (drop at text) → at + n ≤ length text
end_inside text after at n shape inside begins = omega (arith, begins.inside, length-drop at text)

cut_more : (text : List ℕ) (here next : Here) (ts us : List Token) → Cut text ts here.at → Moved text here next us → Cut text (ts ++ us) next.at
cut_more text here next ts us cut m =
    let longer : Cut text (ts ++ told text here.at m.n m.shape) (here.at + m.n) = on m.shape m.n cut m.begins in
    subst (λ k. Cut text (ts ++ us) k) (sym m.at)
    (subst (λ vs. Cut text (ts ++ vs) (here.at + m.n)) m.told_is longer)

read_more : (text : List ℕ) (here next : Here) (ts us : List Token) → IsRead text ts here → Moved text here next us → AllFit text here.before us → IsRead text (ts ++ us) next
read_more text here next ts us r m fit = record {
  cut = cut_more text here next ts us r.cut m;
  fit = AllFit-append text Other ts us r.fit (subst (λ b. AllFit text b us) r.before fit);
  before = m.before ∙ (ap (λ b. before_of text b us) r.before ∙ sym (fold-append (λ before token. after_text before (text_of text token)) Other ts us));
  place = m.place;
  inside = let end = end_inside text _ here.at m.n m.shape r.inside m.begins in omega (arith, m.at);
}

-- nothing is read
pub read_nothing : (text : List ℕ) → IsRead text [] (record { at = 0; place = record { line = 1; column = 1 }; before = Other })
unfolding place_at
read_nothing text = record { cut = at_start; fit = tt; before = refl; place = refl; inside = omega arith }

pub read_passed : (text : List ℕ) (here next : Here) (ts : List Token) → IsRead text ts here → Moved text here next [] → IsRead text ts next
read_passed text here next ts r m = subst (λ vs. IsRead text vs next) (append-nil ts) (read_more text here next ts [] r m tt)

pub read_told : (text : List ℕ) (here next : Here) (ts : List Token) (t : Token) → IsRead text ts here → Moved text here next (t ∷ []) → fits here.before t.kind ≡ true → IsRead text (ts ++ t ∷ []) next
read_told text here next ts t r m fit = read_more text here next ts (t ∷ []) r m (fit, tt)

-- tokens in a line

none_in : (line : ℕ) → InLine line []
none_in line = λ k d low. absurd (omega arith)

one_in : (line : ℕ) (token : Token) → token.line ≡ line → InLine line (token ∷ [])
one_in line token is = All-cons (λ t. t.line ≡ line) token [] is (none_in line)

-- faults

pub bad_byte : (text : List ℕ) (here : Here) (ts : List Token) → IsRead text ts here → here.at < length text → NothingBegins (dotted text here.at) (drop here.at text) → IsBadByte text here.place.line here.place.column
bad_byte text here ts r some nothing = record {
  front = ts;
  back = [];
  at = here.at;
  cut = subst (λ vs. Cut text vs here.at) (sym (append-nil ts)) r.cut;
  fit = r.fit;
  same_line = none_in _;
  some = some;
  nothing = nothing;
  place = sym r.place;
}

pub past_large : (text : List ℕ) (here next : Here) (ts : List Token) → IsRead text ts here → IsLarge text here next → IsPastLarge text here.place next.at
past_large text here next ts r large = record {
  front = ts;
  token = token_here here (kind.Number large.n) next.at;
  back = [];
  cut = cut_more text here next ts _ r.cut large.moved;
  fit = r.fit;
  unfit = let above = large.large in rw (← r.before) (grind (arith, nat_tests, above));
  same_line = one_in _ _ refl;
  column_is = refl;
  line_is = ap (λ p. p.line) (sym large.moved.place) ∙ large.same_line;
  inside = let end = end_inside text _ here.at large.moved.n large.moved.shape r.inside large.moved.begins in omega (arith, large.moved.at);
}

told_line : (text : List ℕ) (at n : ℕ) (shape : Shape) → InLine (place_at text at).line (told text at n shape)
told_line text at n Blank = none_in _
told_line text at n Comment = none_in _
told_line text at n Name = one_in _ _ refl
told_line text at n Number = one_in _ _ refl
told_line text at n Sign = one_in _ _ refl
told_line text at n LineEnd = one_in _ _ refl

same_line_behind : (place : Place) (shape : Shape) (word : List ℕ) → (shape ≡ LineEnd → ⊥) → (place_behind place shape word).line ≡ place.line
same_line_behind place Blank word other = refl
same_line_behind place Comment word other = refl
same_line_behind place Name word other = refl
same_line_behind place Number word other = refl
same_line_behind place Sign word other = refl
same_line_behind place LineEnd word other = absurd (other refl)

pub past_more : (text : List ℕ) (large : Place) (at n : ℕ) (shape : Shape) → IsPastLarge text large at → Begins (dotted text at) shape n (drop at text) → (shape ≡ LineEnd → ⊥) → IsPastLarge text large (at + n)
past_more text large at n shape p begins other = record {
  front = p.front;
  token = p.token;
  back = p.back ++ told text at n shape;
  cut = subst (λ vs. Cut text vs (at + n)) (append_assoc p.front (p.token ∷ p.back) (told text at n shape)) (on shape n p.cut begins);
  fit = p.fit;
  unfit = p.unfit;
  same_line = All-append (λ t. t.line ≡ large.line) (p.token ∷ p.back) (told text at n shape) p.same_line (subst (λ line. InLine line (told text at n shape)) p.line_is (told_line text at n shape));
  column_is = p.column_is;
  line_is = ap (λ q. q.line) (place_on text (dotted text at) at n shape begins.word) ∙ (same_line_behind (place_at text at) shape (take n (drop at text)) other ∙ p.line_is);
  inside = end_inside text _ at n shape p.inside begins;
}

pub past_bad : (text : List ℕ) (large : Place) (at : ℕ) → IsPastLarge text large at → at < length text → NothingBegins (dotted text at) (drop at text) → IsBadByte text (place_at text at).line (place_at text at).column
past_bad text large at p some nothing = record {
  front = p.front;
  back = p.token ∷ p.back;
  at = at;
  cut = p.cut;
  fit = p.fit;
  same_line = subst (λ line. InLine line (p.token ∷ p.back)) (sym p.line_is) p.same_line;
  some = some;
  nothing = nothing;
  place = refl;
}

pub past_done : (text : List ℕ) (large : Place) (at : ℕ) → IsPastLarge text large at → IsLineDone text at → IsTooLarge text large.line large.column
past_done text large at p done = record {
  front = p.front;
  token = p.token;
  back = p.back;
  at = at;
  cut = p.cut;
  fit = p.fit;
  large = p.unfit;
  same_line = p.same_line;
  done = done;
  column_is = p.column_is;
}

-- the place behind a word that ends no line
pub place_further : (text : List ℕ) (at n : ℕ) (shape : Shape) → Begins (dotted text at) shape n (drop at text) → (shape ≡ LineEnd → ⊥) → place_at text (at + n) ≡ record { line = (place_at text at).line; column = (place_at text at).column + n }
place_further text at n shape begins other =
    place_on text (dotted text at) at n shape begins.word ∙ by_shape shape (take n (drop at text)) (word_long text _ at n shape begins) other
  where
    by_shape : (shape : Shape) (word : List ℕ) → length word ≡ n → (shape ≡ LineEnd → ⊥) → place_behind (place_at text at) shape word ≡ record { line = (place_at text at).line; column = (place_at text at).column + n }
    by_shape Blank word long other = rw long refl
    by_shape Comment word long other = rw long refl
    by_shape Name word long other = rw long refl
    by_shape Number word long other = rw long refl
    by_shape Sign word long other = rw long refl
    by_shape LineEnd word long other = absurd (other refl)
