-- A text is cut in one way.
use Rattle.std.proofs.Common.{◌≡◌, ℕ, zero, suc, ◌+◌, ◌<◌, ◌≤◌, Bool, true, false, ◌&&◌, ◌||◌, List, [], ◌∷◌, ◌++◌, take, drop, refl, ap, sym, subst, ◌∙◌, append-nil, append_assoc, arith}
use Rattle.std.specs.Prelude.{◌==◌, nat_lt, if◌then◌else◌}
use Rattle.std.proofs.lemmas.Bool.Decides.{nat_tests}
use Rattle.qpu_token.specs.declared.token.Token.{Token}
use Rattle.qpu_token.specs.declared.piece.Shape.{Shape}
use Rattle.qpu_token.specs.declared.piece.Shape.TheVariants.{Blank, Comment, Name, Number, Sign, LineEnd}
use Rattle.qpu_text.specs.Bytes.{is_letter, is_digit, is_blank}
use Rattle.qpu_token.specs.Words.{is_sign_byte, is_word}
use Rattle.qpu_token.specs.Tokens.{dotted, Begins, NothingBegins, told, Cut, at_start, on}
use Rattle.qpu_token.proofs.ReadLemmas.{word_some}

-- the first byte tells the shape

abbrev first_shape : Bool → ℕ → Shape
first_shape after byte =
    if is_letter byte || (after && is_digit byte) then Name
    else if is_digit byte then Number
    else if byte == 35 then Comment
    else if is_blank byte then Blank
    else if (byte == 10) || (byte == 13) then LineEnd
    else Sign

no_name : (after : Bool) (byte : ℕ) → is_letter byte ≡ false → is_digit byte ≡ false → (is_letter byte || (after && is_digit byte)) ≡ false
no_name true byte p q = rw (p, q) refl
no_name false byte p q = rw p refl

blank_first : (after : Bool) (byte : ℕ) → is_blank byte ≡ true → Blank ≡ first_shape after byte
blank_first after byte t =
    let p : is_letter byte ≡ false = grind (arith, nat_tests, t) in
    let q : is_digit byte ≡ false = grind (arith, nat_tests, t) in
    let r : (byte == 35) ≡ false = grind (arith, nat_tests, t) in
    rw (no_name after byte p q, q, r, t) refl

comment_first : (after : Bool) (byte : ℕ) → (byte == 35) ≡ true → Comment ≡ first_shape after byte
comment_first after byte t =
    let p : is_letter byte ≡ false = grind (arith, nat_tests, t) in
    let q : is_digit byte ≡ false = grind (arith, nat_tests, t) in
    rw (no_name after byte p q, q, t) refl

end_first : (after : Bool) (byte : ℕ) → ((byte == 10) || (byte == 13)) ≡ true → LineEnd ≡ first_shape after byte
end_first after byte t =
    let p : is_letter byte ≡ false = grind (arith, nat_tests, t) in
    let q : is_digit byte ≡ false = grind (arith, nat_tests, t) in
    let r : (byte == 35) ≡ false = grind (arith, nat_tests, t) in
    let s : is_blank byte ≡ false = grind (arith, nat_tests, t) in
    rw (no_name after byte p q, q, r, s, t) refl

sign_first : (after : Bool) (byte : ℕ) → (is_sign_byte byte || (byte == 60) || (byte == 62)) ≡ true → Sign ≡ first_shape after byte
sign_first after byte t =
    let p : is_letter byte ≡ false = grind (arith, nat_tests, t) in
    let q : is_digit byte ≡ false = grind (arith, nat_tests, t) in
    let r : (byte == 35) ≡ false = grind (arith, nat_tests, t) in
    let s : is_blank byte ≡ false = grind (arith, nat_tests, t) in
    let u : ((byte == 10) || (byte == 13)) ≡ false = grind (arith, nat_tests, t) in
    rw (no_name after byte p q, q, r, s, u) refl

number_first : (byte : ℕ) → is_digit byte ≡ true → Number ≡ first_shape false byte
number_first byte t =
    let p : is_letter byte ≡ false = grind (arith, nat_tests, t) in
    rw (p, t) refl

shape_told : (after : Bool) (shape : Shape) (byte : ℕ) (more : List ℕ) → is_word after shape (byte ∷ more) ≡ true → shape ≡ first_shape after byte
shape_told after Blank byte [] t = blank_first after byte t
shape_told after Blank byte (b ∷ more) t = cc
shape_told after Comment byte more t = comment_first after byte (grind (arith, t))
shape_told true Name byte more t =
    let name : (is_letter byte || (true && is_digit byte)) ≡ true = grind (arith, t) in rw name refl
shape_told false Name byte more t =
    let name : (is_letter byte || (false && is_digit byte)) ≡ true = grind (arith, t) in rw name refl
shape_told true Number byte more t = cc
shape_told false Number byte [] t = number_first byte (grind (arith, t))
shape_told false Number byte (b ∷ more) t = number_first byte (grind (arith, nat_tests, t))
shape_told after Sign byte [] t = let s : (is_sign_byte byte || (byte == 60) || (byte == 62)) ≡ true = grind (arith, t) in sign_first after byte s
shape_told after Sign byte (b ∷ []) t = let s : (is_sign_byte byte || (byte == 60) || (byte == 62)) ≡ true = grind (arith, t) in sign_first after byte s
shape_told after Sign byte (b ∷ c ∷ more) t = cc
shape_told after LineEnd byte [] t = end_first after byte (grind (arith, t))
shape_told after LineEnd byte (b ∷ []) t = end_first after byte (grind (arith, t))
shape_told after LineEnd byte (b ∷ c ∷ more) t = cc

-- one word begins at a place

shape_at : (after : Bool) (shape : Shape) (n byte : ℕ) (more : List ℕ) → is_word after shape (take n (byte ∷ more)) ≡ true → shape ≡ first_shape after byte
shape_at after shape zero byte more t = let some = word_some after shape zero (byte ∷ more) t in absurd (omega arith)
shape_at after shape (suc n) byte more t = shape_told after shape byte (take n more) t

pub one_shape : (after : Bool) (s t : Shape) (n m : ℕ) (rest : List ℕ) → Begins after s n rest → Begins after t m rest → s ≡ t
one_shape after s t n m [] p q = let some = word_some after s n [] p.word in let inside = p.inside in absurd (omega arith)
one_shape after s t n m (byte ∷ more) p q = shape_at after s n byte more p.word ∙ sym (shape_at after t m byte more q.word)

not_longer : (after : Bool) (shape : Shape) (n m : ℕ) (rest : List ℕ) → Begins after shape n rest → Begins after shape m rest → n < m → ⊥
not_longer after shape n m rest p q less =
    true_false _ q.word (p.longest m less q.inside)
  where
    true_false : (b : Bool) → b ≡ true → b ≡ false → ⊥
    true_false b here there = cc

one_length : (after : Bool) (shape : Shape) (n m : ℕ) (rest : List ℕ) → Begins after shape n rest → Begins after shape m rest → n ≡ m
one_length after shape n m rest p q = by_less (nat_lt n m) (nat_lt m n) refl refl
  where
    by_less : (a b : Bool) → nat_lt n m ≡ a → nat_lt m n ≡ b → n ≡ m
    by_less true b e f = absurd (not_longer after shape n m rest p q (grind (arith, nat_tests, e)))
    by_less false true e f = absurd (not_longer after shape m n rest q p (grind (arith, nat_tests, f)))
    by_less false false e f = grind (arith, nat_tests, e, f)

-- the tokens from one byte of the text to another
pub data Ahead (text : List ℕ) : ℕ → List Token → ℕ → Type 0 where
  arrived : {at : ℕ} → Ahead text at [] at
  step : {at to : ℕ} {tokens : List Token} (shape : Shape) (n : ℕ) → Begins (dotted text at) shape n (drop at text) → Ahead text (at + n) tokens to → Ahead text at (told text at n shape ++ tokens) to

unrolled : {text : List ℕ} {ts us : List Token} {at to : ℕ} → Cut text ts at → Ahead text at us to → Ahead text 0 (ts ++ us) to
unrolled at_start ahead = ahead
unrolled {text} {ts} {us} {at} {to} (on {tokens = front} shape n cut begins) ahead =
    subst (λ vs. Ahead text 0 vs to) (sym (append_assoc front (told text _ n shape) us)) (unrolled cut (step shape n begins ahead))

pub ahead_of : {text : List ℕ} {ts : List Token} {at : ℕ} → Cut text ts at → Ahead text 0 ts at
ahead_of {text} {ts} {at} cut = subst (λ vs. Ahead text 0 vs at) (append-nil ts) (unrolled cut arrived)

goes_on : {text : List ℕ} {a b : ℕ} {ts : List Token} → Ahead text a ts b → a ≤ b
goes_on arrived = omega arith
goes_on (step shape n begins ahead) = let later = goes_on ahead in omega arith

some_bytes : (text : List ℕ) (at n : ℕ) (shape : Shape) → Begins (dotted text at) shape n (drop at text) → 0 < n
some_bytes text at n shape begins = word_some (dotted text at) shape n (drop at text) begins.word

told_same : (text : List ℕ) (at n m : ℕ) (s t : Shape) → s ≡ t → n ≡ m → told text at m t ≡ told text at n s
told_same text at n m s t e f = rw (e, f) refl

-- of two ways from one byte the longer goes on where the shorter ends
pub joined : {text : List ℕ} {a b c : ℕ} {ts us : List Token} → Ahead text a ts b → Ahead text a us c → b ≤ c → (vs : List Token) × (us ≡ ts ++ vs) × Ahead text b vs c
joined {text} {a} {b} {c} {ts} {us} arrived second le = (us, refl, second)
joined {text} {a} {b} {c} {ts} {us} (step s n p first) arrived le =
    let later = goes_on first in let some = some_bytes text a n s p in absurd (omega arith)
joined {text} {a} {b} {c} {ts} {us} (step {tokens = ts'} s n p first) (step {tokens = us'} t m q second) le =
    let e : s ≡ t = one_shape (dotted text a) s t n m (drop a text) p q in
    let q' : Begins (dotted text a) s m (drop a text) = subst (λ x. Begins (dotted text a) x m (drop a text)) (sym e) q in
    let f : n ≡ m = one_length (dotted text a) s n m (drop a text) p q' in
    let second' : Ahead text (a + n) us' c = subst (λ k. Ahead text (a + k) us' c) (sym f) second in
    let r = joined first second' le in
    (r.0, ap (λ x. x ++ us') (told_same text a n m s t e f) ∙ (ap (λ x. told text a n s ++ x) r.1 ∙ sym (append_assoc (told text a n s) ts' r.0)), r.2)

no_more : {text : List ℕ} {a b : ℕ} {ts : List Token} → Ahead text a ts b → b ≤ a → ts ≡ []
no_more arrived le = refl
no_more {text} {a} {b} {ts} (step s n p ahead) le =
    let later = goes_on ahead in let some = some_bytes text a n s p in absurd (omega arith)

pub one_cut : {text : List ℕ} {at : ℕ} {ts us : List Token} → Cut text ts at → Cut text us at → ts ≡ us
one_cut {text} {at} {ts} {us} first second =
    let r = joined (ahead_of first) (ahead_of second) (omega arith) in
    sym (r.1 ∙ (ap (λ vs. ts ++ vs) (no_more r.2 (omega arith)) ∙ append-nil ts))

-- where nothing begins, no way goes on
pub stands_still : {text : List ℕ} {a b : ℕ} {ts : List Token} → Ahead text a ts b → NothingBegins (dotted text a) (drop a text) → b ≡ a
stands_still arrived nothing = refl
stands_still {text} {a} {b} {ts} (step s n p ahead) nothing = absurd (true_false _ p.word (nothing s n p.inside))
  where
    true_false : (b : Bool) → b ≡ true → b ≡ false → ⊥
    true_false b here there = cc
