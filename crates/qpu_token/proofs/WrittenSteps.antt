-- How a text is read word by word: its tokens so far, and their kinds and bytes.
use Rattle.std.proofs.Common.{◌≡◌, ℕ, suc, ◌+◌, ◌-◌, true, List, [], ◌∷◌, ◌++◌, length, take, drop, get_or, map, refl, ap, sym, subst, ◌∙◌, arith}
use Rattle.std.specs.Prelude.{◌==◌, nat_lt, slice_index, slice_range}
use Rattle.std.proofs.lemmas.Bool.Decides.{nat_tests}
use Rattle.std.proofs.lemmas.List.{map-append, length-append}
use Rattle.std.proofs.lemmas.List.Sums.{fold-append}
use Rattle.std.proofs.Math.Seq.{get_or-append_right}
use Rattle.std.proofs.Math.ListN.{get_or-append}
use Rattle.qpu_token.specs.declared.token.Token.{Token}
use Rattle.qpu_token.specs.declared.piece.Shape.{Shape}
use Rattle.qpu_token.specs.declared.before.Before.{Before}
use Rattle.qpu_token.specs.declared.before.Before.TheVariants.{Other}
use Rattle.qpu_token.specs.Tokens.{dotted, Begins, told, Cut, at_start, on, text_of, after_text, before_of, AllFit}
use Rattle.qpu_token.specs.Written.{Told}

abbrev pub told_of : List ℕ → Token → Told
told_of text token = (token.kind, text_of text token)

-- the text is read up to a byte: the tokens, and what stands before the next
pub record Reads (text : List ℕ) (at : ℕ) (before : Before) (due : List Told) : Type 0 where
  pub tokens : List Token
  pub cut : Cut text tokens at
  pub fit : AllFit text Other tokens
  pub before_is : before_of text Other tokens ≡ before
  pub told_are : map (told_of text) tokens ≡ due

pub nothing_read : (text : List ℕ) → Reads text 0 Other []
nothing_read text = record { tokens = []; cut = at_start; fit = tt; before_is = refl; told_are = refl }

fit_append : (text : List ℕ) (b : Before) (ts us : List Token) → AllFit text b ts → AllFit text (before_of text b ts) us → AllFit text b (ts ++ us)
fit_append text b [] us p q = q
fit_append text b (t ∷ ts) us p q = (p.0, fit_append text (after_text b (text_of text t)) ts us p.1 q)

-- one word more
reads_on : (text : List ℕ) (at n : ℕ) (b : Before) (due : List Told) (shape : Shape) → Reads text at b due
    → Begins (dotted text at) shape n (drop at text) → AllFit text b (told text at n shape)
    → Reads text (at + n) (before_of text b (told text at n shape)) (due ++ map (told_of text) (told text at n shape))
reads_on text at n b due shape r begins fit = record {
  tokens = r.tokens ++ told text at n shape;
  cut = on shape n r.cut begins;
  fit = fit_append text Other r.tokens (told text at n shape) r.fit
      (subst (λ c. AllFit text c (told text at n shape)) (sym r.before_is) fit);
  before_is = fold-append (λ before token. after_text before (text_of text token)) Other r.tokens (told text at n shape)
      ∙ ap (λ c. before_of text c (told text at n shape)) r.before_is;
  told_are = map-append (told_of text) r.tokens (told text at n shape) ∙ ap (λ xs. xs ++ map (told_of text) (told text at n shape)) r.told_are;
}

-- a word between a front and a rest

drop_front : (front rest : List ℕ) → drop (length front) (front ++ rest) ≡ rest
drop_front [] rest = refl
drop_front (x ∷ front) rest = drop_front front rest

take_front : (front rest : List ℕ) → take (length front) (front ++ rest) ≡ front
take_front [] rest = refl
take_front (x ∷ front) rest = ap (λ xs. x ∷ xs) (take_front front rest)

pub rest_here : (text front rest : List ℕ) → text ≡ front ++ rest → drop (length front) text ≡ rest
rest_here text front rest is = rw is (drop_front front rest)

pub word_taken : (text front word rest : List ℕ) → text ≡ front ++ (word ++ rest) → take (length word) (drop (length front) text) ≡ word
word_taken text front word rest is = rw (rest_here text front (word ++ rest) is) (take_front word rest)

pub word_here : (text front word rest : List ℕ) → text ≡ front ++ (word ++ rest)
    → slice_range text (length front) (length front + length word) ≡ word
word_here text front word rest is =
    let long : length front + length word - length front ≡ length word = omega arith in
    rw long (word_taken text front word rest is)

-- the byte before a place
byte_before : (front word rest : List ℕ) (k : ℕ) → length word ≡ suc k
    → get_or (front ++ (word ++ rest)) (length front + length word - 1) 0 ≡ get_or word k 0
byte_before front word rest k long =
    let at : length front + length word - 1 ≡ length front + k = omega (arith, long) in
    let index : length front + k - length front ≡ k = omega arith in
    rw at
    (get_or-append_right front (word ++ rest) (length front + k) 0 (omega arith)
    ∙ (ap (λ i. get_or (word ++ rest) i 0) index ∙ get_or-append word rest 0 k (omega (arith, long))))

pub dotted_behind : (text front word rest : List ℕ) (k : ℕ) → text ≡ front ++ (word ++ rest) → length word ≡ suc k
    → dotted text (length front + length word) ≡ (get_or word k 0 == 46)
dotted_behind text front word rest k is long =
    let some : nat_lt 0 (length front + length word) ≡ true = grind (arith, nat_tests, long) in
    let byte : slice_index text (length front + length word - 1) ≡ get_or word k 0 = rw is (byte_before front word rest k long) in
    rw (some, byte) refl

-- a word more, between a front and a rest
pub item_on : (text front word rest : List ℕ) (b c : Before) (due us : List Told) (shape : Shape) → text ≡ front ++ (word ++ rest)
    → Begins (dotted text (length front)) shape (length word) (word ++ rest)
    → AllFit text b (told text (length front) (length word) shape)
    → before_of text b (told text (length front) (length word) shape) ≡ c
    → map (told_of text) (told text (length front) (length word) shape) ≡ us
    → Reads text (length front) b due → Reads text (length (front ++ word)) c (due ++ us)
item_on text front word rest b c due us shape is begins fit before_is told_are r =
    let here : Begins (dotted text (length front)) shape (length word) (drop (length front) text) =
    rw (rest_here text front (word ++ rest) is) begins in
    rw (length-append front word, ← before_is, ← told_are)
    (reads_on text (length front) (length word) b due shape r here fit)
