-- What a line begins with, as the expansion reads it: an instruction, or `.word`, which is left as it is.
use Rattle.std.proofs.Common.{◌≡◌, ℕ, Bool, true, false, List, [], ◌∷◌, Option, Some, None, refl, ap, subst, sym, arith}
use Rattle.std.specs.Prelude.{nat_eq, codes}
use Rattle.std.specs.Cmp.Lexicographic.{pointwise}
use Rattle.std.proofs.lemmas.Bool.Decides.{nat_tests}
use Rattle.qpu_token.specs.declared.token.TokenKind.{TokenKind}
use Rattle.qpu_token.specs.declared.token.TokenKind.TheVariants as kind
use Rattle.qpu_token.specs.declared.token.Token.{Token}
use Rattle.qpu_token.specs.Tokens.{text_of}
use Rattle.qpu_expr.specs.Operands.{is_name, is_dot}
use Rattle.qpu_expr.specs.Lines.{is_colon, label_of, word_head, head_of}
use Rattle.qpu_line.specs.declared.name.Name.{Name}
use Rattle.qpu_line.specs.declared.name.Name.TheVariants as name
use Rattle.qpu_line.specs.declared.symbol.Symbol.TheVariants as symbol
use Rattle.qpu_line.specs.declared.name.Register.{Register}
use Rattle.qpu_line.specs.Spellings.{spelling}
use Rattle.qpu_line.specs.Names.{found_in, row_or, name_of}
use Rattle.qpu_line.specs.Symbols.{name_symbol}
use Rattle.qpu_dis.specs.Tokens.{symbol_by, symbol_of}
use Rattle.qpu_inverse.proofs.Readings.{token_of}

-- the word of a name's token

named_by : (o : Option Name) (n : Name) → name_symbol o ≡ symbol.Name n → o ≡ Some n
named_by None n e = cc
named_by (Some m) n e = cc

by_kind : (text : List ℕ) (k : TokenKind) (t : Token) (n : Name) → k ≡ kind.Name → symbol_by k (text_of text t) ≡ symbol.Name n → name_of (text_of text t) ≡ Some n
by_kind text kind.Name t n is e = named_by (name_of (text_of text t)) n e
by_kind text _ t n is e = absurd (cc)

pub name_in : (text : List ℕ) (t : Token) (n : Name) → symbol_of text t ≡ symbol.Name n → name_of (text_of text t) ≡ Some n
name_in text t n e = by_kind text t.kind t n (token_of text t (symbol.Name n) e) e

-- the name `word` is spelled in one way

same_text : (a b : List ℕ) → pointwise nat_eq a b ≡ true → a ≡ b
same_text [] [] e = refl
same_text [] (y ∷ b) e = cc
same_text (x ∷ a) [] e = cc
same_text (x ∷ a) (y ∷ b) e =
    let first : nat_eq x y ≡ true = grind (arith, e) in
    let rest : pointwise nat_eq a b ≡ true = grind (arith, e) in
    let same : x ≡ y = grind (arith, nat_tests, first) in
    let later : a ≡ b = same_text a b rest in
    cc

found_spelled : (names : List Name) (text : List ℕ) (n : Name) → found_in names text ≡ Some n → pointwise nat_eq (spelling n) text ≡ true
found_spelled [] text n e = cc
found_spelled (m ∷ names) text n e = by_test (pointwise nat_eq (spelling m) text) refl e (found_spelled names text n)
  where
    by_test : (b : Bool) → pointwise nat_eq (spelling m) text ≡ b → found_in (m ∷ names) text ≡ Some n → (found_in names text ≡ Some n → pointwise nat_eq (spelling n) text ≡ true) → pointwise nat_eq (spelling n) text ≡ true
    by_test true b e later =
        let found : ◌≡◌ {A = Option Name} (Some m) (Some n) = rw b at e in
        let same : m ≡ n = cc in
        subst (λ n. pointwise nat_eq (spelling n) text ≡ true) same b
    by_test false b e later = later (rw b at e)

row_spelled : (names : List Name) (text : List ℕ) (r : Option Register) → row_or r (found_in names text) ≡ Some name.Word → text ≡ spelling name.Word
row_spelled names text None e = sym (same_text (spelling name.Word) text (found_spelled names text name.Word e))
row_spelled names text (Some row) e = absurd cc

word_spelled : (text : List ℕ) → name_of text ≡ Some name.Word → text ≡ spelling name.Word
unfolding name_of
word_spelled text is = search row_spelled

-- it is read as the directive
word_directive : (word : List ℕ) → name_of word ≡ Some name.Word → word_head word ≡ word_head (codes "word")
unfolding spelling
word_directive word is = ap word_head (word_spelled word is)

pub word_heads : (text : List ℕ) (dot word : Token) (ts : List Token) → is_dot text dot ≡ true → is_name text word ≡ true → name_of (text_of text word) ≡ Some name.Word
    → head_of text (dot ∷ word ∷ ts) ≡ word_head (codes "word")
unfolding head_of
word_heads text dot word ts is_a_dot is_a_name is = rw (is_a_dot, is_a_name) (word_directive (text_of text word) is)

-- no line has a label
pub no_label : (text : List ℕ) (t : Token) (ts : List Token) → is_colon text t ≡ false → label_of text (t ∷ ts) ≡ None
no_label text t [] e = refl
no_label text t (u ∷ ts) e = rw e refl
