-- The first piece of a part: its name, the name's suffixes and the first operand.
use Rattle.std.proofs.Common.{◌≡◌, ℕ, ◌+◌, true, false, List, [], ◌∷◌, ◌++◌, length, refl, ap, subst, sym, ◌∙◌, append_assoc, arith}
use Rattle.std.proofs.Math.Seq.{drop-append_seam, take-append_seam}
use Rattle.qpu_token.specs.declared.token.Token.{Token}
use Rattle.qpu_expr.specs.Operands.{is_name, is_dot, suffixes, put_first, put_operand}
use Rattle.qpu_line.specs.declared.name.Name.{Name}
use Rattle.qpu_line.specs.declared.symbol.Symbol.{Symbol}
use Rattle.qpu_line.specs.declared.symbol.Symbol.TheVariants as symbol
use Rattle.qpu_line.specs.Lines.{Bit, Word, Dot, Space, symbols_of}
use Rattle.qpu_dis.specs.Tokens.{symbol_of}
use Rattle.qpu_inverse.proofs.Readings.{token_of, a_name, a_number, a_dot, a_minus}
use Rattle.qpu_inverse.proofs.Spelling.{Spells, parts_of, spells_both}
use Rattle.qpu_inverse.proofs.Bits.{symbols_written, written_append, symbols_append, AllInside, inside_both, BeginsNoDot, AreSuffixes}
use Rattle.qpu_inverse.proofs.Operands.{clean, Puts, IsOperand}
use Rattle.qpu_inverse.proofs.Pieces.{BeginsName, IsPiece}

-- the suffixes at the front of tokens

no_dot_first : (text : List ℕ) (s : Symbol) (ss : List Symbol) (t : Token) → BeginsNoDot (s ∷ ss) → AllInside (s ∷ ss) → symbol_of text t ≡ s → is_dot text t ≡ false
no_dot_first text (symbol.Name n) ss t undotted inside is = (a_name text t (token_of text t (symbol.Name n) is)).dot_is
no_dot_first text (symbol.Number value) ss t undotted inside is = (a_number text value t (token_of text t (symbol.Number value) is)).dot_is
no_dot_first text symbol.Minus ss t undotted inside is = (a_minus text t (token_of text t symbol.Minus is)).dot_is
no_dot_first text symbol.Dot ss t undotted inside is = absurd undotted
no_dot_first text _ ss t undotted inside is = absurd inside.0

stops_at : (text : List ℕ) (a b : Token) (ts : List Token) → is_dot text a ≡ false → suffixes text (a ∷ b ∷ ts) ≡ 0
stops_at text a b ts dot = rw dot refl

none_first : (text : List ℕ) (ss : List Symbol) (ts : List Token) → BeginsNoDot ss → AllInside ss → Spells text ss ts → suffixes text ts ≡ 0
none_first text ss [] undotted inside h = refl
none_first text ss (a ∷ []) undotted inside h = refl
none_first text [] (a ∷ b ∷ ts) undotted inside h = absurd h
none_first text (s ∷ ss) (a ∷ b ∷ ts) undotted inside h = stops_at text a b ts (no_dot_first text s ss a undotted inside h.0)

one_more : (text : List ℕ) (d n : Token) (ts : List Token) (k : ℕ) → is_dot text d ≡ true → is_name text n ≡ true → suffixes text ts ≡ k → suffixes text (d ∷ n ∷ ts) ≡ 2 + k
one_more text d n ts k dot name e = rw (dot, name, e) refl

counted : (text : List ℕ) (bits : List Bit) (sf ts : List Token) → AreSuffixes bits → Spells text (symbols_written bits) sf → suffixes text ts ≡ 0
    → suffixes text (sf ++ ts) ≡ length sf
counted text [] [] ts are h none = none
counted text [] (t ∷ sf) ts are h none = absurd h
counted text (Dot ∷ Word n ∷ bits) [] ts are h none = absurd h
counted text (Dot ∷ Word n ∷ bits) (d ∷ []) ts are h none = absurd h.1
counted text (Dot ∷ Word n ∷ bits) (d ∷ m ∷ sf) ts are h none =
    one_more text d m (sf ++ ts) (length sf) (a_dot text d (token_of text d symbol.Dot h.0)).dot_is (a_name text m (token_of text m (symbol.Name n) h.1.0)).name_is
    (counted text bits sf ts are h.1.1 none)
    ∙ omega arith
counted text _ sf ts are h none = absurd are

-- they are left as they are
pub suffixes_left : (bits : List Bit) → AreSuffixes bits → symbols_of bits ≡ symbols_written bits
suffixes_left [] are = refl
suffixes_left (Dot ∷ Word n ∷ bits) are = ap (λ z. symbol.Dot ∷ symbol.Name n ∷ z) (suffixes_left bits are)
suffixes_left _ are = absurd are

suffixes_inside : (bits : List Bit) → AreSuffixes bits → AllInside (symbols_written bits)
suffixes_inside [] are = tt
suffixes_inside (Dot ∷ Word n ∷ bits) are = (tt, (tt, suffixes_inside bits are))
suffixes_inside _ are = absurd are

pub more_suffixes : (a b : List Bit) → AreSuffixes a → AreSuffixes b → AreSuffixes (a ++ b)
more_suffixes [] b p q = q
more_suffixes (Dot ∷ Word n ∷ a) b p q = more_suffixes a b p q
more_suffixes _ b p q = absurd p

-- the piece

first_put : (text : List ℕ) (m : Token) (sf ts xs : List Token) → is_name text m ≡ true → suffixes text (sf ++ ts) ≡ length sf
    → put_first text [] (m ∷ sf ++ ts) (clean xs) ≡ put_operand text [] ts (clean (xs ++ m ∷ sf))
unfolding put_first
first_put text m sf ts xs name e = rw (name, e, drop-append_seam sf ts, take-append_seam sf ts) refl

piece_puts : (text : List ℕ) (op : Name) (sfx operand : List Bit) → AreSuffixes sfx → IsOperand text operand
    → (ts : List Token) → Spells text (symbol.Name op ∷ (symbols_written sfx ++ symbols_written operand)) ts
    → Puts text (symbol.Name op ∷ (symbols_of sfx ++ symbols_of operand)) (put_first text [] ts)
piece_puts text op sfx operand are o [] h = absurd h
piece_puts text op sfx operand are o (m ∷ rest) h =
    let p = parts_of text (symbols_written sfx) (symbols_written operand) rest h.1 in
    let put = o.puts p.back p.back_spells in
    let name : is_name text m ≡ true = (a_name text m (token_of text m (symbol.Name op) h.0)).name_is in
    let count : suffixes text (p.front ++ p.back) ≡ length p.front =
    counted text sfx p.front p.back are p.front_spells (none_first text (symbols_written operand) p.back o.no_dot o.inside p.back_spells) in
    subst (λ z. Puts text (symbol.Name op ∷ (symbols_of sfx ++ symbols_of operand)) (put_first text [] (m ∷ z))) (sym p.same)
    (record {
      tokens = m ∷ p.front ++ put.tokens;
      spells =
          (h.0, spells_both text (symbols_of sfx) (symbols_of operand) p.front put.tokens (subst (λ z. Spells text z p.front) (sym (suffixes_left sfx are)) p.front_spells) put.spells);
      puts = λ xs.
          first_put text m p.front p.back xs name count ∙ (put.puts (xs ++ m ∷ p.front) ∙ ap clean (append_assoc xs (m ∷ p.front) put.tokens));
    })

-- the same with a space before the operand, or without one
pub record IsHead (op : Name) (sfx operand bits : List Bit) : Type 0 where
  pub as_written : symbols_written bits ≡ symbol.Name op ∷ (symbols_written sfx ++ symbols_written operand)
  pub as_symbols : symbols_of bits ≡ symbol.Name op ∷ (symbols_of sfx ++ symbols_of operand)

begins_so : (ss : List Symbol) (op : Name) (tt : List Symbol) → ss ≡ symbol.Name op ∷ tt → BeginsName ss
begins_so ss op rest e = subst BeginsName (sym e) tt

head_piece : (text : List ℕ) (op : Name) (sfx operand bits : List Bit) → AreSuffixes sfx → IsOperand text operand → IsHead op sfx operand bits → IsPiece text true bits
head_piece text op sfx operand bits are o head = record {
  puts = λ w stands ts h.
      let put = piece_puts text op sfx operand are o ts (subst (λ z. Spells text z ts) head.as_written h) in
      record {
        tokens = put.tokens;
        spells = subst (λ z. Spells text z put.tokens) (sym head.as_symbols) put.spells;
        puts = λ xs. rw stands (put.puts xs);
      };
  inside = subst AllInside (sym head.as_written) (tt, inside_both (symbols_written sfx) (symbols_written operand) (suffixes_inside sfx are) o.inside);
  begins = λ e. begins_so (symbols_written bits) op (symbols_written sfx ++ symbols_written operand) head.as_written;
}

pub spaced_head : (text : List ℕ) (op : Name) (sfx operand : List Bit) → AreSuffixes sfx → IsOperand text operand
    → IsPiece text true ((Word op ∷ sfx) ++ Space ∷ operand)
spaced_head text op sfx operand are o =
    head_piece text op sfx operand ((Word op ∷ sfx) ++ Space ∷ operand) are o
    (record { as_written = written_append (Word op ∷ sfx) (Space ∷ operand); as_symbols = symbols_append (Word op ∷ sfx) (Space ∷ operand) })

pub lone_head : (text : List ℕ) (op : Name) → IsOperand text [] → IsPiece text true (Word op ∷ [])
lone_head text op none = head_piece text op [] [] (Word op ∷ []) tt none (record { as_written = refl; as_symbols = refl })
