-- What the expansion makes of an operand: a number is worked out, everything else is left.
use Rattle.std.proofs.Common.{◌≡◌, ℕ, ◌-◌, ◌%◌, ◌^◌, ◌<◌, Bool, true, false, List, [], ◌∷◌, ◌++◌, Some, None, refl, ap, arith}
use Rattle.std.specs.Prelude.{map}
use Rattle.std.specs.List.{list_any}
use Rattle.qpu_token.specs.declared.token.TokenKind.TheVariants as kind
use Rattle.qpu_token.specs.declared.token.Token.{Token}
use Rattle.qpu_token.specs.Tokens.{text_of}
use Rattle.qpu_expr.specs.Symbols.{place_of, symbol_of as seen_of, sign_of as sign_seen}
use Rattle.qpu_expr.specs.Registers.{is_register}
use Rattle.qpu_expr.specs.Expressions.{parsed_of}
use Rattle.qpu_expr.specs.Trees.{Tree, number, minus, spelled_out as tree_written}
use Rattle.qpu_expr.specs.Settings.{expression, item_of, is_unknown}
use Rattle.qpu_expr.specs.Operands.{is_name, is_dot, core, operand_left, named, operand_of, number_token, Worked, put_operand}
use Rattle.qpu_line.specs.declared.symbol.Symbol.{Symbol}
use Rattle.qpu_line.specs.declared.symbol.Symbol.TheVariants as symbol
use Rattle.qpu_line.specs.declared.name.Name.{Name}
use Rattle.qpu_line.specs.Lines.{Figure, Decimal, Negative, Hexadecimal, Bit, Word, Number, Dot, Dash, symbols_of}
use Rattle.qpu_dis.specs.Tokens.{symbol_of}
use Rattle.qpu_inverse.proofs.Readings.{IsSign, token_of, a_name, a_dot, a_minus}
use Rattle.qpu_inverse.proofs.Spelling.{Spells}
use Rattle.qpu_inverse.proofs.Bits.{symbols_written, IsFigure, AllInside, BeginsNoDot}

-- tokens that are worked out without a fault
abbrev pub clean : List Token → Worked
clean xs = record { tokens = xs; unknown = None; zero = None }

-- what is put behind others
pub record Puts (text : List ℕ) (ss : List Symbol) (put : Worked → Worked) : Type 0 where
  pub tokens : List Token
  pub spells : Spells text ss tokens
  pub puts : (xs : List Token) → put (clean xs) ≡ clean (xs ++ tokens)

-- bits that are an operand
pub record IsOperand (text : List ℕ) (bits : List Bit) : Type 0 where
  pub puts : (ts : List Token) → Spells text (symbols_written bits) ts → Puts text (symbols_of bits) (put_operand text [] ts)
  pub inside : AllInside (symbols_written bits)
  pub no_dot : BeginsNoDot (symbols_written bits)

-- nothing

pub no_operand : (text : List ℕ) → IsOperand text []
unfolding put_operand
no_operand text = record {
  puts = no;
  inside = tt;
  no_dot = tt;
}
  where
    no : (ts : List Token) → Spells text [] ts → Puts text [] (put_operand text [] ts)
    no [] h = record { tokens = []; spells = tt; puts = λ xs. refl }
    no (t ∷ ts) h = absurd h

-- a name

named_by : (name : List ℕ) (b : Bool) → is_register name ≡ b → named [] name ≡ operand_left
named_by name true e = rw e refl
named_by name false e = rw e refl

name_left : (text : List ℕ) (t : Token) → is_name text t ≡ true → operand_of text [] (t ∷ []) ≡ operand_left
name_left text t name = rw name (named_by (text_of text t) (is_register (text_of text t)) refl)

name_put : (text : List ℕ) (t : Token) (xs : List Token) → is_name text t ≡ true → put_operand text [] (t ∷ []) (clean xs) ≡ clean (xs ++ t ∷ [])
unfolding put_operand
name_put text t xs name = rw (name_left text t name) refl

-- a name with a suffix
suffixed_core : (text : List ℕ) (t d n : Token) → is_dot text d ≡ true → is_name text n ≡ true → core text (t ∷ d ∷ n ∷ []) ≡ 1
suffixed_core text t d n dot name = rw (dot, name) refl

suffixed_put : (text : List ℕ) (t d n : Token) (xs : List Token) → is_dot text d ≡ true → is_name text n ≡ true → operand_of text [] (t ∷ []) ≡ operand_left
    → put_operand text [] (t ∷ d ∷ n ∷ []) (clean xs) ≡ clean (xs ++ t ∷ d ∷ n ∷ [])
unfolding put_operand
suffixed_put text t d n xs dot name is = rw (suffixed_core text t d n dot name, is) refl

-- no target
dash_left : (text : List ℕ) (t : Token) → IsSign text 45 t → operand_of text [] (t ∷ []) ≡ operand_left
unfolding expression item_of seen_of sign_seen
dash_left text t (is, byte) = rw (is, byte) refl

dash_put : (text : List ℕ) (t : Token) (xs : List Token) → IsSign text 45 t → put_operand text [] (t ∷ []) (clean xs) ≡ clean (xs ++ t ∷ [])
unfolding put_operand
dash_put text t xs is = rw (dash_left text t is) refl

-- a number
number_put : (text : List ℕ) (value : ℕ) (t : Token) (xs : List Token) → t.kind ≡ kind.Number value
    → put_operand text [] (t ∷ []) (clean xs) ≡ clean (xs ++ number_token t (value % 2 ^ 32) ∷ [])
unfolding put_operand expression item_of is_unknown seen_of sign_seen
number_put text value t xs is = rw is refl

-- a sign `-` and a number
negative_core : (text : List ℕ) (m t : Token) → is_dot text m ≡ false → core text (m ∷ t ∷ []) ≡ 2
negative_core text m t dot = rw dot refl

negative_tree : (value : ℕ) (m t : Token) → Tree
negative_tree value m t = minus (place_of m) (number (value % 2 ^ 32) (place_of t))

minus_item : (text : List ℕ) (value : ℕ) (m t : Token) → IsSign text 45 m → t.kind ≡ kind.Number value
    → map (item_of text []) (m ∷ t ∷ []) ≡ tree_written (negative_tree value m t)
unfolding negative_tree item_of seen_of sign_seen
minus_item text value m t (is, byte) is_number = rw (is, byte, is_number) refl

negative_outcome : (text : List ℕ) (value : ℕ) (m t : Token) → IsSign text 45 m → t.kind ≡ kind.Number value
    → parsed_of (map (item_of text []) (m ∷ t ∷ [])) ≡ parsed_of (tree_written (negative_tree value m t))
negative_outcome text value m t is is_number = ap parsed_of (minus_item text value m t is is_number)

all_known : (text : List ℕ) (value : ℕ) (m t : Token) → IsSign text 45 m → t.kind ≡ kind.Number value → list_any (is_unknown text []) (m ∷ t ∷ []) ≡ false
unfolding is_unknown seen_of sign_seen
all_known text value m t (is, byte) is_number = rw (is, is_number) refl

negative_operand : (text : List ℕ) (value : ℕ) (m t : Token) → IsSign text 45 m → t.kind ≡ kind.Number value
    → operand_of text [] (m ∷ t ∷ []) ≡ record operand_left { value = Some ((2 ^ 32 - value % 2 ^ 32) % 2 ^ 32) }
unfolding expression negative_tree
negative_operand text value m t is is_number = rw (negative_outcome text value m t is is_number, all_known text value m t is is_number) refl

negative_put : (text : List ℕ) (value : ℕ) (m t : Token) (xs : List Token) → IsSign text 45 m → t.kind ≡ kind.Number value
    → put_operand text [] (m ∷ t ∷ []) (clean xs) ≡ clean (xs ++ number_token m ((2 ^ 32 - value % 2 ^ 32) % 2 ^ 32) ∷ [])
unfolding put_operand
negative_put text value m t xs is is_number =
    rw (negative_core text m t (a_minus text m is).dot_is, negative_operand text value m t is is_number) refl

-- operands by their bits

pub named_operand : (text : List ℕ) (n : Name) → IsOperand text (Word n ∷ [])
named_operand text n = record { puts = one; inside = (tt, tt); no_dot = tt }
  where
    one : (ts : List Token) → Spells text (symbol.Name n ∷ []) ts → Puts text (symbol.Name n ∷ []) (put_operand text [] ts)
    one [] h = absurd h
    one (t ∷ []) h =
        record { tokens = t ∷ []; spells = h; puts = λ xs. name_put text t xs (a_name text t (token_of text t (symbol.Name n) h.0)).name_is }
    one (t ∷ u ∷ ts) h = absurd h.1

-- what is left before a suffix
suffixed : (text : List ℕ) (s : Symbol) (n : Name) → ((t : Token) → symbol_of text t ≡ s → operand_of text [] (t ∷ []) ≡ operand_left)
    → (ts : List Token) → Spells text (s ∷ symbol.Dot ∷ symbol.Name n ∷ []) ts → Puts text (s ∷ symbol.Dot ∷ symbol.Name n ∷ []) (put_operand text [] ts)
suffixed text s n is_left [] h = absurd h
suffixed text s n is_left (t ∷ []) h = absurd h.1
suffixed text s n is_left (t ∷ d ∷ []) h = absurd h.1.1
suffixed text s n is_left (t ∷ d ∷ m ∷ []) h = record {
  tokens = t ∷ d ∷ m ∷ [];
  spells = h;
  puts = λ xs.
      suffixed_put text t d m xs (a_dot text d (token_of text d symbol.Dot h.1.0)).dot_is (a_name text m (token_of text m (symbol.Name n) h.1.1.0)).name_is (is_left t h.0);
}
suffixed text s n is_left (t ∷ d ∷ m ∷ u ∷ ts) h = absurd h.1.1.1

pub suffixed_operand : (text : List ℕ) (m n : Name) → IsOperand text (Word m ∷ Dot ∷ Word n ∷ [])
suffixed_operand text m n = record {
  puts = suffixed text (symbol.Name m) n (λ t h. name_left text t (a_name text t (token_of text t (symbol.Name m) h)).name_is);
  inside = (tt, (tt, (tt, tt)));
  no_dot = tt;
}

pub no_target : (text : List ℕ) → IsOperand text (Dash ∷ [])
no_target text = record { puts = one; inside = (tt, tt); no_dot = tt }
  where
    one : (ts : List Token) → Spells text (symbol.Minus ∷ []) ts → Puts text (symbol.Minus ∷ []) (put_operand text [] ts)
    one [] h = absurd h
    one (t ∷ []) h = record { tokens = t ∷ []; spells = h; puts = λ xs. dash_put text t xs (token_of text t symbol.Minus h.0) }
    one (t ∷ u ∷ ts) h = absurd h.1

pub no_target_suffixed : (text : List ℕ) (n : Name) → IsOperand text (Dash ∷ Dot ∷ Word n ∷ [])
no_target_suffixed text n = record {
  puts = suffixed text symbol.Minus n (λ t h. dash_left text t (token_of text t symbol.Minus h));
  inside = (tt, (tt, (tt, tt)));
  no_dot = tt;
}

-- numbers

small_same : (n : ℕ) → n < 2 ^ 32 → symbol.Number (n % 2 ^ 32) ≡ symbol.Number n
small_same n low = let same : n % 2 ^ 32 ≡ n = omega arith in ap (λ z. symbol.Number z) same

plain_number : (text : List ℕ) (n : ℕ) → n < 2 ^ 32 → (ts : List Token) → Spells text (symbol.Number n ∷ []) ts
    → Puts text (symbol.Number n ∷ []) (put_operand text [] ts)
plain_number text n low [] h = absurd h
plain_number text n low (t ∷ []) h = record {
  tokens = number_token t (n % 2 ^ 32) ∷ [];
  spells = (small_same n low, tt);
  puts = λ xs. number_put text n t xs (token_of text t (symbol.Number n) h.0);
}
plain_number text n low (t ∷ u ∷ ts) h = absurd h.1

negative_same : (n : ℕ) → 0 < n → n < 2 ^ 32 → symbol.Number ((2 ^ 32 - n % 2 ^ 32) % 2 ^ 32) ≡ symbol.Number (2 ^ 32 - n)
negative_same n some low = let same : (2 ^ 32 - n % 2 ^ 32) % 2 ^ 32 ≡ 2 ^ 32 - n = omega arith in ap (λ z. symbol.Number z) same

negative_number : (text : List ℕ) (n : ℕ) → 0 < n → n < 2 ^ 32 → (ts : List Token) → Spells text (symbol.Minus ∷ symbol.Number n ∷ []) ts
    → Puts text (symbol.Number (2 ^ 32 - n) ∷ []) (put_operand text [] ts)
negative_number text n some low [] h = absurd h
negative_number text n some low (m ∷ []) h = absurd h.1
negative_number text n some low (m ∷ t ∷ []) h = record {
  tokens = number_token m ((2 ^ 32 - n % 2 ^ 32) % 2 ^ 32) ∷ [];
  spells = (negative_same n some low, tt);
  puts = λ xs. negative_put text n m t xs (token_of text m symbol.Minus h.0) (token_of text t (symbol.Number n) h.1.0);
}
negative_number text n some low (m ∷ t ∷ u ∷ ts) h = absurd h.1.1

pub number_operand : (text : List ℕ) (figure : Figure) → IsFigure figure → IsOperand text (Number figure ∷ [])
number_operand text (Decimal n) low = record { puts = plain_number text n low; inside = (tt, tt); no_dot = tt }
number_operand text (Negative n) low = record { puts = negative_number text n low.0 low.1; inside = (tt, (tt, tt)); no_dot = tt }
number_operand text (Hexadecimal n) low = record { puts = plain_number text n low; inside = (tt, tt); no_dot = tt }
