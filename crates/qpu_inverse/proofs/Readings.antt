-- What a token is by its symbol, and what the expansion sees in it: both go by its kind and first byte.
use Rattle.std.proofs.Common.{◌≡◌, ℕ, Bool, true, false, List, Option, Some, None, refl, subst, arith}
use Rattle.std.specs.Prelude.{◌==◌, slice_index, if◌then◌else◌}
use Rattle.std.proofs.lemmas.Bool.Decides.{nat_tests}
use Rattle.qpu_token.specs.declared.token.TokenKind.{TokenKind}
use Rattle.qpu_token.specs.declared.token.TokenKind.TheVariants as kind
use Rattle.qpu_token.specs.declared.token.Token.{Token}
use Rattle.qpu_token.specs.Tokens.{text_of}
use Rattle.qpu_expr.specs.Symbols.{symbol_of as seen_of, sign_of as sign_seen}
use Rattle.qpu_expr.specs.Operands.{is_name, is_dot, separates}
use Rattle.qpu_expr.specs.Lines.{is_colon, ends}
use Rattle.qpu_line.specs.declared.name.Name.{Name}
use Rattle.qpu_line.specs.declared.symbol.Symbol.{Symbol}
use Rattle.qpu_line.specs.declared.symbol.Symbol.TheVariants as symbol
use Rattle.qpu_line.specs.Names.{name_of}
use Rattle.qpu_line.specs.Symbols.{sign_of, name_symbol}
use Rattle.qpu_dis.specs.Tokens.{symbol_by, symbol_of}

-- tokens by their symbols

abbrev pub IsSign : List ℕ → ℕ → Token → Type 0
IsSign text byte t = (t.kind ≡ kind.Punct) × (slice_index (text_of text t) 0 ≡ byte)

abbrev pub IsToken : List ℕ → Symbol → Token → Type 0
IsToken text (symbol.Name n) t = t.kind ≡ kind.Name
IsToken text (symbol.Number value) t = t.kind ≡ kind.Number value
IsToken text symbol.Comma t = IsSign text 44 t
IsToken text symbol.Semicolon t = IsSign text 59 t
IsToken text symbol.Dot t = IsSign text 46 t
IsToken text symbol.Minus t = IsSign text 45 t
IsToken text symbol.LineEnd t = t.kind ≡ kind.LineEnd
IsToken text _ t = Unit {0}

-- signs and their bytes

abbrev IsByte : Symbol → ℕ → Type 0
IsByte symbol.Comma byte = byte ≡ 44
IsByte symbol.Semicolon byte = byte ≡ 59
IsByte symbol.Dot byte = byte ≡ 46
IsByte symbol.Minus byte = byte ≡ 45
IsByte (symbol.Name n) byte = ⊥
IsByte (symbol.Number value) byte = ⊥
IsByte symbol.LineEnd byte = ⊥
IsByte _ byte = Unit {0}

same_byte : (byte k : ℕ) → (byte == k) ≡ true → byte ≡ k
same_byte byte k is = grind (arith, nat_tests, is)

sign_by : (byte : ℕ) (a b c d e f g h : Bool) → (byte == 44) ≡ a → (byte == 59) ≡ b → (byte == 46) ≡ d → (byte == 45) ≡ e
    → IsByte (if a then symbol.Comma else if b then symbol.Semicolon else if c then symbol.Colon else if d then symbol.Dot else if e then symbol.Minus else if f then symbol.Open else if g then symbol.Close else if h then symbol.Invert else symbol.Binary) byte
sign_by byte true b c d e f g h is _ _ _ = same_byte byte 44 is
sign_by byte false true c d e f g h _ is _ _ = same_byte byte 59 is
sign_by byte false false true d e f g h _ _ _ _ = tt
sign_by byte false false false true e f g h _ _ is _ = same_byte byte 46 is
sign_by byte false false false false true f g h _ _ _ is = same_byte byte 45 is
sign_by byte false false false false false true g h _ _ _ _ = tt
sign_by byte false false false false false false true h _ _ _ _ = tt
sign_by byte false false false false false false false true _ _ _ _ = tt
sign_by byte false false false false false false false false _ _ _ _ = tt

sign_byte : (byte : ℕ) → IsByte (sign_of byte) byte
sign_byte byte = sign_by byte (byte == 44) (byte == 59) (byte == 58) (byte == 46) (byte == 45) (byte == 40) (byte == 41) (byte == 126) refl refl refl refl

as_sign : (text : List ℕ) (s : Symbol) (t : Token) → t.kind ≡ kind.Punct → IsByte s (slice_index (text_of text t) 0) → IsToken text s t
as_sign text symbol.Comma t is byte = (is, byte)
as_sign text symbol.Semicolon t is byte = (is, byte)
as_sign text symbol.Dot t is byte = (is, byte)
as_sign text symbol.Minus t is byte = (is, byte)
as_sign text (symbol.Name n) t is byte = absurd byte
as_sign text (symbol.Number value) t is byte = absurd byte
as_sign text symbol.LineEnd t is byte = absurd byte
as_sign text _ t is byte = tt

as_name : (text : List ℕ) (o : Option Name) (t : Token) → t.kind ≡ kind.Name → IsToken text (name_symbol o) t
as_name text None t is = tt
as_name text (Some n) t is = is

token_by : (text : List ℕ) (k : TokenKind) (t : Token) → t.kind ≡ k → IsToken text (symbol_by k (text_of text t)) t
token_by text kind.Name t is = as_name text (name_of (text_of text t)) t is
token_by text (kind.Number value) t is = is
token_by text kind.Punct t is = as_sign text (sign_of (slice_index (text_of text t) 0)) t is (sign_byte (slice_index (text_of text t) 0))
token_by text kind.LineEnd t is = is

pub token_of : (text : List ℕ) (t : Token) (s : Symbol) → symbol_of text t ≡ s → IsToken text s t
token_of text t s is = subst (λ x. IsToken text x t) is (token_by text t.kind t refl)

-- what the expansion sees in them

-- whether a token is a name, a dot, a colon, a line's end
pub record Looks (text : List ℕ) (t : Token) (name dot colon end : Bool) : Type 0 where
  pub name_is : is_name text t ≡ name
  pub dot_is : is_dot text t ≡ dot
  pub colon_is : is_colon text t ≡ colon
  pub end_is : ends (seen_of text t) ≡ end

pub a_name : (text : List ℕ) (t : Token) → t.kind ≡ kind.Name → Looks text t true false false false
unfolding seen_of
a_name text t is = record { name_is = rw is refl; dot_is = rw is refl; colon_is = rw is refl; end_is = rw is refl }

pub a_number : (text : List ℕ) (value : ℕ) (t : Token) → t.kind ≡ kind.Number value → Looks text t false false false false
unfolding seen_of
a_number text value t is = record { name_is = rw is refl; dot_is = rw is refl; colon_is = rw is refl; end_is = rw is refl }

pub a_comma : (text : List ℕ) (t : Token) → IsSign text 44 t → Looks text t false false false false
unfolding seen_of sign_seen
a_comma text t (is, byte) = record { name_is = rw is refl; dot_is = rw (is, byte) refl; colon_is = rw (is, byte) refl; end_is = rw is refl }

pub a_semicolon : (text : List ℕ) (t : Token) → IsSign text 59 t → Looks text t false false false false
unfolding seen_of sign_seen
a_semicolon text t (is, byte) = record { name_is = rw is refl; dot_is = rw (is, byte) refl; colon_is = rw (is, byte) refl; end_is = rw is refl }

pub a_dot : (text : List ℕ) (t : Token) → IsSign text 46 t → Looks text t false true false false
unfolding seen_of sign_seen
a_dot text t (is, byte) = record { name_is = rw is refl; dot_is = rw (is, byte) refl; colon_is = rw (is, byte) refl; end_is = rw is refl }

pub a_minus : (text : List ℕ) (t : Token) → IsSign text 45 t → Looks text t false false false false
unfolding seen_of sign_seen
a_minus text t (is, byte) = record { name_is = rw is refl; dot_is = rw (is, byte) refl; colon_is = rw (is, byte) refl; end_is = rw is refl }

pub an_end : (text : List ℕ) (t : Token) → t.kind ≡ kind.LineEnd → Looks text t false false false true
unfolding seen_of
an_end text t is = record { name_is = rw is refl; dot_is = rw is refl; colon_is = rw is refl; end_is = rw is refl }

-- the symbols in lines that the disassembler writes
abbrev pub IsUsed : Symbol → Type 0
IsUsed (symbol.Name n) = Unit {0}
IsUsed (symbol.Number value) = Unit {0}
IsUsed symbol.Comma = Unit {0}
IsUsed symbol.Semicolon = Unit {0}
IsUsed symbol.Dot = Unit {0}
IsUsed symbol.Minus = Unit {0}
IsUsed _ = ⊥

-- none of them ends a line
pub no_end : (text : List ℕ) (s : Symbol) (t : Token) → IsUsed s → IsToken text s t → ends (seen_of text t) ≡ false
no_end text (symbol.Name n) t used is = (a_name text t is).end_is
no_end text (symbol.Number value) t used is = (a_number text value t is).end_is
no_end text symbol.Comma t used is = (a_comma text t is).end_is
no_end text symbol.Semicolon t used is = (a_semicolon text t is).end_is
no_end text symbol.Dot t used is = (a_dot text t is).end_is
no_end text symbol.Minus t used is = (a_minus text t is).end_is
no_end text _ t used is = absurd used

-- those that don't separate operands or parts
abbrev pub IsInside : Symbol → Type 0
IsInside (symbol.Name n) = Unit {0}
IsInside (symbol.Number value) = Unit {0}
IsInside symbol.Dot = Unit {0}
IsInside symbol.Minus = Unit {0}
IsInside _ = ⊥

pub inside : (text : List ℕ) (s : Symbol) (t : Token) → IsInside s → IsToken text s t → separates (seen_of text t) ≡ None
unfolding seen_of sign_seen
inside text (symbol.Name n) t used is = rw is refl
inside text (symbol.Number value) t used is = rw is refl
inside text symbol.Dot t used (is, byte) = rw (is, byte) refl
inside text symbol.Minus t used (is, byte) = rw (is, byte) refl
inside text _ t used is = absurd used
