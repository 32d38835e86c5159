-- What tokens are: their signs and texts. This project's own.
use Rattle.std.specs.Prelude.{ℕ, ◌==◌, Bool, nat_eq, List, slice_index, if◌then◌else◌}
use Rattle.std.specs.Cmp.Lexicographic.{pointwise}
use Rattle.qpu_token.specs.declared.token.TokenKind.{TokenKind}
use Rattle.qpu_token.specs.declared.token.TokenKind.TheVariants as kind
use Rattle.qpu_token.specs.declared.token.Token.{Token}
use Rattle.qpu_token.specs.declared.fault.AsmKind.{AsmKind}
use Rattle.qpu_token.specs.declared.fault.AsmFault.{AsmFault}
use Rattle.qpu_token.specs.Tokens.{text_of}
use Rattle.qpu_expr.specs.declared.place.Place.{Place}
use Rattle.qpu_expr.specs.declared.operator.Operator.TheVariants.{Times, Over, Rest, Plus, Minus, Left, Right, And, Xor, Or}
use Rattle.qpu_expr.specs.declared.symbol.Sign.{Sign}
use Rattle.qpu_expr.specs.declared.symbol.Sign.TheVariants.{Comma, Semicolon, Colon, Dot, Open, Close, Invert, Binary}
use Rattle.qpu_expr.specs.declared.symbol.Symbol.{Symbol}
use Rattle.qpu_expr.specs.declared.symbol.Symbol.TheVariants as symbol

-- the sign with a first byte; a sign that begins with `<` is `<<`, one that begins with `>` is `>>`
unfoldable pub sign_of : ℕ → Sign
sign_of byte =
    if byte == 44 then Comma
    else if byte == 59 then Semicolon
    else if byte == 58 then Colon
    else if byte == 46 then Dot
    else if byte == 40 then Open
    else if byte == 41 then Close
    else if byte == 126 then Invert
    else if byte == 42 then Binary Times
    else if byte == 47 then Binary Over
    else if byte == 37 then Binary Rest
    else if byte == 43 then Binary Plus
    else if byte == 45 then Binary Minus
    else if byte == 60 then Binary Left
    else if byte == 62 then Binary Right
    else if byte == 38 then Binary And
    else if byte == 94 then Binary Xor
    else Binary Or

-- what a token is
unfoldable pub symbol_of : List ℕ → Token → Symbol
symbol_of text token = by_kind token.kind
  where
    by_kind : TokenKind → Symbol
    by_kind kind.Name = symbol.Name
    by_kind (kind.Number value) = symbol.Number value
    by_kind kind.Punct = symbol.Sign (sign_of (slice_index (text_of text token) 0))
    by_kind kind.LineEnd = symbol.LineEnd

-- whether a token's text is a name
abbrev pub is_named : List ℕ → List ℕ → Token → Bool
is_named text name token = pointwise nat_eq (text_of text token) name

-- the place of a token, and that directly behind it
abbrev pub place_of : Token → Place
place_of token = record { line = token.line; column = token.column }

-- a fault at a place
abbrev pub fault_at : AsmKind → Place → AsmFault
fault_at kind place = record { kind = kind; line = place.line; column = place.column }
