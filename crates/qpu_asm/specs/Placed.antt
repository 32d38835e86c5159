-- This project's own: what the tokens of a line are.
use Rattle.std.specs.Prelude.{ℕ, List, slice_index}
use Rattle.qpu_token.specs.declared.token.TokenKind.{TokenKind}
use Rattle.qpu_token.specs.declared.token.TokenKind.TheVariants as kind
use Rattle.qpu_token.specs.declared.token.Token.{Token}
use Rattle.qpu_token.specs.Tokens.{text_of}
use Rattle.qpu_expr.specs.Tables.{found}
use Rattle.qpu_line.specs.declared.symbol.Symbol.{Symbol}
use Rattle.qpu_line.specs.declared.symbol.Symbol.TheVariants as symbol
use Rattle.qpu_line.specs.Symbols.{sign_of, word_of}
use Rattle.qpu_asm.specs.declared.placed.Placed.{Placed}

-- what a token is
unfoldable pub symbol_of : List ℕ → Token → Symbol
symbol_of text token = by_kind token.kind
  where
    by_kind : TokenKind → Symbol
    by_kind kind.Name = word_of (text_of text token)
    by_kind (kind.Number value) = symbol.Number value
    by_kind kind.Punct = sign_of (slice_index (text_of text token) 0)
    by_kind kind.LineEnd = symbol.LineEnd

-- the words behind labels, by their names
abbrev pub Labels : Type 0
Labels = List (List ℕ × ℕ)

-- a token with what it is, and the word behind the label with its text
unfoldable pub placed_token : List ℕ → Labels → Token → Placed
placed_token text labels token = record { symbol = symbol_of text token; token = token; label = found (text_of text token) labels }
