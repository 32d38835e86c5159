-- This project's own: what the tokens of the disassembler's text are, as they are written: an expression
-- isn't worked out, so a negative number is a sign and a number.
use Rattle.std.specs.Prelude.{◌≡◌, ℕ, List, [], ◌∷◌, ◌++◌, map, flat_map, slice_index, Option, Some, None, Result, Ok, Err}
use Rattle.qpu_token.specs.declared.token.TokenKind.{TokenKind}
use Rattle.qpu_token.specs.declared.token.TokenKind.TheVariants as kind
use Rattle.qpu_token.specs.declared.token.Token.{Token}
use Rattle.qpu_token.specs.declared.fault.AsmFault.{AsmFault}
use Rattle.qpu_token.specs.Tokens.{AreTokens, text_of}
use Rattle.qpu_line.specs.declared.name.Name.TheVariants as name
use Rattle.qpu_line.specs.declared.symbol.Symbol.{Symbol}
use Rattle.qpu_line.specs.declared.symbol.Symbol.TheVariants as symbol
use Rattle.qpu_line.specs.declared.instruction.Instruction.{Instruction}
use Rattle.qpu_line.specs.Symbols.{sign_of, word_of}
use Rattle.qpu_line.specs.Canonical.{canonical_instruction}
use Rattle.qpu_line.specs.Lines.{Figure, Decimal, Negative, Hexadecimal, Bit, Word, Number, Comma, Semicolon, Dot, Dash, Space, line_bits}

-- what a token is, by its kind and its bytes
abbrev pub symbol_by : TokenKind → List ℕ → Symbol
symbol_by kind.Name word = word_of word
symbol_by (kind.Number value) word = symbol.Number value
symbol_by kind.Punct word = sign_of (slice_index word 0)
symbol_by kind.LineEnd word = symbol.LineEnd

abbrev pub symbol_of : List ℕ → Token → Symbol
symbol_of text token = symbol_by token.kind (text_of text token)

-- what is written of a number
abbrev pub figure_written : Figure → List Symbol
figure_written (Decimal n) = symbol.Number n ∷ []
figure_written (Negative n) = symbol.Minus ∷ symbol.Number n ∷ []
figure_written (Hexadecimal n) = symbol.Number n ∷ []

abbrev pub bit_written : Bit → List Symbol
bit_written (Word n) = symbol.Name n ∷ []
bit_written (Number figure) = figure_written figure
bit_written Comma = symbol.Comma ∷ []
bit_written Semicolon = symbol.Semicolon ∷ []
bit_written Dot = symbol.Dot ∷ []
bit_written Dash = symbol.Minus ∷ []
bit_written Space = []

unfoldable pub bits_written : List Bit → List Symbol
bits_written bits = flat_map bit_written bits

-- the symbols of a line, without its end
abbrev pub written_by : ℕ → Option Instruction → List Symbol
written_by word None = symbol.Dot ∷ symbol.Name name.Word ∷ symbol.Number word ∷ []
written_by word (Some i) = bits_written (line_bits i)

unfoldable pub line_written : ℕ → List Symbol
line_written word = written_by word (canonical_instruction word)

-- the symbols of lines, each with its end
unfoldable pub lines_written : List ℕ → List Symbol
lines_written words = flat_map (λ word. line_written word ++ symbol.LineEnd ∷ []) words

-- a text has tokens, and these are their symbols
pub record IsReadAs (text : List ℕ) (symbols : List Symbol) : Type 0 where
  pub tokens : List Token
  pub are : AreTokens text tokens
  pub symbols_are : map (symbol_of text) tokens ≡ symbols

-- an answer for a text's tokens, want of memory aside: tokens with these symbols, and no fault
abbrev pub IsAnsweredBy : List ℕ → List Symbol → Result (List Token) AsmFault → Type 0
IsAnsweredBy text symbols (Ok tokens) = map (symbol_of text) tokens ≡ symbols
IsAnsweredBy text symbols (Err fault) = ⊥
