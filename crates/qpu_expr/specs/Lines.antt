-- The lines of a text, and what they begin with. This project's own.
use Rattle.std.specs.Prelude.{ℕ, ◌+◌, ◌-◌, ◌^◌, min, ◌==◌, ◌&&◌, Bool, true, false, List, [], ◌∷◌, ◌++◌, drop, fold, codes, Option, Some, None, option_map, is_some, if◌then◌else◌}
use Rattle.qpu_token.specs.declared.token.Token.{Token}
use Rattle.qpu_token.specs.Tokens.{text_of}
use Rattle.qpu_expr.specs.declared.symbol.Sign.TheVariants as sign
use Rattle.qpu_expr.specs.declared.symbol.Symbol.{Symbol}
use Rattle.qpu_expr.specs.declared.symbol.Symbol.TheVariants as symbol
use Rattle.qpu_expr.specs.declared.line.Head.{Head}
use Rattle.qpu_expr.specs.declared.line.Head.TheVariants as head
use Rattle.qpu_expr.specs.declared.line.Pair.{Pair}
use Rattle.qpu_expr.specs.declared.line.Pair.TheVariants.{Repeat, Macro}
use Rattle.qpu_expr.specs.declared.line.Nesting.{Nesting}
use Rattle.qpu_expr.specs.declared.line.Nesting.TheVariants as nesting
use Rattle.qpu_expr.specs.Symbols.{symbol_of}
use Rattle.qpu_expr.specs.Registers.{is_text}
use Rattle.qpu_expr.specs.Operands.{is_name, is_dot}
use Rattle.qpu_expr.specs.LineTokens.{LineTokens}

-- lines

-- the column behind a token; columns end at 2^32 - 1, which no text of at most 2^28 bytes reaches
abbrev pub column_behind : Token → ℕ
column_behind token = min (token.column + (token.to - token.from)) (2 ^ 32 - 1)

-- the place of a line's end is directly behind its last token
abbrev pub moved_to : Token → Option Token → Token
moved_to end None = end
moved_to end (Some last) = record end { line = last.line; column = column_behind last }

-- lines that are read, and the tokens of the next one, with its last
pub record Lining : Type 0 where
  pub lines : List LineTokens
  pub tokens : List Token
  pub last : Option Token

abbrev pub no_line : Lining
no_line = record { lines = []; tokens = []; last = None }

abbrev pub ends : Symbol → Bool
ends symbol.LineEnd = true
ends _ = false

abbrev pub lined : List ℕ → Lining → Token → Lining
lined text l token =
    if ends (symbol_of text token)
    then record { lines = l.lines ++ record { tokens = l.tokens; end = moved_to token l.last } ∷ []; tokens = []; last = None }
    else record { lines = l.lines; tokens = l.tokens ++ token ∷ []; last = Some token }

-- the lines of tokens; each token belongs to the line that the next line end ends
unfoldable pub lines_of : List ℕ → List Token → List LineTokens
lines_of text tokens = (fold (lined text) no_line tokens).lines

-- labels

abbrev pub colons : Symbol → Bool
colons (symbol.Sign sign.Colon) = true
colons _ = false

abbrev pub is_colon : List ℕ → Token → Bool
is_colon text token = colons (symbol_of text token)

-- the name of a line's label: a `:` and a name that begin the line
abbrev pub label_of : List ℕ → List Token → Option Token
label_of text [] = None
label_of text (colon ∷ []) = None
label_of text (colon ∷ name ∷ rest) = if is_colon text colon && is_name text name then Some name else None

abbrev pub behind_label : List ℕ → List Token → List Token
behind_label text tokens = if is_some (label_of text tokens) then drop 2 tokens else tokens

-- a line that is left as it is, behind its label. A second label isn't due: its line is left with the
-- first one, so that the token that isn't due can be told
abbrev pub left_tokens : List ℕ → List Token → List Token → List Token
left_tokens text whole [] = []
left_tokens text whole (first ∷ rest) = if is_colon text first then whole else first ∷ rest

-- heads

-- a directive by its word
unfoldable pub word_head : List ℕ → Head
word_head word =
    if is_text word (codes "set") then head.Set
    else if is_text word (codes "rep") then head.Opens Repeat
    else if is_text word (codes "endr") then head.Closes Repeat
    else if is_text word (codes "macro") then head.Opens Macro
    else if is_text word (codes "endm") then head.Closes Macro
    else if is_text word (codes "word") then head.Word
    else head.Other

abbrev pub directive : List ℕ → List Token → Head
directive text [] = head.Other
directive text (name ∷ rest) = if is_name text name then word_head (text_of text name) else head.Other

-- what begins a line behind its label. Another label, or one without a name, is no part of a line
unfoldable pub head_of : List ℕ → List Token → Head
head_of text [] = head.Nothing
head_of text (first ∷ rest) =
    if is_dot text first then directive text rest
    else if is_colon text first then head.Other
    else head.Instruction

-- bodies

-- what a line does to the count of bodies of a pair that are open
abbrev pub nesting_of : Pair → Head → Nesting
nesting_of Repeat (head.Opens Repeat) = nesting.Opens
nesting_of Macro (head.Opens Macro) = nesting.Opens
nesting_of Repeat (head.Closes Repeat) = nesting.Closes
nesting_of Macro (head.Closes Macro) = nesting.Closes
nesting_of pair _ = nesting.Stays

-- none where the body itself is closed
abbrev pub nested : ℕ → Nesting → Option ℕ
nested depth nesting.Opens = Some (depth + 1)
nested depth nesting.Closes = if depth == 0 then None else Some (depth - 1)
nested depth nesting.Stays = Some depth

-- how many lines stand before the one that closes a body, with so many bodies inside it open
abbrev pub body_length : Pair → List ℕ → ℕ → List LineTokens → Option ℕ
body_length pair text depth [] = None
body_length pair text depth (line ∷ lines) =
    elim (nested depth (nesting_of pair (head_of text (behind_label text line.tokens)))) as (λ _. Option ℕ)
    [ None ↦ Some 0 | Some inner ↦ option_map (λ n. n + 1) (body_length pair text inner lines) ]
