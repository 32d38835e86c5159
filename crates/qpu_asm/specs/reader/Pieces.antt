-- The pieces of a part: targets, operands, numbers and labels. This project's own.
use Rattle.std.specs.Prelude.{ℕ, ◌%◌, ◌^◌, ◌==◌, ◌&&◌, List, [], ◌∷◌, drop, Option, Some, None, Result, Ok, Err, if◌then◌else◌}
use Rattle.qpu_token.specs.declared.token.Token.{Token}
use Rattle.qpu_line.specs.declared.name.Name.{Name}
use Rattle.qpu_line.specs.declared.symbol.Symbol.{Symbol}
use Rattle.qpu_line.specs.declared.symbol.Symbol.TheVariants as symbol
use Rattle.qpu_asm.specs.declared.placed.Placed.{Placed}
use Rattle.qpu_asm.specs.declared.piece.Core.{Core}
use Rattle.qpu_asm.specs.declared.piece.Core.TheVariants as core
use Rattle.qpu_asm.specs.declared.piece.Suffix.{Suffix}
use Rattle.qpu_asm.specs.declared.piece.Piece.{Piece}
use Rattle.qpu_asm.specs.Signs.{is_comma, is_dot, is_minus, is_colon, stops, has_dot, length_of}
use Rattle.qpu_asm.specs.reader.Reading.{Read, go_on}

-- names, of the language or not
abbrev pub named : Symbol → Option (Option Name)
named (symbol.Name n) = Some (Some n)
named symbol.Unknown = Some None
named _ = None

-- suffixes

abbrev pub suffix_of : Token → Token → List Placed → Option (Option Name) → Read (Option Suffix)
suffix_of dot word behind None = Err dot
suffix_of dot word behind (Some name) = Ok (Some (record { dot = dot; name = name }), behind)

abbrev pub suffix_behind : Token → List Placed → Read (Option Suffix)
suffix_behind dot [] = Err dot
suffix_behind dot (word ∷ behind) = suffix_of dot word.token behind (named word.symbol)

-- a sign `.` and a name, where the sign stands at the front
abbrev pub suffix_at : List Placed → Read (Option Suffix)
suffix_at [] = Ok (None, [])
suffix_at (x ∷ rest) = if is_dot x.symbol then suffix_behind x.token rest else Ok (None, x ∷ rest)

-- cores

-- names and numbers that are a piece by themselves
abbrev pub alone : Symbol → Option Core
alone (symbol.Name n) = Some (core.Name n)
alone symbol.Unknown = Some core.Unknown
alone (symbol.Number n) = Some (core.Number (n % 2 ^ 32))
alone _ = None

abbrev pub name_alone : Symbol → Option Core
name_alone (symbol.Name n) = Some (core.Name n)
name_alone symbol.Unknown = Some core.Unknown
name_alone _ = None

abbrev pub bare : Core → Token → Piece
bare c token = record { core = c; token = token; suffix = None }

abbrev pub target_of_length : Placed → List Placed → Option Core → Option ℕ → Read Piece
target_of_length x rest None n = Err x.token
target_of_length x rest (Some c) None = Err x.token
target_of_length x rest (Some c) (Some n) = if n == 1 then Ok (bare c x.token, rest) else Err x.token

-- a target: a name, or `-`
unfoldable pub target_core : Token → List Placed → Read Piece
target_core end [] = Err end
target_core end (x ∷ rest) =
    if is_minus x.symbol && stops rest then Ok (bare core.Nowhere x.token, rest)
    else target_of_length x rest (name_alone x.symbol) (length_of (x ∷ rest))

abbrev pub value_of_length : Placed → List Placed → Option Core → Option ℕ → Read Piece
value_of_length x rest c None = Err x.token
value_of_length x rest None (Some n) = Ok (bare core.Unknown x.token, drop n (x ∷ rest))
value_of_length x rest (Some c) (Some n) =
    if n == 1 then Ok (bare c x.token, rest) else Ok (bare core.Unknown x.token, drop n (x ∷ rest))

-- an operand or a number. An expression of several tokens wasn't worked out, and is none
unfoldable pub value_core : Token → List Placed → Read Piece
value_core end [] = Err end
value_core end (x ∷ rest) = value_of_length x rest (alone x.symbol) (length_of (x ∷ rest))

abbrev pub label_by : Placed → List Placed → Option Core → Read Piece
label_by x rest None = Err x.token
label_by x rest (Some c) = Ok (bare (core.Label x.label) x.token, rest)

-- the name of a label behind its sign `:`
abbrev pub label_core : Token → List Placed → Read Piece
label_core end [] = Err end
label_core end (x ∷ rest) = label_by x rest (name_alone x.symbol)

-- where a branch goes: a label, a number or a name
unfoldable pub jump_core : Token → List Placed → Read Piece
jump_core end [] = value_core end []
jump_core end (x ∷ rest) = if is_colon x.symbol then label_core end rest else value_core end (x ∷ rest)

-- an operand of a unit: `-` with a suffix is the name of a target, which no operand is; alone it begins an
-- expression that can't be completed
unfoldable pub operand_core : Token → List Placed → Read Piece
operand_core end [] = value_core end []
operand_core end (x ∷ rest) =
    if is_minus x.symbol && has_dot rest then Ok (bare core.Nowhere x.token, rest) else value_core end (x ∷ rest)

-- with their suffixes

abbrev pub with_suffix : Read Piece → Read Piece
with_suffix read = go_on read (λ p. go_on (suffix_at p.1) (λ s. Ok (record p.0 { suffix = s.0 }, s.1)))

unfoldable pub target_at : Token → List Placed → Read Piece
target_at end xs = with_suffix (target_core end xs)

unfoldable pub operand_at : Token → List Placed → Read Piece
operand_at end xs = with_suffix (operand_core end xs)

-- a comma
abbrev pub comma_at : Token → List Placed → Result (List Placed) Token
comma_at end [] = Err end
comma_at end (x ∷ rest) = if is_comma x.symbol then Ok rest else Err x.token
