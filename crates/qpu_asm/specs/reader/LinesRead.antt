-- What a line says, or its first fault. This project's own.
use Rattle.std.specs.Prelude.{ℕ, List, [], ◌∷◌, slice_get, Option, Some, None, Result, Ok, Err, if◌then◌else◌}
use Rattle.qpu_token.specs.declared.token.Token.{Token}
use Rattle.qpu_token.specs.declared.fault.AsmKind.TheVariants as kind
use Rattle.qpu_token.specs.declared.fault.AsmFault.{AsmFault}
use Rattle.qpu_line.specs.declared.name.Name.TheVariants as name
use Rattle.qpu_line.specs.declared.symbol.Symbol.{Symbol}
use Rattle.qpu_line.specs.declared.symbol.Symbol.TheVariants as symbol
use Rattle.qpu_line.specs.Instructions.{word_of}
use Rattle.qpu_asm.specs.declared.placed.Placed.{Placed}
use Rattle.qpu_asm.specs.declared.piece.Core.{Core}
use Rattle.qpu_asm.specs.declared.part.Part.{Part}
use Rattle.qpu_asm.specs.declared.line.Line.{Line}
use Rattle.qpu_asm.specs.declared.line.Line.TheVariants.{Raw, Says}
use Rattle.qpu_asm.specs.reader.Reading.{go_on, ended}
use Rattle.qpu_asm.specs.Signs.{is_colon}
use Rattle.qpu_asm.specs.Signs.{is_comma, is_dot, length_of}
use Rattle.qpu_asm.specs.reader.Pieces.{name_alone}
use Rattle.qpu_asm.specs.SectionTokens.{SectionTokens}
use Rattle.qpu_asm.specs.reader.Sections.{sections_of, unknown_in, own_fault, first_of, parts_of}
use Rattle.qpu_asm.specs.reader.Marks.{marks_of}
use Rattle.qpu_asm.specs.Clashes.{fault_at}
use Rattle.qpu_asm.specs.reader.Judging.{line_fault}
use Rattle.qpu_asm.specs.reader.Meanings.{meaning}

-- directives

-- `.word` and a number: the line's word as it stands
abbrev pub number_symbol : Symbol → Token → List Placed → Result ℕ Token
number_symbol (symbol.Number n) token rest = ended n rest
number_symbol _ token rest = Err token

abbrev pub word_number : Token → List Placed → Result ℕ Token
word_number end [] = Err end
word_number end (x ∷ rest) = number_symbol x.symbol x.token rest

-- `.set` that isn't a name, a comma and an expression: the token that isn't due
abbrev pub token_or : Token → Option Placed → Token
token_or token None = token
token_or token (Some x) = x.token

abbrev pub set_value : Token → List Placed → Token
set_value end [] = end
set_value end (x ∷ rest) =
    elim (length_of (x ∷ rest)) as (λ _. Token) [ None ↦ x.token | Some n ↦ token_or x.token (slice_get (x ∷ rest) n) ]

abbrev pub set_comma : Token → List Placed → Token
set_comma end [] = end
set_comma end (x ∷ rest) = if is_comma x.symbol then set_value end rest else x.token

abbrev pub name_symbol : Option Core → Token → Token → List Placed → Token
name_symbol None token end rest = token
name_symbol (Some c) token end rest = set_comma end rest

abbrev pub set_name : Token → List Placed → Token
set_name end [] = end
set_name end (x ∷ rest) = name_symbol (name_alone x.symbol) x.token end rest

abbrev pub directive_symbol : Symbol → Token → Token → List Placed → Result Line Token
directive_symbol (symbol.Name name.Word) dot end rest = go_on (word_number end rest) (λ n. Ok (Raw n))
directive_symbol (symbol.Name name.Set) dot end rest = Err (set_name end rest)
directive_symbol _ dot end rest = Err dot

-- a line that begins with a sign `.`
abbrev pub directive : Token → Token → List Placed → Result Line Token
directive dot end [] = Err dot
directive dot end (x ∷ rest) = directive_symbol x.symbol dot end rest

-- a label that has no name, or stands behind another
abbrev pub first_token : Token → List Placed → Token
first_token end [] = end
first_token end (x ∷ rest) = x.token

abbrev pub behind_name : Option Core → Token → Token → List Placed → Token
behind_name None token end rest = token
behind_name (Some c) token end rest = first_token end rest

abbrev pub label_fault : Token → List Placed → Token
label_fault end [] = end
label_fault end (x ∷ rest) = behind_name (name_alone x.symbol) x.token end rest

-- instructions

-- a line with a mnemonic that is none
abbrev pub unknown_fault : List SectionTokens → Token → AsmFault
unknown_fault sections token =
    elim (first_of own_fault sections) as (λ _. AsmFault)
    [ None ↦ fault_at kind.UnknownOp token | Some other ↦ fault_at kind.Shape other ]

abbrev pub by_fault : Option AsmFault → Line → Result Line AsmFault
by_fault None line = Ok line
by_fault (Some fault) line = Err fault

abbrev pub by_parts : ℕ → Token → Result (List Part) Token → Result Line AsmFault
by_parts at end (Err token) = Err (fault_at kind.Shape token)
by_parts at end (Ok []) = Err (fault_at kind.Shape end)
by_parts at end (Ok (first ∷ later)) = by_fault (line_fault (marks_of (first ∷ later))) (Says (meaning at first later))

abbrev pub by_unknown : ℕ → Token → List SectionTokens → Option Token → Result Line AsmFault
by_unknown at end sections (Some token) = Err (unknown_fault sections token)
by_unknown at end sections None = by_parts at end (parts_of sections)

unfoldable pub instruction_line : ℕ → Token → List Placed → Result Line AsmFault
instruction_line at end xs =
    let sections = sections_of end xs in
    by_unknown at end sections (first_of (λ s. unknown_in s.tokens) sections)

-- the whole

abbrev pub shaped : Result Line Token → Result Line AsmFault
shaped (Ok line) = Ok line
shaped (Err token) = Err (fault_at kind.Shape token)

-- what a line with an end says, at a place of the program
unfoldable pub read_line : ℕ → Token → List Placed → Result Line AsmFault
read_line at end [] = Err (fault_at kind.Shape end)
read_line at end (x ∷ rest) =
    if is_dot x.symbol then shaped (directive x.token end rest)
    else if is_colon x.symbol then Err (fault_at kind.Shape (label_fault end rest))
    else instruction_line at end (x ∷ rest)

-- the word of a line
abbrev pub word_in : Line → ℕ
word_in (Raw n) = n
word_in (Says i) = word_of i
