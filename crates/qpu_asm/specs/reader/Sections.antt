-- The sections of a line, between its signs `;`, and the parts that they are. This project's own.
use Rattle.std.specs.Prelude.{List, [], ◌∷◌, ◌++◌, fold, Option, Some, None, is_some, Result, Ok, Err, if◌then◌else◌}
use Rattle.std.specs.Option.{option_or}
use Rattle.qpu_token.specs.declared.token.Token.{Token}
use Rattle.qpu_line.specs.declared.symbol.Symbol.{Symbol}
use Rattle.qpu_line.specs.declared.symbol.Symbol.TheVariants as symbol
use Rattle.qpu_asm.specs.declared.placed.Placed.{Placed}
use Rattle.qpu_asm.specs.declared.part.Part.{Part}
use Rattle.qpu_asm.specs.Roles.{is_mnemonic}
use Rattle.qpu_asm.specs.reader.Reading.{go_on}
use Rattle.qpu_asm.specs.reader.Parts.{part_by}
use Rattle.qpu_asm.specs.reader.Orders.{due}
use Rattle.qpu_asm.specs.Signs.{is_semicolon}
use Rattle.qpu_asm.specs.SectionTokens.{SectionTokens}

-- sections

-- sections that are read, and the tokens of the next one
pub record Cutting : Type 0 where
  pub sections : List SectionTokens
  pub tokens : List Placed

abbrev pub nothing_cut : Cutting
nothing_cut = record { sections = []; tokens = [] }

abbrev pub put_section : Token → Cutting → Cutting
put_section end c = record { sections = c.sections ++ record { tokens = c.tokens; end = end } ∷ []; tokens = [] }

abbrev pub cut_on : Cutting → Placed → Cutting
cut_on c x = if is_semicolon x.symbol then put_section x.token c else record { sections = c.sections; tokens = c.tokens ++ x ∷ [] }

-- the sections of a line's tokens before its end
unfoldable pub sections_of : Token → List Placed → List SectionTokens
sections_of end xs = (put_section end (fold cut_on nothing_cut xs)).sections

-- a section by itself

abbrev pub part_of_symbol : Symbol → Token → Token → List Placed → Result Part Token
part_of_symbol (symbol.Name n) token end rest = part_by n token end rest
part_of_symbol _ token end rest = Err token

-- the part that a section is, or the token that isn't due
abbrev pub part_in : Token → List Placed → Result Part Token
part_in end [] = Err end
part_in end (x ∷ rest) = part_of_symbol x.symbol x.token end rest

-- a mnemonic that is none
abbrev pub unknown_symbol : Symbol → Token → Option Token
unknown_symbol (symbol.Name n) token = if is_mnemonic n then None else Some token
unknown_symbol symbol.Unknown token = Some token
unknown_symbol _ token = None

abbrev pub unknown_in : List Placed → Option Token
unknown_in [] = None
unknown_in (x ∷ rest) = unknown_symbol x.symbol x.token

abbrev pub fault_of : Result Part Token → Option Token
fault_of (Ok p) = None
fault_of (Err token) = Some token

-- the token that isn't due in a section by itself; behind a mnemonic that is none nothing is judged
abbrev pub own_fault : SectionTokens → Option Token
own_fault s = if is_some (unknown_in s.tokens) then None else fault_of (part_in s.end s.tokens)

-- the first that is there
abbrev pub first_of : (SectionTokens → Option Token) → List SectionTokens → Option Token
first_of told [] = None
first_of told (s ∷ sections) = option_or (told s) (first_of told sections)

-- sections in their order

abbrev pub part_after_symbol : List Part → Symbol → Token → Token → List Placed → Result Part Token
part_after_symbol earlier (symbol.Name n) token end rest = if due earlier n then part_by n token end rest else Err token
part_after_symbol earlier _ token end rest = Err token

-- the part that a section is behind others
abbrev pub part_after : List Part → Token → List Placed → Result Part Token
part_after earlier end [] = Err end
part_after earlier end (x ∷ rest) = part_after_symbol earlier x.symbol x.token end rest

abbrev pub parts_on : Result (List Part) Token → SectionTokens → Result (List Part) Token
parts_on read s = go_on read (λ earlier. go_on (part_after earlier s.end s.tokens) (λ p. Ok (earlier ++ p ∷ [])))

-- the parts of a line, or the first token that isn't due
unfoldable pub parts_of : List SectionTokens → Result (List Part) Token
parts_of sections = fold parts_on (Ok []) sections
