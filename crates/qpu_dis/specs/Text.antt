-- This project's own: the text of canonical lines, and of the words that have none.
use Rattle.std.specs.Prelude.{ℕ, ◌-◌, ◌==◌, ◌&&◌, Bool, not, is_some, if◌then◌else◌, List, [], ◌∷◌, ◌++◌, flat_map, decimal, codes, Option, Some, None}
use Rattle.qpu_word.specs.declared.code.TheConstants.{ROTATE_BY_R5}
use Rattle.qpu_text.specs.Digits.{hex_digits}
use Rattle.qpu_line.specs.declared.instruction.Instruction.{Instruction}
use Rattle.qpu_line.specs.declared.operand.Operand.{Operand}
use Rattle.qpu_line.specs.declared.branch.Branch.{Branch}
use Rattle.qpu_line.specs.declared.units.Units.{Units}
use Rattle.qpu_line.specs.declared.name.Name.{Name}
use Rattle.qpu_line.specs.declared.name.Name.TheVariants as name
use Rattle.qpu_line.specs.declared.name.Register.TheVariants as register
use Rattle.qpu_line.specs.Spellings.{spelling}
use Rattle.qpu_line.specs.Canonical.{canonical_instruction}
use Rattle.qpu_line.specs.Lines.{Figure, Decimal, Negative, Hexadecimal, Bit, Word, Number, Comma, Semicolon, Dot, Dash, Space, and_then, operand_bits, add_bits, mul_bits, signed_figure, line_bits}

-- how a number is written
abbrev pub figure_text : Figure → List ℕ
figure_text (Decimal n) = decimal n
figure_text (Negative n) = codes "-" ++ decimal n
figure_text (Hexadecimal n) = codes "0x" ++ hex_digits 8 n

abbrev pub bit_text : Bit → List ℕ
bit_text (Word name) = spelling name
bit_text (Number figure) = figure_text figure
bit_text Comma = codes ","
bit_text Semicolon = codes ";"
bit_text Dot = codes "."
bit_text Dash = codes "-"
bit_text Space = codes " "

-- the bits one behind the other
unfoldable pub bits_text : List Bit → List ℕ
bits_text bits = flat_map bit_text bits

abbrev pub line_text : Instruction → List ℕ
line_text i = bits_text (line_bits i)

-- a target's name, or what stands in place of one
abbrev pub name_or_dash : Option Name → List Bit
name_or_dash None = Dash ∷ []
name_or_dash (Some name) = Word name ∷ []

-- the second operand of an operation that has two
abbrev pub second_bits : Bool → Operand → List Bit
second_bits one operand = if one then [] else and_then (operand_bits operand)

-- how far is rotated
abbrev pub rotation_bit : ℕ → Bit
rotation_bit code =
    if code == ROTATE_BY_R5 then Word (name.Register (register.Accumulator 5)) else Number (Decimal (code - ROTATE_BY_R5))

-- the name of a branch
abbrev pub branch_name : Bool → Name
branch_name relative = if relative then name.RelativeBranch else name.Branch

-- how far a branch goes, or where to
abbrev pub distance_bit : Branch → Bit
distance_bit b = Number (if b.relative then signed_figure b.immediate else Hexadecimal b.immediate)

-- the parts of both units
abbrev pub parts_bits : Units → List Bit
parts_bits u = add_bits u.sets u.add ++ mul_bits (u.sets && not (is_some u.add)) u.mul

-- a word that isn't canonical
abbrev pub plain_text : ℕ → List ℕ
plain_text word = codes ".word 0x" ++ hex_digits 16 word

-- the line of a canonical word, or the word itself
abbrev pub line_or_word : ℕ → Option Instruction → List ℕ
line_or_word word None = plain_text word
line_or_word word (Some i) = line_text i

unfoldable pub canonical_line : ℕ → List ℕ
canonical_line word = line_or_word word (canonical_instruction word)

-- the lines of words, each with its end
abbrev pub ended_line : ℕ → List ℕ
ended_line word = canonical_line word ++ codes "\n"

unfoldable pub disassembly : List ℕ → List ℕ
disassembly words = flat_map ended_line words
