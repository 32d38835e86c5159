-- What the tokens of a line stand for: by the place of its part's form that a token fills, whatever else
-- stands in the line. This project's own; what may stand where is the VideoCore IV 3D Architecture Reference
-- Guide's, "QPU Instruction Encoding".
use Rattle.std.specs.Prelude.{ℕ, ◌+◌, ◌%◌, ◌^◌, ◌==◌, ◌&&◌, Bool, true, not, nat_lt, nat_le, List, [], ◌∷◌, ◌++◌, map, take, drop, Option, Some, None, is_some, if◌then◌else◌}
use Rattle.qpu_word.specs.declared.name.Place.{Place}
use Rattle.qpu_word.specs.declared.name.Place.TheVariants as place
use Rattle.qpu_word.specs.declared.code.TheConstants.{ROWS, NOWHERE}
use Rattle.qpu_line.specs.declared.operand.Operand.{Operand}
use Rattle.qpu_line.specs.declared.operand.Operand.TheVariants as operand
use Rattle.qpu_line.specs.declared.name.Name.{Name}
use Rattle.qpu_line.specs.declared.name.Name.TheVariants as name
use Rattle.qpu_line.specs.declared.name.Register.TheVariants as register
use Rattle.qpu_line.specs.declared.symbol.Symbol.{Symbol}
use Rattle.qpu_line.specs.declared.symbol.Symbol.TheVariants as symbol
use Rattle.qpu_asm.specs.declared.placed.Placed.{Placed}
use Rattle.qpu_asm.specs.declared.mark.What.{What}
use Rattle.qpu_asm.specs.declared.mark.What.TheVariants as what
use Rattle.qpu_asm.specs.SectionTokens.{SectionTokens}
use Rattle.qpu_asm.specs.Signs.{is_dot, is_minus, is_colon, has_dot, length_of}
use Rattle.qpu_asm.specs.Roles.{target_meant, source_of, is_condition, is_set_flags, is_branch_condition, is_pack, is_row, if_link, unpack_name, code_of}
use Rattle.qpu_asm.specs.Forms.{Suffixed, Aim, Use, Slot, is_one, begins_with, filled, form}
use Rattle.qpu_asm.specs.Forms.Suffixed.{setting, settled, met, taken, packed, unpacked}
use Rattle.qpu_asm.specs.Forms.Aim.{anywhere, somewhere, linked, linked_somewhere, row, other_a, other_b}
use Rattle.qpu_asm.specs.Forms.Use.{any, between, turn}
use Rattle.qpu_asm.specs.Forms.Slot.{suffix_slot, target_slot, number_slot, operand_slot, way_slot}

-- what stands for something, or for nothing
abbrev pub stands_if : Bool → What → List What
stands_if holds w = if holds then w ∷ [] else []

abbrev pub wrong_unless : Bool → List What
wrong_unless holds = stands_if (not holds) what.Wrong

-- the name that a symbol is, where it is one of the language
abbrev pub name_of : Symbol → Option Name
name_of (symbol.Name n) = Some n
name_of _ = None

-- the name behind a sign
abbrev pub second_name : List Placed → Option Name
second_name (x ∷ y ∷ rest) = name_of y.symbol
second_name _ = None

-- targets

abbrev pub name_place : Symbol → Option Place
name_place (symbol.Name n) = target_meant n
name_place _ = None

abbrev pub place_of : Symbol → Option Place
place_of symbol.Minus = Some (place.Both NOWHERE)
place_of s = name_place s

abbrev pub writes : Option Place → List What
writes None = what.Wrong ∷ []
writes (Some p) = what.Writes p ∷ []

abbrev pub source_at : Symbol → Option Operand
source_at (symbol.Name n) = source_of n
source_at _ = None

abbrev pub reads_a : Option Operand → List What
reads_a (Some (operand.FileA n unpack)) = (if nat_lt n ROWS then what.Wrong else what.ReadsA n) ∷ []
reads_a _ = what.Wrong ∷ []

abbrev pub reads_b : Option Operand → List What
reads_b (Some (operand.FileB n)) = (if nat_lt n ROWS then what.Wrong else what.ReadsB n) ∷ []
reads_b _ = what.Wrong ∷ []

abbrev pub row_named : Symbol → List What
row_named (symbol.Name (name.Register (register.RowA n))) = []
row_named _ = what.Wrong ∷ []

abbrev pub aimed : Aim → Symbol → List What
aimed anywhere s = writes (place_of s)
aimed somewhere s = writes (name_place s)
aimed linked s = writes (if_link (place_of s))
aimed linked_somewhere s = writes (if_link (name_place s))
aimed row s = row_named s
aimed other_a s = reads_a (source_at s)
aimed other_b s = reads_b (source_at s)

-- numbers and operands

-- the token that is an expression by itself; an expression of several wasn't worked out, and is none
abbrev pub single : List Placed → Option Symbol
single [] = None
single (x ∷ rest) = if is_one (length_of (x ∷ rest)) then Some x.symbol else None

abbrev pub in_range : ℕ → ℕ → ℕ → List What
in_range low high v = stands_if (not (nat_le low v && nat_le v high)) what.Far

abbrev pub between_these : ℕ → ℕ → Option Symbol → List What
between_these low high (Some (symbol.Number v)) = in_range low high (v % 2 ^ 32)
between_these low high _ = what.Wrong ∷ []

abbrev pub turns : Option Symbol → List What
turns (Some (symbol.Name (name.Register (register.Accumulator n)))) = wrong_unless (n == 5)
turns s = between_these 1 15 s

abbrev pub any_number : Option Symbol → List What
any_number (Some (symbol.Number v)) = []
any_number _ = what.Wrong ∷ []

abbrev pub used : Use → Option Symbol → List What
used any s = any_number s
used (between low high) s = between_these low high s
used turn s = turns s

-- an operand; a row without an unpack mode has mode 0
abbrev pub operates_on : Bool → Bool → Option Operand → List What
operates_on mul dotted None = what.Wrong ∷ []
operates_on mul dotted (Some (operand.Accumulator n)) = stands_if (mul && nat_lt 3 n) what.Fixed
operates_on mul dotted (Some (operand.FileA n unpack)) = what.ReadsA n ∷ stands_if mul what.Fixed ++ stands_if (not dotted) (what.Unpacks n 0)
operates_on mul dotted (Some (operand.FileB n)) = what.ReadsB n ∷ stands_if mul what.Fixed
operates_on mul dotted (Some (operand.Small code)) = what.Wrong ∷ []

abbrev pub operates : Bool → Bool → Option Symbol → List What
operates mul dotted (Some (symbol.Name n)) = operates_on mul dotted (source_of n)
operates mul dotted (Some (symbol.Number v)) = what.Number (v % 2 ^ 32) ∷ stands_if (not (is_some (code_of (v % 2 ^ 32)))) what.Far
operates mul dotted _ = what.Wrong ∷ []

-- `-` with a suffix is told at the suffix
abbrev pub operand_means : Bool → List Placed → List What
operand_means mul [] = []
operand_means mul (x ∷ rest) = if is_minus x.symbol && has_dot rest then [] else operates mul (has_dot rest) (single (x ∷ rest))

-- an unpack mode at a row
abbrev pub unpack_means : ℕ → Option ℕ → List What
unpack_means n None = what.Wrong ∷ []
unpack_means n (Some mode) = what.Unpacks n mode ∷ []

abbrev pub unpacks_of : Option Operand → Option Name → List What
unpacks_of (Some (operand.FileA n unpack)) m = if nat_lt n ROWS then unpack_means n (unpack_name m) else what.Wrong ∷ []
unpacks_of (Some (operand.FileB n)) m = what.Wrong ∷ []
unpacks_of (Some (operand.Accumulator n)) m = what.Wrong ∷ []
unpacks_of _ m = []

abbrev pub unpacks_at : Symbol → Option Name → List What
unpacks_at (symbol.Name n) m = unpacks_of (source_of n) m
unpacks_at (symbol.Number v) m = what.Wrong ∷ []
unpacks_at symbol.Minus m = what.Wrong ∷ []
unpacks_at _ m = []

abbrev pub unpacks : List Placed → Option Name → List What
unpacks (x ∷ []) m = unpacks_at x.symbol m
unpacks _ m = []

-- where a branch goes

abbrev pub labelled : Option ℕ → List What
labelled None = what.Missing ∷ []
labelled (Some word) = []

abbrev pub jumps : Option Symbol → List What
jumps (Some (symbol.Number v)) = []
jumps (Some (symbol.Name (name.Register (register.RowA n)))) = []
jumps _ = what.Wrong ∷ []

abbrev pub goes : Bool → List Placed → List What
goes labels [] = []
goes labels (x ∷ rest) = if labels then labelled x.label else jumps (single (x ∷ rest))

-- suffixes

-- `.setf`, which the mul unit's part has only where the add unit is idle
abbrev pub sets : Bool → List What
sets mul = stands_if mul what.MulSets

abbrev pub first_place : List Placed → Option Place
first_place [] = None
first_place (x ∷ rest) = place_of x.symbol

abbrev pub tells : Bool → Suffixed → List Placed → Option Name → List What
tells mul (setting unit) before n = if is_set_flags n then sets (unit && mul) else wrong_unless (is_condition n)
tells mul (settled unit) before n = if is_condition (second_name before) && is_set_flags n then sets (unit && mul) else what.Wrong ∷ []
tells mul met before n = wrong_unless (is_condition n)
tells mul taken before n = wrong_unless (is_branch_condition n)
tells mul packed before n = wrong_unless (is_row (first_place before) && is_pack n)
tells mul unpacked before n = unpacks before n

-- what the first of the tokens that fill a place stands for; the others stand for nothing of their own
abbrev pub aimed_at : Aim → List Placed → List What
aimed_at a [] = []
aimed_at a (x ∷ rest) = aimed a x.symbol

abbrev pub means : Bool → Slot → List Placed → List Placed → List What
means mul (suffix_slot s) before xs = if begins_with is_dot xs then tells mul s before (second_name xs) else []
means mul (target_slot a) before xs = aimed_at a xs
means mul (number_slot u) before xs = used u (single xs)
means mul operand_slot before xs = operand_means mul xs
means mul way_slot before xs = goes (begins_with is_colon before) xs
means mul _ before xs = []

-- the tokens of a part

-- a token by the number of tokens before it in its part
abbrev pub first_stands : List What → List (ℕ × What)
first_stands ws = map (λ w. (0, w)) ws

abbrev pub moved : ℕ → List (ℕ × What) → List (ℕ × What)
moved n stands = map (λ s. (n + s.0, s.1)) stands

abbrev pub slots_stand : Bool → List Slot → List Placed → List Placed → List (ℕ × What)
slots_stand mul [] before xs = []
slots_stand mul (s ∷ slots) before xs =
    elim (filled s before xs) as (λ _. List (ℕ × What))
    [ None ↦ [] | Some n ↦ first_stands (means mul s before xs) ++ moved n (slots_stand mul slots (take n xs) (drop n xs)) ]

abbrev pub mnemonic_means : Bool → Name → List What
mnemonic_means mul (name.Add op) = stands_if (not mul) what.Adds
mnemonic_means mul (name.Mul op) = stands_if (not mul) what.Adds
mnemonic_means mul name.Mov = stands_if (not mul) what.Adds
mnemonic_means mul name.End = what.Signals ∷ []
mnemonic_means mul name.Load0 = what.Signals ∷ []
mnemonic_means mul name.Load1 = what.Signals ∷ []
mnemonic_means mul name.Rotate = what.Rotates ∷ []
mnemonic_means mul _ = []

abbrev pub symbol_stands : Bool → Symbol → List Placed → List (ℕ × What)
symbol_stands mul (symbol.Name n) rest = first_stands (mnemonic_means mul n) ++ moved 1 (slots_stand mul (form n) [] rest)
symbol_stands mul _ rest = []

abbrev pub part_stands : Bool → List Placed → List (ℕ × What)
part_stands mul [] = []
part_stands mul (x ∷ rest) = symbol_stands mul x.symbol rest

-- the tokens of a line, by the part and by the number of tokens before it in the part; behind the first part a
-- unit's is the mul unit's

abbrev pub Spot : Type 0
Spot = ℕ × ℕ

abbrev pub in_part : ℕ → List (ℕ × What) → List (Spot × What)
in_part i stands = map (λ s. ((i, s.0), s.1)) stands

abbrev pub line_stands : Bool → ℕ → List SectionTokens → List (Spot × What)
line_stands mul i [] = []
line_stands mul i (p ∷ parts) = in_part i (part_stands mul p.tokens) ++ line_stands true (i + 1) parts
