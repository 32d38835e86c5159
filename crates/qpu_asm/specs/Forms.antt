-- The forms of a line's parts: which places the tokens of a part fill, by its mnemonic, and which part may
-- stand behind which. What names stand for isn't asked here. This project's own, as docs/FORMATS.md tells it
-- under "Lines of assembly text".
use Rattle.std.specs.Prelude.{ℕ, ◌+◌, ◌==◌, ◌&&◌, ◌||◌, Bool, true, false, not, List, [], ◌∷◌, take, drop, Option, Some, None, is_some, option_map, if◌then◌else◌}
use Rattle.std.specs.List.{list_any}
use Rattle.qpu_line.specs.declared.name.Name.{Name}
use Rattle.qpu_line.specs.declared.name.Name.TheVariants as name
use Rattle.qpu_line.specs.declared.symbol.Symbol.{Symbol}
use Rattle.qpu_line.specs.declared.symbol.Symbol.TheVariants as symbol
use Rattle.qpu_asm.specs.declared.placed.Placed.{Placed}
use Rattle.qpu_asm.specs.Signs.{is_comma, is_dot, is_minus, is_colon, stops, has_dot, length_of}
use Rattle.qpu_asm.specs.Roles.{op_in_mul, takes_one, is_mnemonic}

-- places of a form

-- suffixes: a condition or `.setf`, and `.setf` behind a condition, both of a unit or of a load; a condition
-- alone; a branch condition; a pack; an unpack
pub data Suffixed : Type 0 where
  setting : Bool → Suffixed
  settled : Bool → Suffixed
  met : Suffixed
  taken : Suffixed
  packed : Suffixed
  unpacked : Suffixed

-- names: a target or `-`; a target; where a branch links to or `-`; that without `-`; a row of file A; what is
-- read of an address of file A or B above the rows
pub data Aim : Type 0 where
  anywhere : Aim
  somewhere : Aim
  linked : Aim
  linked_somewhere : Aim
  row : Aim
  other_a : Aim
  other_b : Aim

-- numbers: any; from one to another; a rotation, which may be by r5
pub data Use : Type 0 where
  any : Use
  between : ℕ → ℕ → Use
  turn : Use

pub data Slot : Type 0 where
  suffix_slot : Suffixed → Slot
  comma_slot : Slot
  target_slot : Aim → Slot
  number_slot : Use → Slot
  operand_slot : Slot
  colon_slot : Slot
  way_slot : Slot
  word_slot : Slot
  literal_slot : Slot

-- how many tokens fill a place

abbrev pub is_name : Symbol → Bool
is_name (symbol.Name n) = true
is_name symbol.Unknown = true
is_name _ = false

abbrev pub is_number : Symbol → Bool
is_number (symbol.Number v) = true
is_number _ = false

abbrev pub one_if : Bool → Option ℕ
one_if holds = if holds then Some 1 else None

abbrev pub is_one : Option ℕ → Bool
is_one None = false
is_one (Some n) = n == 1

-- behind a sign `.`
abbrev pub suffix_length : List Placed → Option ℕ
suffix_length [] = None
suffix_length (x ∷ rest) = if is_name x.symbol then Some 2 else None

abbrev pub target_length : List Placed → Option ℕ
target_length [] = None
target_length (x ∷ rest) = one_if ((is_minus x.symbol && stops rest) || (is_name x.symbol && is_one (length_of (x ∷ rest))))

abbrev pub operand_length : List Placed → Option ℕ
operand_length [] = None
operand_length (x ∷ rest) = if is_minus x.symbol && has_dot rest then Some 1 else length_of (x ∷ rest)

-- the first of some tokens is of a kind
abbrev pub begins_with : (Symbol → Bool) → List Placed → Bool
begins_with is [] = false
begins_with is (x ∷ rest) = is x.symbol

-- a place behind the tokens that fill the one before it; none where what stands there doesn't fill it
abbrev pub filled : Slot → List Placed → List Placed → Option ℕ
filled (suffix_slot s) before [] = Some 0
filled (suffix_slot s) before (x ∷ rest) = if is_dot x.symbol then suffix_length rest else Some 0
filled comma_slot before xs = one_if (begins_with is_comma xs)
filled (target_slot a) before xs = target_length xs
filled (number_slot u) before xs = length_of xs
filled operand_slot before xs = operand_length xs
filled colon_slot before xs = if begins_with is_colon xs then Some 1 else Some 0
filled way_slot before xs = if begins_with is_colon before then one_if (begins_with is_name xs) else length_of xs
filled word_slot before xs = one_if (begins_with is_name xs)
filled literal_slot before xs = one_if (begins_with is_number xs)

-- the first token that doesn't fill the place that is due, or stands behind the last; the number of tokens is
-- that of the end behind them
abbrev pub misfit : List Slot → List Placed → List Placed → Option ℕ
misfit [] before [] = None
misfit [] before (x ∷ rest) = Some 0
misfit (s ∷ slots) before xs =
    elim (filled s before xs) as (λ _. Option ℕ) [ None ↦ Some 0 | Some n ↦ option_map (λ k. n + k) (misfit slots (take n xs) (drop n xs)) ]

-- forms

abbrev pub operands : Bool → List Slot
operands true = operand_slot ∷ suffix_slot unpacked ∷ []
operands false = operand_slot ∷ suffix_slot unpacked ∷ comma_slot ∷ operand_slot ∷ suffix_slot unpacked ∷ []

abbrev pub unit_form : Name → List Slot
unit_form n = suffix_slot (setting true) ∷ suffix_slot (settled true) ∷ target_slot anywhere ∷ suffix_slot packed ∷ comma_slot ∷ operands (takes_one n)

abbrev pub branch_form : List Slot
branch_form = suffix_slot taken ∷ target_slot linked ∷ comma_slot ∷ colon_slot ∷ way_slot ∷ []

abbrev pub form : Name → List Slot
form (name.Add op) = unit_form (name.Add op)
form (name.Mul op) = unit_form (name.Mul op)
form name.Mov = unit_form name.Mov
form (name.Load kind) = suffix_slot (setting false) ∷ suffix_slot (settled false) ∷ target_slot anywhere ∷ comma_slot ∷ number_slot any ∷ []
form name.Also = suffix_slot met ∷ target_slot somewhere ∷ []
form name.Increment = number_slot (between 0 15) ∷ []
form name.Decrement = number_slot (between 0 15) ∷ []
form name.Branch = branch_form
form name.RelativeBranch = branch_form
form name.Link = target_slot linked_somewhere ∷ []
form name.Row = target_slot row ∷ []
form name.Rotate = number_slot turn ∷ []
form name.ReadA = target_slot other_a ∷ []
form name.ReadB = target_slot other_b ∷ []
form _ = []

-- a part by itself

-- a part that begins with a name that is no mnemonic
abbrev pub is_unknown_symbol : Symbol → Bool
is_unknown_symbol (symbol.Name n) = not (is_mnemonic n)
is_unknown_symbol symbol.Unknown = true
is_unknown_symbol _ = false

abbrev pub is_unknown : List Placed → Bool
is_unknown xs = begins_with is_unknown_symbol xs

abbrev pub symbol_misfit : Symbol → List Placed → Option ℕ
symbol_misfit (symbol.Name n) rest = if is_mnemonic n then option_map (λ k. 1 + k) (misfit (form n) [] rest) else None
symbol_misfit symbol.Unknown rest = None
symbol_misfit _ rest = Some 0

-- the token that isn't due in a part; behind a name that is no mnemonic nothing is asked
abbrev pub part_misfit : List Placed → Option ℕ
part_misfit [] = Some 0
part_misfit (x ∷ rest) = symbol_misfit x.symbol rest

-- which part may stand behind which

abbrev pub is_unit_name : Name → Bool
is_unit_name (name.Add op) = true
is_unit_name (name.Mul op) = true
is_unit_name name.Mov = true
is_unit_name _ = false

abbrev pub is_signal_name : Name → Bool
is_signal_name name.End = true
is_signal_name name.Load0 = true
is_signal_name name.Load1 = true
is_signal_name _ = false

abbrev pub is_rotate_name : Name → Bool
is_rotate_name name.Rotate = true
is_rotate_name _ = false

abbrev pub is_read_a_name : Name → Bool
is_read_a_name name.ReadA = true
is_read_a_name _ = false

abbrev pub is_read_b_name : Name → Bool
is_read_b_name name.ReadB = true
is_read_b_name _ = false

abbrev pub is_link_name : Name → Bool
is_link_name name.Link = true
is_link_name _ = false

abbrev pub is_row_part : Name → Bool
is_row_part name.Row = true
is_row_part _ = false

abbrev pub is_nop : Name → Bool
is_nop name.Nop = true
is_nop _ = false

-- one of the parts begins with a name of a kind
abbrev pub symbol_is : (Name → Bool) → Symbol → Bool
symbol_is is (symbol.Name n) = is n
symbol_is is _ = false

abbrev pub has_part : (Name → Bool) → List (List Placed) → Bool
has_part is parts = list_any (λ p. begins_with (symbol_is is) p) parts

abbrev pub no_part : (Name → Bool) → List (List Placed) → Bool
no_part is parts = not (has_part is parts)

-- what a line may begin with; names of both units are the add unit's there
abbrev pub begins : Name → Bool
begins (name.Add op) = true
begins name.Mov = true
begins name.Nop = true
begins (name.Load kind) = true
begins name.Increment = true
begins name.Decrement = true
begins name.Branch = true
begins name.RelativeBranch = true
begins _ = false

-- behind the units: one signal, one rotation where the mul unit is active, one other read of each file
abbrev pub may_extend : List (List Placed) → Name → Bool
may_extend later name.End = no_part is_signal_name later
may_extend later name.Load0 = no_part is_signal_name later
may_extend later name.Load1 = no_part is_signal_name later
may_extend later name.Rotate = has_part is_unit_name later && no_part is_rotate_name later
may_extend later name.ReadA = no_part is_read_a_name later
may_extend later name.ReadB = no_part is_read_b_name later
may_extend later _ = false

abbrev pub is_none : List (List Placed) → Bool
is_none [] = true
is_none (p ∷ parts) = false

-- directly behind the add unit's part: the mul unit's, which is idle only where the add unit is
abbrev pub may_join : Bool → List (List Placed) → Name → Bool
may_join idle later n = (is_none later && (is_some (op_in_mul n) || (idle && is_nop n))) || may_extend later n

-- where a branch goes is a number or a label, so a row may be added
abbrev pub is_place : List Placed → Bool
is_place [] = false
is_place (x ∷ []) = is_number x.symbol
is_place (x ∷ y ∷ rest) = is_colon x.symbol

abbrev pub behind_comma : List Placed → List Placed
behind_comma [] = []
behind_comma (x ∷ rest) = if is_comma x.symbol then rest else behind_comma rest

-- behind a branch: a link and a row, each once
abbrev pub may_link : List Placed → List (List Placed) → Name → Bool
may_link first later name.Link = no_part is_link_name later
may_link first later name.Row = no_part is_row_part later && is_place (behind_comma first)
may_link first later _ = false

abbrev pub may_also : List (List Placed) → Name → Bool
may_also later name.Also = is_none later
may_also later _ = false

abbrev pub may_follow : Name → List Placed → List (List Placed) → Name → Bool
may_follow name.Nop first later n = may_join true later n
may_follow (name.Add op) first later n = may_join false later n
may_follow (name.Mul op) first later n = may_join false later n
may_follow name.Mov first later n = may_join false later n
may_follow (name.Load kind) first later n = may_also later n
may_follow name.Branch first later n = may_link first later n
may_follow name.RelativeBranch first later n = may_link first later n
may_follow _ first later n = false

abbrev pub may_follow_symbol : Symbol → List Placed → List (List Placed) → Name → Bool
may_follow_symbol (symbol.Name m) first later n = may_follow m first later n
may_follow_symbol _ first later n = false

abbrev pub may_follow_part : List Placed → List (List Placed) → Name → Bool
may_follow_part [] later n = false
may_follow_part (x ∷ rest) later n = may_follow_symbol x.symbol rest later n

-- a part may stand behind the parts before it
abbrev pub may_stand : List (List Placed) → Name → Bool
may_stand [] n = begins n
may_stand (first ∷ later) n = may_follow_part first later n
