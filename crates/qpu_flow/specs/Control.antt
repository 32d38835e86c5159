-- VideoCore IV 3D Architecture Reference Guide, "QPU Instruction Encoding" (branches) and "QPU Core
-- Architecture": which word follows which. Three slots execute after a branch and two after program
-- end. That a register branch goes to link points alone, and that a target is a word's place only
-- where it is a multiple of 8, are this project's own.
use Rattle.std.specs.Prelude.{◌≡◌, ◌≤◌, ℕ, ◌+◌, ◌-◌, ◌*◌, ◌/◌, ◌%◌, ◌==◌, ◌&&◌, ◌||◌, Bool, false, not, nat_lt, nat_le, List, length, filter, Option, Some, None, if◌then◌else◌}
use Rattle.std.specs.List.{range_with_len}
use Rattle.qpu_word.specs.declared.word.Word.{Word}
use Rattle.qpu_word.specs.declared.word.Fields.{Fields}
use Rattle.qpu_word.specs.declared.code.TheConstants.{BRANCH_SLOTS, END_SLOTS, INSTRUCTION_BYTES, PROGRAM_WORDS}
use Rattle.qpu_word.specs.Words.{is_branch, is_program_end, numbers_of}
use Rattle.qpu_word.specs.Operations.{low32}
use Rattle.qpu_word.specs.Instruction.{link_of, is_link_point}
use Rattle.qpu_word.specs.declared.code.TheConstants.{BRANCH_ALWAYS}
use Rattle.qpu_flow.specs.declared.slots.Slots.{Slots}
use Rattle.qpu_flow.specs.declared.slots.Successors.{Successors}
use Rattle.qpu_flow.specs.declared.control.Target.{Target}
use Rattle.qpu_flow.specs.declared.control.Target.TheVariants.{Byte, AnyLink as ToAnyLink}
use Rattle.qpu_decoded.specs.declared.decoded.Decoded.{Decoded}
use Rattle.qpu_flow.specs.Code.{fields_at, all_decoded, AllInProfile}

-- branches

-- a branch whose condition is always
abbrev pub is_always : Fields → Bool
is_always f = f.cond_br == BRANCH_ALWAYS

-- a branch that adds a row of file A to its target
abbrev pub is_register_branch : Fields → Bool
is_register_branch f = f.reg == 1

-- the target of a branch at a place that adds no row, in bytes
unfoldable pub plain_target : ℕ → Fields → ℕ
plain_target at f = low32 (f.immediate + (if f.rel == 1 then link_of at else 0))

-- where a taken branch at a place goes
abbrev pub target_from : ℕ → Fields → Target
target_from at f = if is_register_branch f then ToAnyLink else Byte (plain_target at f)

-- a byte address at which a word of the program stands
abbrev pub is_word_byte : List ℕ → ℕ → Bool
is_word_byte code byte = (byte % INSTRUCTION_BYTES == 0) && nat_lt (byte / INSTRUCTION_BYTES) (length code)

-- the link points of a program, in ascending order
unfoldable pub link_points : List ℕ → List ℕ
link_points code = filter (is_link_point code) (range_with_len 0 (length code))

-- a program's words, link points and decoded words, as they are kept: few enough, all in the profile
pub record IsFlow (words : List Word) (links : List ℕ) (decoded : List Decoded) : Type 0 where
  pub short : length words ≤ PROGRAM_WORDS
  pub inside : AllInProfile (numbers_of words)
  pub points : links ≡ link_points (numbers_of words)
  pub fields : decoded ≡ all_decoded words

-- slots

-- a word further in the slots; after the last slot nothing is in progress one word later
abbrev pub one_less : Option Slots → Option Slots
one_less None = None
one_less (Some slots) = if slots.left == 0 then None else Some (record slots { left = slots.left - 1 })

-- the slots in progress after the word at a place: a branch and program end begin their own; the
-- count is 0 directly after the last slot
abbrev pub slots_after : List ℕ → Option Slots → ℕ → Option Slots
slots_after code before at =
    if is_branch (fields_at code at) then Some (record { place = at; left = BRANCH_SLOTS })
    else if is_program_end (fields_at code at) then Some (record { place = at; left = END_SLOTS })
    else one_less before

-- successors

-- nothing follows
abbrev pub nowhere : Successors
nowhere = record { ahead = None; jump = None; any_link = false }

-- the next word follows
abbrev pub straight_on : ℕ → Successors
straight_on at = record { ahead = Some (at + 1); jump = None; any_link = false }

-- what follows the last slot, at a place, of a branch at another place: the next word where the
-- condition isn't always; the target, or with a row any link point
abbrev pub after_branch : List ℕ → ℕ → ℕ → Successors
after_branch code branch at = record {
  ahead = (if is_always (fields_at code branch) then None else Some (at + 1));
  jump = (if is_register_branch (fields_at code branch) then None else Some (plain_target branch (fields_at code branch)));
  any_link = is_register_branch (fields_at code branch);
}

-- what follows the last slot of a branch or program end
abbrev pub after_last_slot : List ℕ → ℕ → ℕ → Successors
after_last_slot code begun at = if is_branch (fields_at code begun) then after_branch code begun at else nowhere

-- what follows the last word, after which these slots are in progress; before any word, word 0
abbrev pub next_from : List ℕ → Option Slots → Option ℕ → Successors
next_from code slots None = record { ahead = Some 0; jump = None; any_link = false }
next_from code None (Some at) = straight_on at
next_from code (Some slots) (Some at) =
    if slots.left == 0 then after_last_slot code slots.place at else straight_on at

-- successors ask for a place
abbrev pub asks_for : Option ℕ → ℕ → Bool
asks_for None at = false
asks_for (Some asked) at = asked == at

-- a word of the program is among the successors
abbrev pub leads_to : List ℕ → Successors → ℕ → Bool
leads_to code next at =
    nat_lt at (length code)
    && (asks_for next.ahead at || asks_for next.jump (INSTRUCTION_BYTES * at) || (next.any_link && is_link_point code at))

-- a place behind the last word
abbrev pub is_past : List ℕ → Option ℕ → Bool
is_past code None = false
is_past code (Some at) = nat_le (length code) at

-- a byte address at which no word of the program stands
abbrev pub is_no_word : List ℕ → Option ℕ → Bool
is_no_word code None = false
is_no_word code (Some byte) = not (is_word_byte code byte)

-- successors ask for an address that is no word of the program
abbrev pub leads_out : List ℕ → Successors → Bool
leads_out code next = is_past code next.ahead || is_no_word code next.jump
