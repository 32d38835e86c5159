-- Items of a record's schedule. This project's own.
use Rattle.std.specs.Prelude.{ℕ, ◌==◌, ◌&&◌, Bool, nat_le, List, [], ◌∷◌, Option, Some, None, option_map, option_and_then, Result, Ok, Err, if◌then◌else◌}
use Rattle.std.specs.Borrow.{Bor}
use Rattle.qpu_machine.specs.declared.actor.Actor.{Actor}
use Rattle.qpu_machine.specs.declared.actor.Actor.TheVariants.{Exec, Load, Store, Fetch}
use Rattle.qpu_machine.specs.declared.journal.Run.{Run}
use Rattle.qpu_record.specs.declared.fault.RecordFault.{RecordFault}
use Rattle.qpu_record.specs.declared.fault.RecordFault.TheVariants as fault
use Rattle.qpu_record.specs.declared.item.TheConstants.{MOST_COUNT, MOST_PROCESSOR, MOST_UNIT}
use Rattle.qpu_text.specs.Bytes.{SPACE}
use Rattle.qpu_text.specs.Lines.{cut_at}
use Rattle.qpu_record.specs.Numbers.{number_of}

abbrev pub is_space : ℕ → Bool
is_space byte = byte == SPACE

-- numbers with a space between each and the next

abbrev pub one_number : List ℕ → Option ℕ
one_number text = number_of MOST_COUNT text

-- a number, and what stands behind the space behind it
unfoldable pub first_number : List ℕ → Option (ℕ × List ℕ)
first_number text =
    if (cut_at SPACE text).found then option_map (λ number. (number, (cut_at SPACE text).rest)) (one_number (cut_at SPACE text).front)
    else None

-- without where it lies in memory
abbrev pub number_told : ℕ × Bor (List ℕ) → ℕ × List ℕ
number_told number = (number.0, number.1.now)

unfoldable pub two_numbers : List ℕ → Option (ℕ × ℕ)
two_numbers text =
    option_and_then (λ first. option_map (λ number. (first.0, number)) (one_number first.1)) (first_number text)

unfoldable pub three_numbers : List ℕ → Option (ℕ × ℕ × ℕ)
three_numbers text =
    option_and_then (λ first. option_map (λ others. (first.0, others.0, others.1)) (two_numbers first.1)) (first_number text)

-- the item of a letter and numbers

abbrev pub run_of : Actor → ℕ → Run
run_of actor count = record { actor = actor; count = count }

unfoldable pub lettered : ℕ → List ℕ → Option Run
lettered letter numbers =
    if letter == 113 then option_map (λ two. run_of (Exec two.0) two.1) (two_numbers numbers)
    else if letter == 108 then option_map (λ two. run_of (Load two.0) two.1) (two_numbers numbers)
    else if letter == 115 then option_map (λ two. run_of (Store two.0) two.1) (two_numbers numbers)
    else if letter == 116 then option_map (λ three. run_of (Fetch three.0 three.1) three.2) (three_numbers numbers)
    else None

-- the item that a line is
unfoldable pub item_of : List ℕ → Option Run
item_of [] = None
item_of (letter ∷ []) = None
item_of (letter ∷ space ∷ numbers) = if space == SPACE then lettered letter numbers else None

-- the ranges of its numbers

abbrev pub is_actor : Actor → Bool
is_actor (Exec q) = nat_le q MOST_PROCESSOR
is_actor (Load q) = nat_le q MOST_PROCESSOR
is_actor (Store q) = nat_le q MOST_PROCESSOR
is_actor (Fetch q unit) = nat_le q MOST_PROCESSOR && nat_le unit MOST_UNIT

abbrev pub is_in_range : Run → Bool
is_in_range run = is_actor run.actor && (nat_le 1 run.count && nat_le run.count MOST_COUNT)

-- the item of a line of this number, or why it is none
abbrev pub judged : ℕ → Option Run → Result Run RecordFault
judged number None = Err (fault.Line number)
judged number (Some run) = if is_in_range run then Ok run else Err (fault.Number number)

unfoldable pub item_at : ℕ → List ℕ → Result Run RecordFault
item_at number line = judged number (item_of line)
