-- How the code steps: what its private functions are proved by. Contracts of public calls cite
-- Follow in place of it.
use Rattle.std.specs.Prelude.{ℕ, ◌+◌, ◌-◌, ◌/◌, ◌||◌, Bool, nat_lt, List, length, if◌then◌else◌}
use Rattle.qpu_word.specs.declared.word.Fields.{Fields}
use Rattle.qpu_word.specs.declared.code.TheConstants.{BRANCH_SLOTS, END_SLOTS, INSTRUCTION_BYTES}
use Rattle.qpu_word.specs.Words.{is_branch, is_program_end}
use Rattle.qpu_flow.specs.declared.control.Control.{Control}
use Rattle.qpu_flow.specs.declared.control.Progress.{Progress}
use Rattle.qpu_flow.specs.declared.control.Progress.TheVariants.{Straight, Ending, To}
use Rattle.qpu_flow.specs.declared.control.Target.{Target}
use Rattle.qpu_flow.specs.declared.control.Target.TheVariants.{Byte, AnyLink as ToAnyLink}
use Rattle.qpu_flow.specs.declared.control.Next.{Next}
use Rattle.qpu_flow.specs.declared.control.Next.TheVariants.{At, AnyLink, Ended, Outside}
use Rattle.qpu_flow.specs.Code.{fields_at}
use Rattle.qpu_flow.specs.Control.{is_always, target_from, is_word_byte}

-- control goes on to a place, where a word stands there
abbrev pub going : List ℕ → ℕ → Progress → Next
going code place rest = if nat_lt place (length code) then At (record { place = place; rest = rest }) else Outside

-- control arrives at a target
abbrev pub arrived : List ℕ → Target → Next
arrived code ToAnyLink = AnyLink
arrived code (Byte byte) =
    if is_word_byte code byte then At (record { place = byte / INSTRUCTION_BYTES; rest = Straight }) else Outside

-- control after a word that is no branch and no program end
abbrev pub gone_on : List ℕ → Progress → ℕ → Next
gone_on code Straight at = going code (at + 1) Straight
gone_on code (Ending slots) at = if nat_lt slots 2 then Ended else going code (at + 1) (Ending (slots - 1))
gone_on code (To slots target) at =
    if nat_lt slots 2 then arrived code target else going code (at + 1) (To (slots - 1) target)

-- what is in progress after a branch; one that isn't taken goes straight on
abbrev pub branched : ℕ → Fields → Bool → Progress
branched at f taken = if is_always f || taken then To BRANCH_SLOTS (target_from at f) else Straight

-- control after the word at its place
abbrev pub follow : List ℕ → Control → Bool → Next
follow code control taken =
    if is_branch (fields_at code control.place) then
    going code (control.place + 1) (branched control.place (fields_at code control.place) taken)
    else if is_program_end (fields_at code control.place) then going code (control.place + 1) (Ending END_SLOTS)
    else gone_on code control.rest control.place
