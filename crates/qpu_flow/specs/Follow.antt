-- Where control goes once its choices are made, told by the words that may follow. The choice at a
-- branch is made there, and is kept in its slots.
use Rattle.std.specs.Prelude.{◌≡◌, ◌<◌, ◌⊎◌, ◌↔◌, ◌&&◌, ◌||◌, ℕ, Bool, true, false, List, Option, Some, None, is_some, IfSome, IsSomeAnd, if◌then◌else◌}
use Rattle.qpu_word.specs.declared.word.Fields.{Fields}
use Rattle.qpu_word.specs.Words.{is_branch, is_program_end}
use Rattle.qpu_flow.specs.declared.slots.Slots.{Slots}
use Rattle.qpu_flow.specs.declared.slots.Successors.{Successors}
use Rattle.qpu_flow.specs.declared.control.Control.{Control}
use Rattle.qpu_flow.specs.declared.control.Progress.{Progress}
use Rattle.qpu_flow.specs.declared.control.Progress.TheVariants.{Straight, Ending, To}
use Rattle.qpu_flow.specs.declared.control.Next.{Next}
use Rattle.qpu_flow.specs.declared.control.Next.TheVariants.{At, AnyLink, Ended, Outside}
use Rattle.qpu_flow.specs.Code.{fields_at}
use Rattle.qpu_flow.specs.Control.{is_always, target_from, slots_after, next_from, nowhere, leads_to, leads_out}

-- what is in progress fits the slots that a path leaves: nothing where none are left to execute, or
-- after a branch that can be left untaken; program end, or a taken branch, with as many slots left
abbrev pub RestIs : List ℕ → Option Slots → Progress → Type 0
RestIs code slots Straight =
    IfSome slots (λ s.
    (s.left ≡ 0) ⊎ ((is_branch (fields_at code s.place) ≡ true) × (is_always (fields_at code s.place) ≡ false)))
RestIs code slots (Ending left) =
    IsSomeAnd slots (λ s. (s.left ≡ left) × (0 < left) × (is_program_end (fields_at code s.place) ≡ true))
RestIs code slots (To left target) =
    IsSomeAnd slots (λ s.
    (s.left ≡ left) × (0 < left) × (is_branch (fields_at code s.place) ≡ true)
    × (target ≡ target_from s.place (fields_at code s.place)))

-- choices

-- a taken branch is in progress
abbrev pub has_target : Progress → Bool
has_target Straight = false
has_target (Ending left) = false
has_target (To left target) = true

-- whether the branch in progress after a word is taken: at the branch, where it is unconditional or
-- told to be taken; in its slots, where it was
abbrev pub is_chosen : Fields → Bool → Progress → Bool
is_chosen f taken rest = if is_branch f then is_always f || taken else has_target rest

-- while slots are left, a taken branch is in progress exactly where they are a branch's that is taken
abbrev pub KeepsChoice : List ℕ → Option Slots → Bool → Progress → Type 0
KeepsChoice code slots chosen rest =
    IfSome slots (λ s. 0 < s.left → has_target rest ≡ (is_branch (fields_at code s.place) && chosen))

-- ways

-- what may follow the word where control stands, with these slots in progress before it
abbrev pub ways : List ℕ → Option Slots → Control → Successors
ways code slots control = next_from code (slots_after code slots control.place) (Some control.place)

-- the way of these that is chosen: after the last slot of a taken branch the way to its target or to
-- any link point, else the next word
abbrev pub chosen_way : Progress → Successors → Successors
chosen_way rest next =
    if has_target rest && (is_some next.jump || next.any_link) then record next { ahead = None }
    else record next { jump = None; any_link = false }

-- control goes on: its way leads to the place, and what is in progress there fits the slots after the
-- word and keeps the choice
pub record GoesOn (code : List ℕ) (slots : Option Slots) (control : Control) (taken : Bool) (after : Control) : Type 0 where
  pub place : leads_to code (chosen_way control.rest (ways code slots control)) after.place ≡ true
  pub rest : RestIs code (slots_after code slots control.place) after.rest
  pub choice : KeepsChoice code (slots_after code slots control.place) (is_chosen (fields_at code control.place) taken control.rest) after.rest

-- where control goes after the word at its place, with these slots in progress before it. It goes to
-- any link point exactly where its way does, to no word exactly where nothing may follow, outside
-- exactly where its way asks for an address that is no word; else it goes on
pub record Follows (code : List ℕ) (slots : Option Slots) (control : Control) (taken : Bool) (next : Next) : Type 0 where
  pub any_link : (next ≡ AnyLink) ↔ ((chosen_way control.rest (ways code slots control)).any_link ≡ true)
  pub ended : (next ≡ Ended) ↔ (ways code slots control ≡ nowhere)
  pub outside : (next ≡ Outside) ↔ (leads_out code (chosen_way control.rest (ways code slots control)) ≡ true)
  pub at : (after : Control) → next ≡ At after → GoesOn code slots control taken after

-- one answer at most follows
abbrev pub OneFollows : Type 0
OneFollows = (code : List ℕ) (slots : Option Slots) (control : Control) (taken : Bool) (x y : Next) → Follows code slots control taken x → Follows code slots control taken y → x ≡ y
