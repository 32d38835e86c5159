-- Where a processor stands on a path: at a word that may follow, with a branch or program end in
-- progress as the path leaves it, and its choice made. This project's own.
use Rattle.std.specs.Prelude.{◌≡◌, ◌⊎◌, ◌<◌, ◌/◌, ℕ, true, false, List, Option, IsSomeAnd, IsTrue}
use Rattle.qpu_word.specs.declared.code.TheConstants.{INSTRUCTION_BYTES}
use Rattle.qpu_word.specs.Words.{is_branch}
use Rattle.qpu_word.specs.Instruction.{is_link_point}
use Rattle.qpu_word.specs.declared.state.Rest.{Rest as ProcessorRest}
use Rattle.qpu_word.specs.declared.state.Rest.TheVariants.{Straight as RunsOn, Ending as Ends, To as GoesTo}
use Rattle.qpu_word.specs.declared.state.Halt.{Halt}
use Rattle.qpu_word.specs.declared.state.Halt.TheVariants.{Going, Ended as HasEnded, Faulted}
use Rattle.qpu_flow.specs.declared.slots.Slots.{Slots}
use Rattle.qpu_flow.specs.declared.control.Control.{Control}
use Rattle.qpu_flow.specs.declared.control.Progress.TheVariants.{Straight, Ending}
use Rattle.qpu_flow.specs.declared.control.Next.{Next}
use Rattle.qpu_flow.specs.declared.control.Next.TheVariants.{At, AnyLink, Ended, Outside}
use Rattle.qpu_flow.specs.Code.{fields_at}
use Rattle.qpu_flow.specs.Control.{is_register_branch, plain_target, nowhere}
use Rattle.qpu_flow.specs.Follow.{RestIs}
use Rattle.qpu_hazard.specs.Paths.{slots_of, next_of, follows}

-- control stands on a path
pub record Stands (code t : List ℕ) (c : Control) : Type 0 where
  pub follows : IsTrue (follows code t c.place)
  pub rest : RestIs code (slots_of code t) c.rest

-- where control goes is on a path too: at each link point after a register branch; nothing follows
-- program end's second slot; and control never asks for an address that is no word
abbrev pub Goes : List ℕ → List ℕ → Next → Type 0
Goes code t (At c) = Stands code t c
Goes code t AnyLink = (at : ℕ) → is_link_point code at ≡ true → Stands code t (record { place = at; rest = Straight })
Goes code t Ended = next_of code t ≡ nowhere
Goes code t Outside = ⊥

-- the same of a processor, which knows the place that its taken branch goes to

-- a place that a taken branch goes to: a link point by a register, else its target
abbrev pub IsTargetOf : List ℕ → ℕ → ℕ → Type 0
IsTargetOf code branch place =
    ((is_register_branch (fields_at code branch) ≡ true) × (is_link_point code place ≡ true))
    ⊎ ((is_register_branch (fields_at code branch) ≡ false) × (place ≡ plain_target branch (fields_at code branch) / INSTRUCTION_BYTES))

-- a processor's rest fits the slots that a path leaves
abbrev pub ProcessorRestIs : List ℕ → Option Slots → ProcessorRest → Type 0
ProcessorRestIs code slots RunsOn = RestIs code slots Straight
ProcessorRestIs code slots (Ends left) = RestIs code slots (Ending left)
ProcessorRestIs code slots (GoesTo left place) =
    IsSomeAnd slots (λ s.
    (s.left ≡ left) × (0 < left) × (is_branch (fields_at code s.place) ≡ true) × IsTargetOf code s.place place)

-- a processor with this place and rest stands on a path
pub record ProcessorStands (code t : List ℕ) (place : ℕ) (rest : ProcessorRest) : Type 0 where
  pub follows : IsTrue (follows code t place)
  pub fits : ProcessorRestIs code (slots_of code t) rest

-- a processor that still goes on stands on a path; one that has ended has no word that may follow
abbrev pub ProcessorGoes : List ℕ → List ℕ → ℕ → ProcessorRest → Halt → Type 0
ProcessorGoes code t place rest Going = ProcessorStands code t place rest
ProcessorGoes code t place rest HasEnded = next_of code t ≡ nowhere
ProcessorGoes code t place rest (Faulted kind at) = ⊥
