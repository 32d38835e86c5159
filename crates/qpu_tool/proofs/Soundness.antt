-- What the answers of each command keep.
use Rattle.std.proofs.Common.{◌≡◌, ℕ, List}
use Rattle.qpu_machine.specs.declared.conclusion.Ending.{Ending}
use Rattle.qpu_machine.specs.declared.conclusion.Ending.TheVariants.{Done, Stuck, RanOut, Faulted}
use Rattle.qpu_tool.specs.declared.answer.Answer.{Answer}
use Rattle.qpu_tool.specs.Statuses.{status_for}
use Rattle.qpu_tool.specs.Answer.{status_of}
use Rattle.qpu_tool.specs.Causes.{IsOfText}

-- of one text one answer at most is due, and its status is one of those of a text
pub record Sound (Is : List ℕ → Answer → Type 0) : Type 0 where
  pub one : (text : List ℕ) (a b : Answer) → Is text a → Is text b → a ≡ b
  pub of_text : (text : List ℕ) (answer : Answer) → Is text answer → IsOfText (status_of answer)

pub ends : (e : Ending) → IsOfText (status_for e)
ends Done = tt
ends Stuck = tt
ends RanOut = tt
ends Faulted = tt
