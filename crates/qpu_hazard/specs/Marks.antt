-- What the search over a part's marks keeps: which marks were found, and that each word that may
-- follow a mark breaks no rule of the part and leaves a mark that was found. This project's own.
use Rattle.std.specs.Prelude.{◌≡◌, ◌<◌, ◌≤◌, ◌⊎◌, ◌*◌, ℕ, true, false, List, [], length, take, All, Contains, ◌++◌, slice_index_or}
use Rattle.qpu_flow.specs.Control.{asks_for, next_from, link_points}
use Rattle.qpu_hazard.specs.declared.part.Part.{Part}
use Rattle.qpu_hazard.specs.declared.mark.Mark.{Mark}
use Rattle.qpu_hazard.specs.Parts.{is_by_value, Holds, mark_of, mark_after, links_mark}

-- marks were added behind others
abbrev pub Extends : List Mark → List Mark → Type 0
Extends before after = (rest : List Mark) × (after ≡ before ++ rest)

-- a word after a mark breaks nothing, and the mark that it leaves was found
pub record IsStepDone (part : Part) (code : List ℕ) (seen : List Mark) (m : Mark) (a : ℕ) : Type 0 where
  pub holds : Holds part code m a
  pub found : Contains seen (mark_after part code m a)

-- so it is with each link point after a mark
abbrev pub AreLinksDone : Part → List ℕ → List Mark → Mark → Type 0
AreLinksDone part code seen m = All (IsStepDone part code seen m) (link_points code)

-- each link point after a mark is done; or the part goes by its value alone, and the mark before all
-- link points with this value was found
abbrev pub AreLinksMet : Part → List ℕ → List Mark → Mark → Type 0
AreLinksMet part code seen m =
    AreLinksDone part code seen m ⊎ ((is_by_value part ≡ true) × Contains seen (links_mark m.value))

-- each word that may follow a mark is done
pub record IsPointDone (part : Part) (code : List ℕ) (seen : List Mark) (m : Mark) : Type 0 where
  pub ahead : (a : ℕ) → asks_for (next_from code m.slots m.last).ahead a ≡ true → a < length code → IsStepDone part code seen m a
  pub jump : (a : ℕ) → asks_for (next_from code m.slots m.last).jump (8 * a) ≡ true → a < length code → IsStepDone part code seen m a
  pub links : (next_from code m.slots m.last).any_link ≡ true → AreLinksMet part code seen m

-- a mark is done, be it before all link points or anywhere else
pub record IsMarkDone (part : Part) (code : List ℕ) (seen : List Mark) (m : Mark) : Type 0 where
  pub point : m.links ≡ false → IsPointDone part code seen m
  pub links : m.links ≡ true → AreLinksDone part code seen m

-- each of the first n marks is done
abbrev pub AreDoneBelow : Part → List ℕ → List Mark → ℕ → Type 0
AreDoneBelow part code seen n = (i : ℕ) (d : Mark) → i < n → IsMarkDone part code seen (slice_index_or seen i d)

-- a search is done: the mark before any word was found, and each mark is done
pub record AllDone (part : Part) (code : List ℕ) (seen : List Mark) : Type 0 where
  pub start : Contains seen (mark_of part code [])
  pub done : AreDoneBelow part code seen (length seen)

-- the first i of a list of places were looked at after a mark
pub record AreFirstDone (part : Part) (code : List ℕ) (before seen : List Mark) (m : Mark) (places : List ℕ) (i : ℕ) : Type 0 where
  pub grows : Extends before seen
  pub done : All (IsStepDone part code seen m) (take i places)

-- the first i marks were looked at
pub record IsGoingOn (part : Part) (code : List ℕ) (seen : List Mark) (i : ℕ) : Type 0 where
  pub start : Contains seen (mark_of part code [])
  pub done : AreDoneBelow part code seen i
  pub below : i ≤ length seen
