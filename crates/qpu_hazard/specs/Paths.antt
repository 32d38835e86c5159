-- Paths: the words that a program may execute one after another, and which rules the last of them
-- breaks. A path is the list of the places, the latest first. This project's own.
use Rattle.std.specs.Prelude.{◌≡◌, ℕ, ◌+◌, ◌-◌, ◌==◌, ◌||◌, Bool, false, List, [], ◌∷◌, length, Option, Some, None, IsTrue, if◌then◌else◌}
use Rattle.qpu_word.specs.declared.word.Fields.{Fields}
use Rattle.qpu_flow.specs.declared.slots.Slots.{Slots}
use Rattle.qpu_flow.specs.declared.slots.Successors.{Successors}
use Rattle.qpu_flow.specs.Code.{fields_at}
use Rattle.qpu_flow.specs.Control.{slots_after, next_from, leads_to}
use Rattle.qpu_hazard.specs.declared.breaks.Break.{Break}
use Rattle.qpu_hazard.specs.Demands.{loads_r4, sets_flags, defines_carry, looks_made, looks_taken}
use Rattle.qpu_hazard.specs.Rules.{break_when, rules_broken}

-- what a path leaves

-- the last word
abbrev pub last_of : List ℕ → Option ℕ
last_of [] = None
last_of (a ∷ t) = Some a

-- the last word but one
abbrev pub earlier_of : List ℕ → Option ℕ
earlier_of [] = None
earlier_of (a ∷ t) = last_of t

-- the slots in progress
abbrev pub slots_of : List ℕ → List ℕ → Option Slots
slots_of code [] = None
slots_of code (a ∷ t) = slots_after code (slots_of code t) a

-- r4 is defined: some word was a TMU load
abbrev pub r4_defined : List ℕ → List ℕ → Bool
r4_defined code [] = false
r4_defined code (a ∷ t) = loads_r4 (fields_at code a) || r4_defined code t

-- Z and N are defined: some word set the flags
abbrev pub flags_defined : List ℕ → List ℕ → Bool
flags_defined code [] = false
flags_defined code (a ∷ t) = sets_flags (fields_at code a) || flags_defined code t

-- C after a word
abbrev pub carry_after : Fields → Bool → Bool
carry_after f before = if sets_flags f then defines_carry f else before

-- C is defined: the last setting defined it
abbrev pub c_defined : List ℕ → List ℕ → Bool
c_defined code [] = false
c_defined code (a ∷ t) = carry_after (fields_at code a) (c_defined code t)

-- the outstanding look-ups of a unit after a word
abbrev pub looks_after : Fields → ℕ → ℕ → ℕ
looks_after f unit looks = looks + looks_made f unit - looks_taken f unit

-- the outstanding look-ups of a unit
abbrev pub outstanding_looks : List ℕ → ℕ → List ℕ → ℕ
outstanding_looks code unit [] = 0
outstanding_looks code unit (a ∷ t) = looks_after (fields_at code a) unit (outstanding_looks code unit t)

-- the rules that the last word of a path breaks; a program without words breaks H10 before any word
unfoldable pub broken : List ℕ → List ℕ → List Break
broken code [] = break_when (length code == 0) 10 0
broken code (a ∷ t) =
    rules_broken code (last_of t) (earlier_of t) (slots_of code t) (r4_defined code t) (flags_defined code t)
    (c_defined code t) (outstanding_looks code 0 t) (outstanding_looks code 1 t) a

-- what may follow a path
abbrev pub next_of : List ℕ → List ℕ → Successors
next_of code t = next_from code (slots_of code t) (last_of t)

-- a word may follow a path
unfoldable pub follows : List ℕ → List ℕ → ℕ → Bool
follows code t a = leads_to code (next_of code t) a

-- a path: from word 0 on, each word is one that control may choose after those before it, whatever
-- the flags are; no word but the last breaks a rule
abbrev pub IsPath : List ℕ → List ℕ → Type 0
IsPath code [] = Unit {0}
IsPath code (a ∷ t) = IsPath code t × (broken code t ≡ []) × IsTrue (follows code t a)

-- no path breaks a rule
abbrev pub IsClean : List ℕ → Type 0
IsClean code = (t : List ℕ) → IsPath code t → broken code t ≡ []
