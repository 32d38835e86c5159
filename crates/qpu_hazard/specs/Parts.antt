-- The hazard rules in parts. What they ask of the past falls into parts that go on by themselves along
-- control, and a program is clean exactly where it is clean part by part. This project's own.
use Rattle.std.specs.Prelude.{◌≡◌, ◌<◌, ◌≤◌, ℕ, ◌-◌, ◌==◌, ◌&&◌, Bool, true, false, nat_lt, List, [], ◌∷◌, length, Option, Some, None, IfSome, IsTrue, if◌then◌else◌}
use Rattle.qpu_word.specs.declared.word.Fields.{Fields}
use Rattle.qpu_word.specs.declared.code.TheConstants.{READ_UNIFORM, WRITE_UNIFORMS_ADDRESS}
use Rattle.qpu_word.specs.Words.{reads, writes}
use Rattle.qpu_flow.specs.declared.slots.Slots.{Slots}
use Rattle.qpu_flow.specs.Code.{fields_at}
use Rattle.qpu_flow.specs.Control.{slots_after}
use Rattle.qpu_hazard.specs.declared.trail.Trail.{Trail}
use Rattle.qpu_hazard.specs.declared.part.Part.{Part}
use Rattle.qpu_hazard.specs.declared.part.Part.TheVariants.{Near, Uniforms, R4, Flags, Carry, Looks0, Looks1}
use Rattle.qpu_hazard.specs.declared.mark.Mark.{Mark}
use Rattle.qpu_hazard.specs.Demands.{uses_r4, loads_r4, tests_zn, sets_flags, tests_carry, defines_carry}
use Rattle.qpu_hazard.specs.Rules.{h13}
use Rattle.qpu_hazard.specs.Paths.{last_of, slots_of, looks_after, follows}
use Rattle.qpu_hazard.specs.Trails.{broken_from}

-- what a part keeps

-- whether all that a part asks of the past is its value: all parts but the near one
abbrev pub is_by_value : Part → Bool
is_by_value Near = false
is_by_value Uniforms = true
is_by_value R4 = true
is_by_value Flags = true
is_by_value Carry = true
is_by_value Looks0 = true
is_by_value Looks1 = true

-- 1 where C is defined after a word, else 0
abbrev pub carry_value : Fields → ℕ → ℕ
carry_value f value = if sets_flags f then (if defines_carry f then 1 else 0) else value

-- a part's value after a word. Uniforms: of how many further words the address that was written asks;
-- r4, flags, carry: 1 where it is defined; look-ups: how many are outstanding
abbrev pub value_after : Part → Fields → ℕ → ℕ
value_after Near f value = 0
value_after Uniforms f value = if writes f WRITE_UNIFORMS_ADDRESS then 2 else value - 1
value_after R4 f value = if loads_r4 f then 1 else value
value_after Flags f value = if sets_flags f then 1 else value
value_after Carry f value = carry_value f value
value_after Looks0 f value = looks_after f 0 value
value_after Looks1 f value = looks_after f 1 value

-- a part's value after the words of a way
abbrev pub value_of : Part → List ℕ → List ℕ → ℕ
value_of part code [] = 0
value_of part code (a ∷ t) = value_after part (fields_at code a) (value_of part code t)

-- what a part asks

-- the trail on which the near rules are asked: of all else it holds what breaks no rule
abbrev pub near_trail : Option ℕ → Option Slots → Trail
near_trail last slots = record {
  last = last;
  earlier = None;
  slots = slots;
  r4 = true;
  flags = true;
  carry = true;
  looks_0 = 2;
  looks_1 = 2;
}

-- a word breaks no rule of a part after a mark
abbrev pub Holds : Part → List ℕ → Mark → ℕ → Type 0
Holds Near code m a = broken_from code (near_trail m.last m.slots) a ≡ []
Holds Uniforms code m a = (nat_lt 0 m.value && reads (fields_at code a) READ_UNIFORM) ≡ false
Holds R4 code m a = (uses_r4 (fields_at code a) && (m.value == 0)) ≡ false
Holds Flags code m a = (tests_zn (fields_at code a) && (m.value == 0)) ≡ false
Holds Carry code m a = (tests_carry (fields_at code a) && (m.value == 0)) ≡ false
Holds Looks0 code m a = h13 0 m.value (fields_at code a) a ≡ []
Holds Looks1 code m a = h13 1 m.value (fields_at code a) a ≡ []

-- marks: where control stands, with a part's value

-- the mark before any word
abbrev pub opening_mark : Mark
opening_mark = record { links = false; last = None; slots = None; value = 0 }

-- the mark that a way leaves
abbrev pub mark_of : Part → List ℕ → List ℕ → Mark
mark_of part code t = record { links = false; last = last_of t; slots = slots_of code t; value = value_of part code t }

-- the mark one word further
abbrev pub mark_after : Part → List ℕ → Mark → ℕ → Mark
mark_after part code m a = record {
  links = false;
  last = Some a;
  slots = slots_after code m.slots a;
  value = value_after part (fields_at code a) m.value;
}

-- the mark before all link points
abbrev pub links_mark : ℕ → Mark
links_mark value = record { links = true; last = None; slots = None; value = value }

-- the places of a mark are words of the program, and its value is small
pub record IsFitMark (code : List ℕ) (m : Mark) : Type 0 where
  pub last : IfSome m.last (λ a. a < length code)
  pub slots : IfSome m.slots (λ s. s.place < length code)
  pub value : m.value ≤ 4

-- clean by parts

-- a way: words that control may choose one after another, whatever rules they break
abbrev pub IsWay : List ℕ → List ℕ → Type 0
IsWay code [] = Unit {0}
IsWay code (a ∷ t) = IsWay code t × IsTrue (follows code t a)

-- no word of any way breaks a rule of a part
abbrev pub IsPartClean : Part → List ℕ → Type 0
IsPartClean part code = (t : List ℕ) (a : ℕ) → IsWay code t → IsTrue (follows code t a) → Holds part code (mark_of part code t) a

-- there are words, and no word of any way breaks a rule of any part
pub record IsCleanByParts (code : List ℕ) : Type 0 where
  pub some : 0 < length code
  pub each : (part : Part) → IsPartClean part code
