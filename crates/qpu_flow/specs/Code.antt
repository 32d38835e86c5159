-- A program as the list of its words' numbers, and where it leaves the profile. This project's own.
use Rattle.std.specs.Prelude.{◌≡◌, ◌<◌, ℕ, List, length, Some, map, slice_index, EachIndex}
use Rattle.qpu_word.specs.declared.word.Fields.{Fields}
use Rattle.qpu_word.specs.declared.fault.WordFault.{WordFault}
use Rattle.qpu_word.specs.declared.word.Word.{Word}
use Rattle.qpu_word.specs.Words.{fields_of, word_fault, IsInProfile}
use Rattle.qpu_decoded.specs.declared.decoded.Decoded.{Decoded}
use Rattle.qpu_decoded.specs.Units.{decoded_of}

-- the fields of the word at a place, counted in words from 0
unfoldable pub fields_at : List ℕ → ℕ → Fields
fields_at code at = fields_of (slice_index code at)

-- the words of a program, decoded
abbrev pub all_decoded : List Word → List Decoded
all_decoded words = map (λ word. decoded_of word.0) words

-- each word of a program is in the profile
abbrev pub AllInProfile : List ℕ → Type 0
AllInProfile code = EachIndex code (λ k. IsInProfile (slice_index code k))

-- a place is the least whose word is outside the profile, and this is that word's fault
pub record IsFirstOutside (code : List ℕ) (at : ℕ) (fault : WordFault) : Type 0 where
  pub there : at < length code
  pub outside : word_fault (slice_index code at) ≡ Some fault
  pub before : (k : ℕ) → k < at → IsInProfile (slice_index code k)

-- one word at most is the first outside the profile, with one fault
abbrev pub OneOutside : Type 0
OneOutside = (code : List ℕ) (a b : ℕ) (f g : WordFault) → IsFirstOutside code a f → IsFirstOutside code b g → (a ≡ b) × (f ≡ g)

-- none is where each word is in the profile
abbrev pub NoneOutside : Type 0
NoneOutside = (code : List ℕ) (at : ℕ) (fault : WordFault) → AllInProfile code → IsFirstOutside code at fault → ⊥
