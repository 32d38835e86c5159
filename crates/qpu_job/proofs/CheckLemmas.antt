-- Programs checked one after another.
use Rattle.std.proofs.Common.{◌≡◌, ℕ, ◌+◌, ◌<◌, ◌≤◌, All, List, [], ◌∷◌, ◌++◌, length, append-nil, take, get_or, refl, ap, sym, subst, ◌∙◌, arith}
use Rattle.std.specs.List.{AllWithin}
use Rattle.std.proofs.Math.ListN.{get_or-append}
use Rattle.std.proofs.Math.Seq.{get_or-append_seam}
use Rattle.std.proofs.lemmas.List.{get_or-map, length-append, length-map, take_more}
use Rattle.std.proofs.lemmas.List.Elements.{AllWithin-more}
use Rattle.qpu_word.specs.Words.{numbers_of}
use Rattle.qpu_flow.specs.Code.{AllInProfile}
use Rattle.qpu_flow.proofs.CodeLemmas.{length_numbers}
use Rattle.qpu_hazard.specs.declared.checked.CheckFault.TheVariants as check
use Rattle.qpu_hazard.specs.Refusal.{IsFirst, NoneRefusable}
use Rattle.qpu_job.specs.declared.code.Code.{Code}
use Rattle.qpu_job.specs.Programs.{codes_of}
use Rattle.qpu_job.specs.Opening.{IsShort, IsChecked}

abbrev numbers : Code → List ℕ
numbers code = numbers_of code.words.items

pub length_codes : (codes : List Code) → length (codes_of codes) ≡ length codes
length_codes codes = length-map codes numbers

-- the code at an index
pub code_is : (codes : List Code) (i : ℕ) (code d : Code) (e : List ℕ) → i < length codes → code ≡ get_or codes i d
    → get_or (codes_of codes) i e ≡ numbers_of code.words.items
code_is codes i code d e low is = get_or-map numbers codes i d e low ∙ ap numbers (sym is)

-- what holds of the code at an index, whatever else there is for it
pub holds_at : (P : List ℕ → Type 0) (codes : List Code) (i : ℕ) (code d : Code) → i < length codes → code ≡ get_or codes i d
    → P (numbers_of code.words.items) → (e : List ℕ) → P (get_or (codes_of codes) i e)
holds_at P codes i code d low is holds e = subst P (sym (code_is codes i code d e low is)) holds

pub one_within : (P : List ℕ → Type 0) (codes : List Code) (i : ℕ) (code d : Code) → i < length codes → code ≡ get_or codes i d
    → AllWithin P (codes_of codes) 0 i → P (numbers_of code.words.items) → AllWithin P (codes_of codes) 0 (i + 1)
one_within P codes i code d low is below holds =
    AllWithin-more P (codes_of codes) 0 i below (holds_at P codes i code d low is holds)

pub one_taken : (codes : List Code) (i : ℕ) (code d : Code) (old new : List (List ℕ)) → i < length codes → code ≡ get_or codes i d
    → old ≡ take i (codes_of codes) → new ≡ old ++ numbers_of code.words.items ∷ [] → new ≡ take (i + 1) (codes_of codes)
one_taken codes i code d old new low is before made =
    made ∙ rw (take_more (codes_of codes) i [] (omega (arith, length_codes codes)), code_is codes i code d [] low is, before) refl

-- a code at an index is short enough
pub short_words : (codes : List Code) (i : ℕ) (code d : Code) → All IsShort (codes_of codes) → i < length codes → code ≡ get_or codes i d
    → length code.words.items ≤ 4096
short_words codes i code d short low is =
    let numbers_short : length (numbers_of code.words.items) ≤ 4096 =
    subst IsShort (code_is codes i code d [] low is) (short i [] (omega (arith, length_codes codes))) in
    omega (arith, length_numbers code.words.items, numbers_short)

-- lists of which the second is empty
pub none_left : (xs rest all : List (List ℕ)) → xs ++ rest ≡ all → length rest ≡ 0 → xs ≡ all
none_left xs [] all is none = sym (append-nil xs) ∙ is
none_left xs (x ∷ rest) all is none = absurd (omega (arith, none))

-- a program of the profile is refused, and none before it
pub first_hazard : (codes before rest : List (List ℕ)) (code : List ℕ) (rule at told : ℕ) → before ++ code ∷ rest ≡ codes → All AllInProfile codes → All NoneRefusable before
    → IsFirst code (record { at = at; rule = rule; before = told }) → IsChecked codes (length before) (check.Hazard rule at told)
first_hazard codes before rest code rule at told is inside clean first = (
  omega (arith, ap length is, length-append before (code ∷ rest)),
  inside,
  rw (← is, get_or-append_seam before code rest []) first,
  λ k d low high. rw (← is, get_or-append before (code ∷ rest) d k high) (clean k d high),
)
