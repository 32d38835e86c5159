-- Trails of paths that break nothing: they fit, and a word that follows makes a path of its own.
use Rattle.std.proofs.Common.{◌≡◌, ℕ, ◌-◌, ◌==◌, ◌<◌, ◌≤◌, Bool, true, false, List, [], ◌∷◌, length, Option, Some, None, refl, ap, sym, ◌∙◌, subst, arith}
use Rattle.std.specs.Prelude.{IfSome, IsTrue, Contains, nat_lt, if◌then◌else◌}
use Rattle.std.proofs.lemmas.Bool.{ltb-true}
use Rattle.qpu_word.specs.declared.code.TheConstants.{WRITE_UNIFORMS_ADDRESS, BRANCH_SLOTS, END_SLOTS}
use Rattle.qpu_word.specs.Words.{writes, is_branch, is_program_end}
use Rattle.qpu_flow.specs.declared.slots.Slots.{Slots}
use Rattle.qpu_flow.specs.declared.slots.Successors.{Successors}
use Rattle.qpu_flow.specs.Code.{fields_at}
use Rattle.qpu_flow.specs.Control.{one_less, slots_after, leads_to}
use Rattle.qpu_hazard.specs.declared.breaks.Break.{Break}
use Rattle.qpu_hazard.specs.declared.trail.Trail.{Trail}
use Rattle.qpu_hazard.specs.Paths.{IsPath, broken, follows, next_of, last_of, earlier_of, slots_of, r4_defined, flags_defined, c_defined, outstanding_looks}
use Rattle.qpu_hazard.specs.Trails.{trail, follows_from, broken_from, remembered, forget}
use Rattle.qpu_hazard.specs.declared.needs.Needs.{Needs}
use Rattle.qpu_hazard.specs.Needs.{kept_trail, further}
use Rattle.qpu_hazard.specs.Refusal.{IsRefusable}
use Rattle.qpu_hazard.specs.Fitting.{Fits}
use Rattle.qpu_hazard.specs.Search.{Known, hazard_at}
use Rattle.qpu_hazard.proofs.Basics.{and_first, if_some, if_none, then_some}
use Rattle.qpu_hazard.proofs.RuleLemmas.{BreaksNothing, breaks_nothing, few_after}
use Rattle.qpu_hazard.proofs.PartValues.{way_of_path}
use Rattle.qpu_hazard.proofs.NeedLemmas.{broken_kept, follows_kept, kept_law}

-- a place below the length of the program
abbrev IsThere : List ℕ → ℕ → Type 0
IsThere code a = a < length code

-- slots that a word of the program began
abbrev BeganThere : List ℕ → Slots → Type 0
BeganThere code s = s.place < length code

pub there_from_leads : (code : List ℕ) (next : Successors) (a : ℕ) → leads_to code next a ≡ true → a < length code
there_from_leads code next a leads = ltb-true a (length code) (and_first (nat_lt a (length code)) _ leads)

pub there : (code t : List ℕ) (a : ℕ) → IsTrue (follows code t a) → a < length code
unfolding follows
there code t a after = there_from_leads code (next_of code t) a after

pub last_there : (code t : List ℕ) → IsPath code t → IfSome (last_of t) (IsThere code)
last_there code [] is_path = tt
last_there code (a ∷ t) is_path = there code t a is_path.2

pub earlier_there : (code t : List ℕ) → IsPath code t → IfSome (earlier_of t) (IsThere code)
earlier_there code [] is_path = tt
earlier_there code (a ∷ t) is_path = last_there code t is_path.0

one_less_there : (code : List ℕ) (slots : Option Slots) → IfSome slots (BeganThere code) → IfSome (one_less slots) (BeganThere code)
one_less_there code None began = tt
one_less_there code (Some s) began = if_none (BeganThere code) (s.left == 0) (record s { left = s.left - 1 }) began

slots_after_there : (code : List ℕ) (slots : Option Slots) (a : ℕ) → a < length code → IfSome slots (BeganThere code) → IfSome (slots_after code slots a) (BeganThere code)
slots_after_there code slots a low began =
    if_some (BeganThere code) (is_branch (fields_at code a)) (record { place = a; left = BRANCH_SLOTS }) _ low
    (if_some (BeganThere code) (is_program_end (fields_at code a)) (record { place = a; left = END_SLOTS }) _ low
    (one_less_there code slots began))

pub slots_there : (code t : List ℕ) → IsPath code t → IfSome (slots_of code t) (BeganThere code)
slots_there code [] is_path = tt
slots_there code (a ∷ t) is_path =
    slots_after_there code (slots_of code t) a (there code t a is_path.2) (slots_there code t is_path.0)

remembered_there : (code : List ℕ) (earlier : Option ℕ) → IfSome earlier (IsThere code) → IfSome (remembered code earlier) (IsThere code)
remembered_there code None low = tt
remembered_there code (Some a) low = then_some (IsThere code) (writes (fields_at code a) WRITE_UNIFORMS_ADDRESS) a low

-- the rules of the last word of a path that breaks nothing
pub rules_kept : (code t : List ℕ) (a : ℕ) → broken code (a ∷ t) ≡ []
    → BreaksNothing code (last_of t) (earlier_of t) (slots_of code t) (r4_defined code t) (flags_defined code t) (c_defined code t) (outstanding_looks code 0 t) (outstanding_looks code 1 t) a
unfolding broken
rules_kept code t a none =
    breaks_nothing code (last_of t) (earlier_of t) (slots_of code t) (r4_defined code t) (flags_defined code t) (c_defined code t) (outstanding_looks code 0 t) (outstanding_looks code 1 t) a none

pub few_0 : (code t : List ℕ) → broken code t ≡ [] → outstanding_looks code 0 t ≤ 4
few_0 code [] none = omega arith
few_0 code (a ∷ t) none = few_after 0 (outstanding_looks code 0 t) (fields_at code a) a (rules_kept code t a none).rule_13_0

pub few_1 : (code t : List ℕ) → broken code t ≡ [] → outstanding_looks code 1 t ≤ 4
few_1 code [] none = omega arith
few_1 code (a ∷ t) none = few_after 1 (outstanding_looks code 1 t) (fields_at code a) a (rules_kept code t a none).rule_13_1

spared_there : (code : List ℕ) (needed : Bool) (earlier : Option ℕ) → IfSome earlier (IsThere code) → IfSome (if needed then remembered code earlier else None) (IsThere code)
spared_there code true earlier low = remembered_there code earlier low
spared_there code false earlier low = tt

spared_few : (needed : Bool) (looks : ℕ) → looks ≤ 4 → (if needed then looks else 2) ≤ 4
spared_few true looks few = few
spared_few false looks few = omega arith

kept_fits : (needs : Needs) (code t : List ℕ) → IsPath code t → broken code t ≡ [] → Fits code (kept_trail needs code t)
unfolding kept_trail forget trail
kept_fits needs code t is_path clean = record {
  last = last_there code t is_path;
  earlier = spared_there code needs.uniforms (earlier_of t) (earlier_there code t is_path);
  slots = slots_there code t is_path;
  looks_0 = spared_few needs.looks_0 (outstanding_looks code 0 t) (few_0 code t clean);
  looks_1 = spared_few needs.looks_1 (outstanding_looks code 1 t) (few_1 code t clean);
}

-- a known trail fits
pub fits_known : (needs : Needs) (code : List ℕ) (r : Trail) → Known needs code r → Fits code r
fits_known needs code r k = let P : Trail → Type 0 = Fits code in subst P k.is_kept (kept_fits needs code k.path k.is_path k.clean)

-- a word that follows a known trail follows its path
follows_path : (needs : Needs) (code : List ℕ) (r : Trail) (a : ℕ) (k : Known needs code r) → IsTrue (follows_from code r a) → IsTrue (follows code k.path a)
follows_path needs code r a k after =
    follows_kept needs code k.path a ∙ ap (λ (x : Trail). follows_from code x a) k.is_kept ∙ after

broken_path : (needs : Needs) (code : List ℕ) (r : Trail) (a : ℕ) (k : Known needs code r) → IsTrue (follows_from code r a) → broken code (a ∷ k.path) ≡ broken_from code r a
broken_path needs code r a k after =
    broken_kept needs code k.path a k.sparing (way_of_path code k.path k.is_path) (follows_path needs code r a k after)
    ∙ ap (λ (x : Trail). broken_from code x a) k.is_kept

-- and stands in the program
pub there_known : (needs : Needs) (code : List ℕ) (r : Trail) (a : ℕ) → Known needs code r → IsTrue (follows_from code r a) → a < length code
there_known needs code r a k after = there code k.path a (follows_path needs code r a k after)

-- what it breaks is refusable
pub refusable_after : (needs : Needs) (code : List ℕ) (r : Trail) (a : ℕ) (b : Break) → Known needs code r → IsTrue (follows_from code r a)
    → Contains (broken_from code r a) b → IsRefusable code (hazard_at a b)
refusable_after needs code r a b k after has = record {
  path = a ∷ k.path;
  is_path = (k.is_path, k.clean, follows_path needs code r a k after);
  ends = refl;
  breaks = subst (λ (l : List Break). Contains l b) (sym (broken_path needs code r a k after)) has;
}

-- where it breaks nothing, the next trail is known
pub known_onward : (needs : Needs) (code : List ℕ) (r : Trail) (a : ℕ) → Known needs code r → IsTrue (follows_from code r a) → broken_from code r a ≡ [] → Known needs code (further needs code r a)
known_onward needs code r a k after none = record {
  sparing = k.sparing;
  path = a ∷ k.path;
  is_path = (k.is_path, k.clean, follows_path needs code r a k after);
  clean = broken_path needs code r a k after ∙ none;
  is_kept = kept_law needs code k.path a ∙ ap (λ (x : Trail). further needs code x a) k.is_kept;
}
