-- A program is clean exactly where it is clean part by part.
use Rattle.std.proofs.Common.{◌≡◌, ℕ, ◌<◌, ◌==◌, Bool, true, false, List, [], ◌∷◌, length, Option, None, refl, arith}
use Rattle.std.proofs.lemmas.Bool.Decides.{nat_tests}
use Rattle.std.specs.Prelude.{IsTrue}
use Rattle.qpu_flow.specs.declared.slots.Slots.{Slots}
use Rattle.qpu_flow.specs.Code.{fields_at}
use Rattle.qpu_hazard.specs.declared.part.Part.{Part}
use Rattle.qpu_hazard.specs.declared.part.Part.TheVariants.{Near, Uniforms, R4, Flags, Carry, Looks0, Looks1}
use Rattle.qpu_hazard.specs.declared.needs.Needs.{Needs}
use Rattle.qpu_hazard.specs.Rules.{h4, h12, h13, rules_broken}
use Rattle.qpu_hazard.specs.Paths.{IsPath, IsClean, broken, follows, last_of, earlier_of, slots_of, r4_defined, flags_defined, c_defined, outstanding_looks}
use Rattle.qpu_hazard.specs.Trails.{broken_from}
use Rattle.qpu_hazard.specs.Parts.{near_trail, IsWay, IsPartClean, IsCleanByParts}
use Rattle.qpu_hazard.specs.Needs.{IsSparing, IsNoNeed}
use Rattle.qpu_hazard.proofs.CompleteLemmas.{nothing_before}
use Rattle.qpu_hazard.proofs.RuleLemmas.{BreaksNothing, breaks_nothing}
use Rattle.qpu_hazard.proofs.Basics.{when_empty}
use Rattle.qpu_hazard.proofs.KnownLemmas.{rules_kept}
use Rattle.qpu_hazard.proofs.PartValues.{both_empty, h12_keeps, h12_neutral, h13_neutral, uniforms_ask, r4_asks, flags_ask, carry_asks, looks_ask_0, looks_ask_1, first_defined, second_defined, third_defined, way_of_path, uniforms_kept, r4_kept, flags_kept, carry_kept, looks_kept_0, looks_kept_1}

near_keeps : (code : List ℕ) (last : Option ℕ) (slots : Option Slots) (a : ℕ) → broken_from code (near_trail last slots) a ≡ []
    → BreaksNothing code last None slots true true true 2 2 a
unfolding broken_from
near_keeps code last slots a none = breaks_nothing code last None slots true true true 2 2 a none

step_clean : (code : List ℕ) → IsCleanByParts code → (t : List ℕ) (a : ℕ) → IsWay code t → IsTrue (follows code t a) → broken code (a ∷ t) ≡ []
unfolding broken rules_broken
step_clean code clean t a way after =
    let near : BreaksNothing code (last_of t) None (slots_of code t) true true true 2 2 a =
    near_keeps code (last_of t) (slots_of code t) a (clean.each Near t a way after) in
    let earlier : h4 code (earlier_of t) (fields_at code a) ≡ [] = uniforms_kept code (clean.each Uniforms) t a way after in
    let defined : h12 (r4_defined code t) (flags_defined code t) (c_defined code t) (fields_at code a) a ≡ [] =
    h12_keeps (r4_defined code t) (flags_defined code t) (c_defined code t) (fields_at code a) a
    (r4_kept code (clean.each R4) t a way after) (flags_kept code (clean.each Flags) t a way after) (carry_kept code (clean.each Carry) t a way after) in
    let looks_0 : h13 0 (outstanding_looks code 0 t) (fields_at code a) a ≡ [] = looks_kept_0 code (clean.each Looks0) t a way after in
    let looks_1 : h13 1 (outstanding_looks code 1 t) (fields_at code a) a ≡ [] = looks_kept_1 code (clean.each Looks1) t a way after in
    let to_4 = both_empty _ _ (both_empty _ _ (both_empty _ _ (both_empty _ _ near.rule_1 near.rule_2) near.rule_3) near.rule_4_last) earlier in
    let to_8 = both_empty _ _ (both_empty _ _ (both_empty _ _ (both_empty _ _ to_4 near.rule_5) near.rule_6) near.rule_7) near.rule_8 in
    let to_12 = both_empty _ _ (both_empty _ _ (both_empty _ _ (both_empty _ _ to_8 near.rule_9) near.rule_10) near.rule_11) defined in
    both_empty _ _ (both_empty _ _ (both_empty _ _ (both_empty _ _ to_12 looks_0) looks_1) near.rule_15) near.rule_16

pub clean_from_parts : (code : List ℕ) → IsCleanByParts code → IsClean code
clean_from_parts code clean [] is_path = nothing_before code clean.some
clean_from_parts code clean (a ∷ t) is_path = step_clean code clean t a (way_of_path code t is_path.0) is_path.2

-- where no part is followed, each is clean
pub clean_without_needs : (code : List ℕ) (needs : Needs) → 0 < length code → IsSparing code needs → IsNoNeed needs → IsClean code
clean_without_needs code needs some sparing none = clean_from_parts code (record { some = some; each = each })
  where
    each : (part : Part) → IsPartClean part code
    each Near = sparing.near none.near
    each Uniforms = sparing.uniforms none.uniforms
    each R4 = sparing.r4 none.r4
    each Flags = sparing.flags none.flags
    each Carry = sparing.carry none.carry
    each Looks0 = sparing.looks_0 none.looks_0
    each Looks1 = sparing.looks_1 none.looks_1

-- a program that is clean is clean by parts

some_words : (count : ℕ) → (count == 0) ≡ false → 0 < count
some_words count none = grind (arith, nat_tests)

path_of_way : (code : List ℕ) → IsClean code → (t : List ℕ) → IsWay code t → IsPath code t
path_of_way code clean [] way = tt
path_of_way code clean (a ∷ t) way = let before : IsPath code t = path_of_way code clean t way.0 in (before, clean t before, way.1)

-- the rules of a word after a way of a clean program
rules_after : (code : List ℕ) → IsClean code → (t : List ℕ) (a : ℕ) → IsWay code t → IsTrue (follows code t a)
    → BreaksNothing code (last_of t) (earlier_of t) (slots_of code t) (r4_defined code t) (flags_defined code t) (c_defined code t) (outstanding_looks code 0 t) (outstanding_looks code 1 t) a
rules_after code clean t a way after =
    let before : IsPath code t = path_of_way code clean t way in rules_kept code t a (clean (a ∷ t) (before, clean t before, after))

near_from : (code : List ℕ) (last earlier : Option ℕ) (slots : Option Slots) (r4 flags carry : Bool) (looks_0 looks_1 a : ℕ)
    → BreaksNothing code last earlier slots r4 flags carry looks_0 looks_1 a → broken_from code (near_trail last slots) a ≡ []
unfolding broken_from rules_broken
near_from code last earlier slots r4 flags carry looks_0 looks_1 a rules =
    let to_4 = both_empty _ _ (both_empty _ _ (both_empty _ _ (both_empty _ _ rules.rule_1 rules.rule_2) rules.rule_3) rules.rule_4_last) refl in
    let to_8 = both_empty _ _ (both_empty _ _ (both_empty _ _ (both_empty _ _ to_4 rules.rule_5) rules.rule_6) rules.rule_7) rules.rule_8 in
    let to_12 = both_empty _ _ (both_empty _ _ (both_empty _ _ (both_empty _ _ to_8 rules.rule_9) rules.rule_10) rules.rule_11) (h12_neutral (fields_at code a) a) in
    both_empty _ _ (both_empty _ _ (both_empty _ _ (both_empty _ _ to_12 (h13_neutral 0 (fields_at code a) a)) (h13_neutral 1 (fields_at code a) a)) rules.rule_15) rules.rule_16

pub parts_from_clean : (code : List ℕ) → IsClean code → IsCleanByParts code
unfolding broken
parts_from_clean code clean = record {
  some = some_words (length code) (when_empty (length code == 0) 10 0 (clean [] tt));
  each = each;
}
  where
    each : (part : Part) → IsPartClean part code
    each Near t a way after =
        near_from code (last_of t) (earlier_of t) (slots_of code t) (r4_defined code t) (flags_defined code t) (c_defined code t) (outstanding_looks code 0 t) (outstanding_looks code 1 t) a
        (rules_after code clean t a way after)
    each Uniforms t a way after = let rules = rules_after code clean t a way after in uniforms_ask code t a rules.rule_4_last rules.rule_4_earlier
    each R4 t a way after = r4_asks code t a (first_defined _ _ _ (fields_at code a) a (rules_after code clean t a way after).rule_12)
    each Flags t a way after = flags_ask code t a (second_defined _ _ _ (fields_at code a) a (rules_after code clean t a way after).rule_12)
    each Carry t a way after = carry_asks code t a (third_defined _ _ _ (fields_at code a) a (rules_after code clean t a way after).rule_12)
    each Looks0 t a way after = looks_ask_0 code t a (rules_after code clean t a way after).rule_13_0
    each Looks1 t a way after = looks_ask_1 code t a (rules_after code clean t a way after).rule_13_1
