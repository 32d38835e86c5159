-- The rules of a word that breaks none, each by its name.
use Rattle.std.proofs.Common.{◌≡◌, ℕ, ◌≤◌, ◌+◌, Bool, false, List, [], Option, ◌||◌, arith}
use Rattle.std.specs.Prelude.{nat_lt}
use Rattle.std.proofs.lemmas.Bool.Decides.{nat_tests}
use Rattle.qpu_word.specs.declared.word.Fields.{Fields}
use Rattle.qpu_flow.specs.declared.slots.Slots.{Slots}
use Rattle.qpu_flow.specs.Code.{fields_at}
use Rattle.qpu_hazard.specs.Demands.{looks_made, looks_taken}
use Rattle.qpu_hazard.specs.Rules.{h1, h2, h3, h4, h5, h6, h7, h8, h9, h10, h11, h12, h13, h15, h16, rules_broken}
use Rattle.qpu_hazard.specs.Paths.{looks_after}
use Rattle.qpu_hazard.proofs.Basics.{left_empty, right_empty, when_empty, or_left, or_right}

pub record BreaksNothing (code : List ℕ) (last earlier : Option ℕ) (slots : Option Slots) (r4 flags carry : Bool) (looks_0 looks_1 at : ℕ) : Type 0 where
  pub rule_1 : h1 code last (fields_at code at) ≡ []
  pub rule_2 : h2 code last (fields_at code at) ≡ []
  pub rule_3 : h3 code last (fields_at code at) ≡ []
  pub rule_4_last : h4 code last (fields_at code at) ≡ []
  pub rule_4_earlier : h4 code earlier (fields_at code at) ≡ []
  pub rule_5 : h5 code slots (fields_at code at) at ≡ []
  pub rule_6 : h6 (fields_at code at) at ≡ []
  pub rule_7 : h7 code slots (fields_at code at) at ≡ []
  pub rule_8 : h8 (fields_at code at) at ≡ []
  pub rule_9 : h9 slots (fields_at code at) ≡ []
  pub rule_10 : h10 code slots at ≡ []
  pub rule_11 : h11 (fields_at code at) at ≡ []
  pub rule_12 : h12 r4 flags carry (fields_at code at) at ≡ []
  pub rule_13_0 : h13 0 looks_0 (fields_at code at) at ≡ []
  pub rule_13_1 : h13 1 looks_1 (fields_at code at) at ≡ []
  pub rule_15 : h15 (fields_at code at) at ≡ []
  pub rule_16 : h16 (fields_at code at) at ≡ []

pub breaks_nothing : (code : List ℕ) (last earlier : Option ℕ) (slots : Option Slots) (r4 flags carry : Bool) (looks_0 looks_1 at : ℕ)
    → rules_broken code last earlier slots r4 flags carry looks_0 looks_1 at ≡ []
    → BreaksNothing code last earlier slots r4 flags carry looks_0 looks_1 at
unfolding rules_broken
breaks_nothing code last earlier slots r4 flags carry looks_0 looks_1 at none =
    let to_15 = left_empty _ _ none in
    let to_13_1 = left_empty _ _ to_15 in
    let to_13_0 = left_empty _ _ to_13_1 in
    let to_12 = left_empty _ _ to_13_0 in
    let to_11 = left_empty _ _ to_12 in
    let to_10 = left_empty _ _ to_11 in
    let to_9 = left_empty _ _ to_10 in
    let to_8 = left_empty _ _ to_9 in
    let to_7 = left_empty _ _ to_8 in
    let to_6 = left_empty _ _ to_7 in
    let to_5 = left_empty _ _ to_6 in
    let to_4_earlier = left_empty _ _ to_5 in
    let to_4_last = left_empty _ _ to_4_earlier in
    let to_3 = left_empty _ _ to_4_last in
    let to_2 = left_empty _ _ to_3 in
    record {
      rule_1 = left_empty _ _ to_2;
      rule_2 = right_empty _ _ to_2;
      rule_3 = right_empty _ _ to_3;
      rule_4_last = right_empty _ _ to_4_last;
      rule_4_earlier = right_empty _ _ to_4_earlier;
      rule_5 = right_empty _ _ to_5;
      rule_6 = right_empty _ _ to_6;
      rule_7 = right_empty _ _ to_7;
      rule_8 = right_empty _ _ to_8;
      rule_9 = right_empty _ _ to_9;
      rule_10 = right_empty _ _ to_10;
      rule_11 = right_empty _ _ to_11;
      rule_12 = right_empty _ _ to_12;
      rule_13_0 = right_empty _ _ to_13_0;
      rule_13_1 = right_empty _ _ to_13_1;
      rule_15 = right_empty _ _ to_15;
      rule_16 = right_empty _ _ none;
    }

not_lt : (a b : ℕ) → nat_lt a b ≡ false → b ≤ a
not_lt a b none = grind (arith, nat_tests)

-- a word that doesn't break H13 leaves at most four look-ups, and a TMU load finds one
few_from : (looks made taken : ℕ) → (nat_lt 4 (looks + made) || nat_lt (looks + made) taken) ≡ false → (looks + made ≤ 4) × (taken ≤ looks + made)
few_from looks made taken none =
    (not_lt 4 (looks + made) (or_left _ _ none), not_lt (looks + made) taken (or_right _ _ none))

pub few_looks : (unit looks : ℕ) (f : Fields) (at : ℕ) → h13 unit looks f at ≡ []
    → (looks + looks_made f unit ≤ 4) × (looks_taken f unit ≤ looks + looks_made f unit)
few_looks unit looks f at none =
    few_from looks (looks_made f unit) (looks_taken f unit) (when_empty _ 13 at none)

pub few_after : (unit looks : ℕ) (f : Fields) (at : ℕ) → h13 unit looks f at ≡ [] → looks_after f unit looks ≤ 4
few_after unit looks f at none = let few = few_looks unit looks f at none in omega (arith, few.0)
