-- The values of the parts are what a path leaves, and what each part keeps of the rules.
use Rattle.std.proofs.Common.{◌≡◌, ℕ, ◌+◌, ◌-◌, ◌==◌, ◌≤◌, Bool, true, false, not, ◌&&◌, ◌||◌, List, [], ◌∷◌, ◌++◌, refl, ap, sym, ◌∙◌, subst, arith}
use Rattle.std.specs.Prelude.{IsTrue, nat_lt, if◌then◌else◌}
use Rattle.std.proofs.lemmas.Bool.Decides.{nat_tests}
use Rattle.qpu_word.specs.declared.code.TheConstants.{READ_UNIFORM, WRITE_UNIFORMS_ADDRESS}
use Rattle.qpu_word.specs.declared.word.Fields.{Fields}
use Rattle.qpu_word.specs.Words.{reads, writes, one_if, add_writes, mul_writes, is_tmu_load}
use Rattle.qpu_flow.specs.Code.{fields_at}
use Rattle.qpu_hazard.specs.declared.part.Part.TheVariants.{Uniforms, R4, Flags, Carry, Looks0, Looks1}
use Rattle.qpu_hazard.specs.Demands.{uniform_conflict, uses_r4, loads_r4, tests_zn, sets_flags, tests_carry, defines_carry, looks_made, looks_taken, look_place}
use Rattle.qpu_hazard.specs.Rules.{break_when, h4, h12, h13}
use Rattle.qpu_hazard.specs.Paths.{IsPath, follows, last_of, earlier_of, r4_defined, flags_defined, c_defined, looks_after, outstanding_looks}
use Rattle.qpu_hazard.proofs.Basics.{when_empty, or_left, or_right}
use Rattle.qpu_hazard.specs.Parts.{value_of, IsWay, IsPartClean}

-- the values of the parts are what a path leaves

set_or : (test rest : Bool) (value : ℕ) → (value == 0) ≡ not rest → ((if test then 1 else value) == 0) ≡ not (test || rest)
set_or true rest value is = refl
set_or false rest value is = is

set_if : (sets defines rest : Bool) (value : ℕ) → (value == 0) ≡ not rest
    → ((if sets then (if defines then 1 else 0) else value) == 0) ≡ not (if sets then defines else rest)
set_if true true rest value is = refl
set_if true false rest value is = refl
set_if false defines rest value is = is

pub r4_value : (code t : List ℕ) → (value_of R4 code t == 0) ≡ not (r4_defined code t)
r4_value code [] = refl
r4_value code (a ∷ t) = set_or (loads_r4 (fields_at code a)) (r4_defined code t) (value_of R4 code t) (r4_value code t)

flags_value : (code t : List ℕ) → (value_of Flags code t == 0) ≡ not (flags_defined code t)
flags_value code [] = refl
flags_value code (a ∷ t) = set_or (sets_flags (fields_at code a)) (flags_defined code t) (value_of Flags code t) (flags_value code t)

carry_value_of : (code t : List ℕ) → (value_of Carry code t == 0) ≡ not (c_defined code t)
carry_value_of code [] = refl
carry_value_of code (a ∷ t) =
    set_if (sets_flags (fields_at code a)) (defines_carry (fields_at code a)) (c_defined code t) (value_of Carry code t) (carry_value_of code t)

looks_value_0 : (code t : List ℕ) → value_of Looks0 code t ≡ outstanding_looks code 0 t
looks_value_0 code [] = refl
looks_value_0 code (a ∷ t) = ap (λ (n : ℕ). looks_after (fields_at code a) 0 n) (looks_value_0 code t)

looks_value_1 : (code t : List ℕ) → value_of Looks1 code t ≡ outstanding_looks code 1 t
looks_value_1 code [] = refl
looks_value_1 code (a ∷ t) = ap (λ (n : ℕ). looks_after (fields_at code a) 1 n) (looks_value_1 code t)

-- where the last word but one wrote the uniforms address, the value is still above 0
wrote_earlier : (last earlier reading : Bool) (value : ℕ)
    → (nat_lt 0 (if last then 2 else (if earlier then 2 else value) - 1) && reading) ≡ false → (earlier && reading) ≡ false
wrote_earlier last false reading value e = refl
wrote_earlier true true reading value e = e
wrote_earlier false true reading value e = e

uniforms_keep : (code t : List ℕ) (f : Fields) → (nat_lt 0 (value_of Uniforms code t) && reads f READ_UNIFORM) ≡ false → h4 code (earlier_of t) f ≡ []
unfolding uniform_conflict
uniforms_keep code [] f e = refl
uniforms_keep code (b ∷ []) f e = refl
uniforms_keep code (b ∷ (c ∷ t)) f e =
    ap (λ (x : Bool). break_when x 4 c)
    (wrote_earlier (writes (fields_at code b) WRITE_UNIFORMS_ADDRESS) (writes (fields_at code c) WRITE_UNIFORMS_ADDRESS) (reads f READ_UNIFORM) (value_of Uniforms code t - 1) e)

-- what each part keeps, joined

pub both_empty : {A : Type 0} (xs ys : List A) → xs ≡ [] → ys ≡ [] → xs ++ ys ≡ []
both_empty xs ys p q = ap (λ l. l ++ ys) p ∙ q

pub neither : (a b : Bool) → a ≡ false → b ≡ false → (a || b) ≡ false
neither false b p q = q
neither true b p q = cc

pub h12_keeps : (r4 flags carry : Bool) (f : Fields) (a : ℕ) → (uses_r4 f && not r4) ≡ false → (tests_zn f && not flags) ≡ false → (tests_carry f && not carry) ≡ false
    → h12 r4 flags carry f a ≡ []
h12_keeps r4 flags carry f a p q r =
    ap (λ (x : Bool). break_when x 12 a)
    (neither ((uses_r4 f && not r4) || (tests_zn f && not flags)) (tests_carry f && not carry) (neither (uses_r4 f && not r4) (tests_zn f && not flags) p q) r)

-- a path is a way
pub way_of_path : (code t : List ℕ) → IsPath code t → IsWay code t
way_of_path code [] is_path = tt
way_of_path code (a ∷ t) is_path = (way_of_path code t is_path.0, is_path.2)

-- what a clean part keeps of the rules

pub r4_kept : (code : List ℕ) → IsPartClean R4 code → (t : List ℕ) (a : ℕ) → IsWay code t → IsTrue (follows code t a) → (uses_r4 (fields_at code a) && not (r4_defined code t)) ≡ false
r4_kept code clean t a way after =
    subst (λ (x : Bool). (uses_r4 (fields_at code a) && x) ≡ false) (r4_value code t) (clean t a way after)

pub flags_kept : (code : List ℕ) → IsPartClean Flags code → (t : List ℕ) (a : ℕ) → IsWay code t → IsTrue (follows code t a) → (tests_zn (fields_at code a) && not (flags_defined code t)) ≡ false
flags_kept code clean t a way after =
    subst (λ (x : Bool). (tests_zn (fields_at code a) && x) ≡ false) (flags_value code t) (clean t a way after)

pub carry_kept : (code : List ℕ) → IsPartClean Carry code → (t : List ℕ) (a : ℕ) → IsWay code t → IsTrue (follows code t a) → (tests_carry (fields_at code a) && not (c_defined code t)) ≡ false
carry_kept code clean t a way after =
    subst (λ (x : Bool). (tests_carry (fields_at code a) && x) ≡ false) (carry_value_of code t) (clean t a way after)

pub uniforms_kept : (code : List ℕ) → IsPartClean Uniforms code → (t : List ℕ) (a : ℕ) → IsWay code t → IsTrue (follows code t a) → h4 code (earlier_of t) (fields_at code a) ≡ []
uniforms_kept code clean t a way after = uniforms_keep code t (fields_at code a) (clean t a way after)

pub looks_kept_0 : (code : List ℕ) → IsPartClean Looks0 code → (t : List ℕ) (a : ℕ) → IsWay code t → IsTrue (follows code t a) → h13 0 (outstanding_looks code 0 t) (fields_at code a) a ≡ []
looks_kept_0 code clean t a way after = subst (λ (n : ℕ). h13 0 n (fields_at code a) a ≡ []) (looks_value_0 code t) (clean t a way after)

pub looks_kept_1 : (code : List ℕ) → IsPartClean Looks1 code → (t : List ℕ) (a : ℕ) → IsWay code t → IsTrue (follows code t a) → h13 1 (outstanding_looks code 1 t) (fields_at code a) a ≡ []
looks_kept_1 code clean t a way after = subst (λ (n : ℕ). h13 1 n (fields_at code a) a ≡ []) (looks_value_1 code t) (clean t a way after)

-- neutral values break nothing

pub and_false : (a : Bool) → (a && false) ≡ false
and_false true = refl
and_false false = refl

pub h12_neutral : (f : Fields) (a : ℕ) → h12 true true true f a ≡ []
h12_neutral f a = h12_keeps true true true f a (and_false (uses_r4 f)) (and_false (tests_zn f)) (and_false (tests_carry f))

two_at_most : (x y : Bool) → one_if x + one_if y ≤ 2
two_at_most true true = omega arith
two_at_most true false = omega arith
two_at_most false true = omega arith
two_at_most false false = omega arith

one_at_most : (x : Bool) → one_if x ≤ 1
one_at_most true = omega arith
one_at_most false = omega arith

few_made : (f : Fields) (unit : ℕ) → looks_made f unit ≤ 2
unfolding looks_made
few_made f unit = two_at_most (add_writes f && (f.waddr_add == look_place unit)) (mul_writes f && (f.waddr_mul == look_place unit))

few_taken : (f : Fields) (unit : ℕ) → looks_taken f unit ≤ 1
unfolding looks_taken
few_taken f unit = one_at_most (is_tmu_load f unit)

two_in_between : (made taken : ℕ) → made ≤ 2 → taken ≤ 1 → (nat_lt 4 (2 + made) || nat_lt (2 + made) taken) ≡ false
two_in_between made taken few one = neither (nat_lt 4 (2 + made)) (nat_lt (2 + made) taken) (grind (arith, nat_tests)) (grind (arith, nat_tests))

pub h13_neutral : (unit : ℕ) (f : Fields) (a : ℕ) → h13 unit 2 f a ≡ []
h13_neutral unit f a =
    ap (λ (x : Bool). break_when x 13 a) (two_in_between (looks_made f unit) (looks_taken f unit) (few_made f unit) (few_taken f unit))

-- and what the rules keep is all that a part asks

pub first_defined : (r4 flags carry : Bool) (f : Fields) (a : ℕ) → h12 r4 flags carry f a ≡ [] → (uses_r4 f && not r4) ≡ false
first_defined r4 flags carry f a none = or_left _ _ (or_left _ _ (when_empty _ 12 a none))

pub second_defined : (r4 flags carry : Bool) (f : Fields) (a : ℕ) → h12 r4 flags carry f a ≡ [] → (tests_zn f && not flags) ≡ false
second_defined r4 flags carry f a none = or_right (uses_r4 f && not r4) _ (or_left _ _ (when_empty _ 12 a none))

pub third_defined : (r4 flags carry : Bool) (f : Fields) (a : ℕ) → h12 r4 flags carry f a ≡ [] → (tests_carry f && not carry) ≡ false
third_defined r4 flags carry f a none = or_right ((uses_r4 f && not r4) || (tests_zn f && not flags)) _ (when_empty _ 12 a none)

pub r4_asks : (code t : List ℕ) (a : ℕ) → (uses_r4 (fields_at code a) && not (r4_defined code t)) ≡ false → (uses_r4 (fields_at code a) && (value_of R4 code t == 0)) ≡ false
r4_asks code t a kept = subst (λ (x : Bool). (uses_r4 (fields_at code a) && x) ≡ false) (sym (r4_value code t)) kept

pub flags_ask : (code t : List ℕ) (a : ℕ) → (tests_zn (fields_at code a) && not (flags_defined code t)) ≡ false → (tests_zn (fields_at code a) && (value_of Flags code t == 0)) ≡ false
flags_ask code t a kept = subst (λ (x : Bool). (tests_zn (fields_at code a) && x) ≡ false) (sym (flags_value code t)) kept

pub carry_asks : (code t : List ℕ) (a : ℕ) → (tests_carry (fields_at code a) && not (c_defined code t)) ≡ false → (tests_carry (fields_at code a) && (value_of Carry code t == 0)) ≡ false
carry_asks code t a kept = subst (λ (x : Bool). (tests_carry (fields_at code a) && x) ≡ false) (sym (carry_value_of code t)) kept

pub looks_ask_0 : (code t : List ℕ) (a : ℕ) → h13 0 (outstanding_looks code 0 t) (fields_at code a) a ≡ [] → h13 0 (value_of Looks0 code t) (fields_at code a) a ≡ []
looks_ask_0 code t a kept = subst (λ (n : ℕ). h13 0 n (fields_at code a) a ≡ []) (sym (looks_value_0 code t)) kept

pub looks_ask_1 : (code t : List ℕ) (a : ℕ) → h13 1 (outstanding_looks code 1 t) (fields_at code a) a ≡ [] → h13 1 (value_of Looks1 code t) (fields_at code a) a ≡ []
looks_ask_1 code t a kept = subst (λ (n : ℕ). h13 1 n (fields_at code a) a ≡ []) (sym (looks_value_1 code t)) kept

-- two words after a write of the uniforms address the value is 0

two_or_less : (wrote : Bool) (value : ℕ) → value ≤ 2 → (if wrote then 2 else value - 1) ≤ 2
two_or_less true value few = omega arith
two_or_less false value few = omega arith

uniforms_few : (code t : List ℕ) → value_of Uniforms code t ≤ 2
uniforms_few code [] = omega arith
uniforms_few code (a ∷ t) = two_or_less (writes (fields_at code a) WRITE_UNIFORMS_ADDRESS) (value_of Uniforms code t) (uniforms_few code t)

none_reading : (value : ℕ) (reading : Bool) → value ≤ 0 → (nat_lt 0 value && reading) ≡ false
none_reading value reading few = ap (λ (x : Bool). x && reading) (none value few)
  where
    none : (value : ℕ) → value ≤ 0 → nat_lt 0 value ≡ false
    none value few = grind (arith, nat_tests)

asks_last : (last reading : Bool) → (last && reading) ≡ false → (nat_lt 0 (if last then 2 else 0 - 1) && reading) ≡ false
asks_last true reading e = e
asks_last false reading e = refl

asks_two : (last earlier reading : Bool) (value : ℕ) → value ≤ 2 → (last && reading) ≡ false → (earlier && reading) ≡ false
    → (nat_lt 0 (if last then 2 else (if earlier then 2 else value - 1) - 1) && reading) ≡ false
asks_two true earlier reading value few e f = e
asks_two false true reading value few e f = f
asks_two false false reading value few e f = none_reading (value - 1 - 1) reading (omega arith)

pub uniforms_ask : (code t : List ℕ) (a : ℕ) → h4 code (last_of t) (fields_at code a) ≡ [] → h4 code (earlier_of t) (fields_at code a) ≡ []
    → (nat_lt 0 (value_of Uniforms code t) && reads (fields_at code a) READ_UNIFORM) ≡ false
unfolding uniform_conflict
uniforms_ask code [] a p q = refl
uniforms_ask code (b ∷ []) a p q =
    asks_last (writes (fields_at code b) WRITE_UNIFORMS_ADDRESS) (reads (fields_at code a) READ_UNIFORM) (when_empty _ 4 b p)
uniforms_ask code (b ∷ (c ∷ t)) a p q =
    asks_two (writes (fields_at code b) WRITE_UNIFORMS_ADDRESS) (writes (fields_at code c) WRITE_UNIFORMS_ADDRESS) (reads (fields_at code a) READ_UNIFORM)
    (value_of Uniforms code t) (uniforms_few code t) (when_empty _ 4 b p) (when_empty _ 4 c q)
