-- What the rules say of a word that breaks none.
use Rattle.std.proofs.Common.{◌≡◌, ℕ, ◌+◌, ◌==◌, ◌<◌, ◌≤◌, Bool, true, false, not, ◌&&◌, ◌||◌, List, [], ◌∷◌, Option, Some, None, refl, ap, sym, ◌∙◌, subst, true≢false, arith}
use Rattle.std.specs.Prelude.{IfSome, IsTrue, nat_lt, if◌then◌else◌}
use Rattle.std.proofs.lemmas.Bool.{eqb-true}
use Rattle.std.proofs.lemmas.Bool.Decides.{nat_tests}
use Rattle.qpu_word.specs.declared.word.Fields.{Fields}
use Rattle.qpu_word.specs.declared.code.TheConstants.{READ_UNIFORM, WRITE_UNIFORMS_ADDRESS, READ_MUTEX}
use Rattle.qpu_word.specs.Words.{is_branch, is_program_end, is_tmu_load, is_semaphore, add_writes, mul_writes, reads, reads_a, reads_b, writes, one_if}
use Rattle.qpu_word.specs.Instruction.{is_look_address}
use Rattle.qpu_flow.specs.declared.slots.Slots.{Slots}
use Rattle.qpu_flow.specs.Code.{fields_at}
use Rattle.qpu_hazard.specs.declared.breaks.Break.{Break}
use Rattle.qpu_hazard.specs.Demands.{uniform_conflict, actions, look_place, looks_made, looks_taken, tests_zn, tests_carry, uses_r4}
use Rattle.qpu_hazard.specs.Rules.{in_slot, h4, h8, h9}
use Rattle.qpu_hazard.specs.Paths.{IsPath, IsClean, follows, last_of, earlier_of, slots_of, r4_defined, flags_defined, c_defined, outstanding_looks}
use Rattle.qpu_hazard.specs.Holds.{LooksHold, WordHolds}
use Rattle.qpu_hazard.proofs.Basics.{or_left, or_right, and_not, when_empty}
use Rattle.qpu_hazard.proofs.RuleLemmas.{BreaksNothing, few_looks}
use Rattle.qpu_hazard.proofs.KnownLemmas.{rules_kept, there}

first_false : (a b : Bool) → (a && b) ≡ false → b ≡ true → a ≡ false
first_false false b none holds = refl
first_false true b none holds = absurd (true≢false (sym holds ∙ none))

positive : (n : ℕ) → n ≡ 0 → 0 < n → ⊥
positive n none some = omega (arith, none, some)

one_not_zero : (n : ℕ) → n ≡ 1 → n ≡ 0 → ⊥
one_not_zero n is none = omega (arith, is, none)

not_above : (n : ℕ) → nat_lt 1 n ≡ false → n ≤ 1
not_above n test = grind (arith, nat_tests)

first_zero : (a b c d e f : ℕ) → c ≡ 1 → a + b + c + d + e + f ≤ 1 → a ≡ 0
first_zero a b c d e f one_if few = omega (arith, one_if, few)

second_zero : (a b c d e f : ℕ) → c ≡ 1 → a + b + c + d + e + f ≤ 1 → b ≡ 0
second_zero a b c d e f one_if few = omega (arith, one_if, few)

both_zero : (a b : ℕ) → a ≡ 0 → b ≡ 0 → a + b ≡ 0
both_zero a b x y = omega (arith, x, y)

room : (looks made : ℕ) → looks + made ≤ 4 → 0 < made → looks < 4
room looks made few makes = omega (arith, few, makes)

some_left : (looks made : ℕ) → made ≡ 0 → 1 ≤ looks + made → 0 < looks
some_left looks made none some = omega (arith, none, some)

-- what H9 says of a slot
abbrev in_slot_of : Option ℕ → Fields → List Break
in_slot_of begun f = in_slot begun (is_branch f || is_program_end f) 9

-- H4
written_before : (before f : Fields) → uniform_conflict before f ≡ false → reads f READ_UNIFORM ≡ true → writes before WRITE_UNIFORMS_ADDRESS ≡ false
unfolding uniform_conflict
written_before before f none reads_it = first_false (writes before WRITE_UNIFORMS_ADDRESS) (reads f READ_UNIFORM) none reads_it

uniforms_from : (code : List ℕ) (before : Option ℕ) (f : Fields) → h4 code before f ≡ [] → reads f READ_UNIFORM ≡ true
    → IfSome before (λ b. writes (fields_at code b) WRITE_UNIFORMS_ADDRESS ≡ false)
uniforms_from code None f none reads_it = tt
uniforms_from code (Some b) f none reads_it = written_before (fields_at code b) f (when_empty _ 4 b none) reads_it

-- H9
slots_from : (slots : Option Slots) (f : Fields) → h9 slots f ≡ []
    → IfSome slots (λ s. 0 < s.left → (is_branch f ≡ false) × (is_program_end f ≡ false))
slots_from None f none = tt
slots_from (Some s) f none = λ some. by_test (s.left == 0) refl some
  where
    by_test : (b : Bool) → (s.left == 0) ≡ b → 0 < s.left → (is_branch f ≡ false) × (is_program_end f ≡ false)
    by_test true is some = absurd (positive s.left (eqb-true s.left 0 is) some)
    by_test false is some =
        let held : (is_branch f || is_program_end f) ≡ false = when_empty _ 9 s.place (subst (λ (o : Option ℕ). in_slot_of o f ≡ []) (ap (λ (b : Bool). if b then None else Some s.place) is) none) in
        (or_left _ _ held, or_right _ _ held)

-- H12
defined_from : (uses r4 zn flags tests carry : Bool) → ((uses && not r4) || (zn && not flags) || (tests && not carry)) ≡ false
    → (uses ≡ true → r4 ≡ true) × (zn ≡ true → flags ≡ true) × (tests ≡ true → carry ≡ true)
defined_from uses r4 zn flags tests carry none =
    let first = or_left _ _ none in
    (and_not uses r4 (or_left _ _ first), and_not zn flags (or_right (uses && not r4) _ first), and_not tests carry (or_right _ _ none))

-- H8 and H13: a word with a TMU load makes no look-up

-- a unit that doesn't issue a look-up issues none of a unit
look_is_address : (waddr unit : ℕ) → (waddr == look_place unit) ≡ true → unit < 2 → is_look_address waddr ≡ true
look_is_address waddr unit is low = grind (arith, nat_tests)

made_by : (writes_it : Bool) (waddr unit : ℕ) → unit < 2 → one_if (writes_it && is_look_address waddr) ≡ 0 → one_if (writes_it && (waddr == look_place unit)) ≡ 0
made_by false waddr unit low none = refl
made_by true waddr unit low none = by_test (waddr == look_place unit) refl
  where
    by_test : (b : Bool) → (waddr == look_place unit) ≡ b → one_if b ≡ 0
    by_test false is = refl
    by_test true is = absurd (one_not_zero _ (ap one_if (look_is_address waddr unit is low)) none)

tmu_either : (f : Fields) (unit : ℕ) → unit < 2 → is_tmu_load f unit ≡ true → (is_tmu_load f 0 || is_tmu_load f 1) ≡ true
tmu_either f unit low is = grind (arith, nat_tests)

pub takes_alone : (f : Fields) (unit : ℕ) → unit < 2 → actions f ≤ 1 → is_tmu_load f unit ≡ true → looks_made f unit ≡ 0
unfolding actions looks_made
takes_alone f unit low few takes =
    let third : one_if (is_tmu_load f 0 || is_tmu_load f 1) ≡ 1 = ap one_if (tmu_either f unit low takes) in
    let add : one_if (add_writes f && is_look_address f.waddr_add) ≡ 0 =
    first_zero (one_if (add_writes f && is_look_address f.waddr_add)) (one_if (mul_writes f && is_look_address f.waddr_mul)) (one_if (is_tmu_load f 0 || is_tmu_load f 1))
    (one_if (reads_a f READ_MUTEX)) (one_if (reads_b f READ_MUTEX)) (one_if (is_semaphore f)) third few in
    let mul : one_if (mul_writes f && is_look_address f.waddr_mul) ≡ 0 =
    second_zero (one_if (add_writes f && is_look_address f.waddr_add)) (one_if (mul_writes f && is_look_address f.waddr_mul)) (one_if (is_tmu_load f 0 || is_tmu_load f 1))
    (one_if (reads_a f READ_MUTEX)) (one_if (reads_b f READ_MUTEX)) (one_if (is_semaphore f)) third few in
    both_zero (one_if (add_writes f && (f.waddr_add == look_place unit))) (one_if (mul_writes f && (f.waddr_mul == look_place unit)))
    (made_by (add_writes f) f.waddr_add unit low add) (made_by (mul_writes f) f.waddr_mul unit low mul)

pub looks_from : (f : Fields) (unit looks : ℕ) → unit < 2 → actions f ≤ 1
    → (looks + looks_made f unit ≤ 4) × (looks_taken f unit ≤ looks + looks_made f unit)
    → (0 < looks_made f unit → looks < 4) × (is_tmu_load f unit ≡ true → 0 < looks) × (looks + looks_made f unit ≤ 4)
unfolding looks_taken
looks_from f unit looks low few held = (
  λ makes. room looks (looks_made f unit) held.0 makes,
  λ takes. some_left looks (looks_made f unit) (takes_alone f unit low few takes) (subst (λ (b : Bool). one_if b ≤ looks + looks_made f unit) takes held.1),
  held.0,
)

few_actions : (f : Fields) (at : ℕ) → h8 f at ≡ [] → actions f ≤ 1
few_actions f at none = not_above (actions f) (when_empty _ 8 at none)

looks_hold : (code t : List ℕ) (a unit : ℕ) → unit < 2 → actions (fields_at code a) ≤ 1
    → (outstanding_looks code unit t + looks_made (fields_at code a) unit ≤ 4) × (looks_taken (fields_at code a) unit ≤ outstanding_looks code unit t + looks_made (fields_at code a) unit)
    → LooksHold code t a unit
looks_hold code t a unit low few held =
    let from = looks_from (fields_at code a) unit (outstanding_looks code unit t) low few held in
    record { room = from.0; one = from.1; most = from.2 }

pub word_holds : (code t : List ℕ) (a : ℕ) → IsClean code → IsPath code t → IsTrue (follows code t a) → WordHolds code t a
word_holds code t a clean is_path after =
    let rules : BreaksNothing code (last_of t) (earlier_of t) (slots_of code t) (r4_defined code t) (flags_defined code t) (c_defined code t) (outstanding_looks code 0 t) (outstanding_looks code 1 t) a =
    rules_kept code t a (clean (a ∷ t) (is_path, clean t is_path, after)) in
    let few : actions (fields_at code a) ≤ 1 = few_actions (fields_at code a) a rules.rule_8 in
    let defined = defined_from (uses_r4 (fields_at code a)) (r4_defined code t) (tests_zn (fields_at code a)) (flags_defined code t) (tests_carry (fields_at code a)) (c_defined code t) (when_empty _ 12 a rules.rule_12) in
    record {
      there = there code t a after;
      uniforms = record {
        last = uniforms_from code (last_of t) (fields_at code a) rules.rule_4_last;
        earlier = uniforms_from code (earlier_of t) (fields_at code a) rules.rule_4_earlier;
      };
      slots = slots_from (slots_of code t) (fields_at code a) rules.rule_9;
      defined = record { r4 = defined.0; flags = defined.1; carry = defined.2 };
      looks_0 = looks_hold code t a 0 (omega arith) few (few_looks 0 (outstanding_looks code 0 t) (fields_at code a) a rules.rule_13_0);
      looks_1 = looks_hold code t a 1 (omega arith) few (few_looks 1 (outstanding_looks code 1 t) (fields_at code a) a rules.rule_13_1);
      actions = few;
    }
