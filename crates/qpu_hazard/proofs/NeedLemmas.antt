-- What is kept of a path, of the parts that are followed, decides: what may follow, what the next word
-- breaks, and what is kept after it.
use Rattle.std.proofs.Common.{◌≡◌, ℕ, Bool, true, false, not, ◌&&◌, ◌||◌, List, [], ◌∷◌, Option, Some, None, refl, sym, ◌∙◌}
use Rattle.std.specs.Prelude.{IsTrue, if◌then◌else◌}
use Rattle.qpu_word.specs.declared.word.Fields.{Fields}
use Rattle.qpu_flow.specs.Code.{fields_at}
use Rattle.qpu_flow.specs.Control.{slots_after}
use Rattle.qpu_hazard.specs.declared.needs.Needs.{Needs}
use Rattle.qpu_hazard.specs.Demands.{uses_r4, loads_r4, tests_zn, sets_flags, tests_carry}
use Rattle.qpu_hazard.specs.Rules.{h4, h12, h13, rules_broken}
use Rattle.qpu_hazard.specs.Paths.{broken, follows, last_of, earlier_of, slots_of, r4_defined, flags_defined, c_defined, carry_after, looks_after, outstanding_looks}
use Rattle.qpu_hazard.specs.Trails.{trail, advance, follows_from, broken_from, remembered, forget, onward}
use Rattle.qpu_hazard.specs.Parts.{IsWay}
use Rattle.qpu_hazard.specs.Needs.{IsSparing, kept_trail, further}
use Rattle.qpu_hazard.proofs.TrailLemmas.{h4_remembered}
use Rattle.qpu_hazard.proofs.PartValues.{and_false, h13_neutral, uniforms_kept, r4_kept, flags_kept, carry_kept, looks_kept_0, looks_kept_1}

-- a neutral value in place of one that breaks nothing

spared_use : (needed uses defined : Bool) → (needed ≡ false → (uses && not defined) ≡ false) → (uses && not (if needed then defined else true)) ≡ (uses && not defined)
spared_use true uses defined clean = refl
spared_use false uses defined clean = and_false uses ∙ sym (clean refl)

spared_h4 : (code : List ℕ) (needed : Bool) (earlier : Option ℕ) (f : Fields) → (needed ≡ false → h4 code earlier f ≡ [])
    → h4 code (if needed then remembered code earlier else None) f ≡ h4 code earlier f
spared_h4 code true earlier f clean = h4_remembered code earlier f
spared_h4 code false earlier f clean = sym (clean refl)

spared_h13 : (needed : Bool) (unit looks : ℕ) (f : Fields) (a : ℕ) → (needed ≡ false → h13 unit looks f a ≡ [])
    → h13 unit (if needed then looks else 2) f a ≡ h13 unit looks f a
spared_h13 true unit looks f a clean = refl
spared_h13 false unit looks f a clean = h13_neutral unit f a ∙ sym (clean refl)

spared_h12 : (needs : Needs) (r4 flags carry : Bool) (f : Fields) (a : ℕ) → (needs.r4 ≡ false → (uses_r4 f && not r4) ≡ false)
    → (needs.flags ≡ false → (tests_zn f && not flags) ≡ false) → (needs.carry ≡ false → (tests_carry f && not carry) ≡ false)
    → h12 (if needs.r4 then r4 else true) (if needs.flags then flags else true) (if needs.carry then carry else true) f a ≡ h12 r4 flags carry f a
spared_h12 needs r4 flags carry f a p q r =
    rw (spared_use needs.r4 (uses_r4 f) r4 p, spared_use needs.flags (tests_zn f) flags q, spared_use needs.carry (tests_carry f) carry r) refl

-- the next word breaks the same
pub broken_kept : (needs : Needs) (code t : List ℕ) (a : ℕ) → IsSparing code needs → IsWay code t → IsTrue (follows code t a) → broken code (a ∷ t) ≡ broken_from code (kept_trail needs code t) a
unfolding broken broken_from rules_broken kept_trail forget trail
broken_kept needs code t a sparing way after =
    rw (
      spared_h4 code needs.uniforms (earlier_of t) (fields_at code a) (λ is. uniforms_kept code (sparing.uniforms is) t a way after),
      spared_h12 needs (r4_defined code t) (flags_defined code t) (c_defined code t) (fields_at code a) a (λ is. r4_kept code (sparing.r4 is) t a way after)
          (λ is. flags_kept code (sparing.flags is) t a way after) (λ is. carry_kept code (sparing.carry is) t a way after),
      spared_h13 needs.looks_0 0 (outstanding_looks code 0 t) (fields_at code a) a (λ is. looks_kept_0 code (sparing.looks_0 is) t a way after),
      spared_h13 needs.looks_1 1 (outstanding_looks code 1 t) (fields_at code a) a (λ is. looks_kept_1 code (sparing.looks_1 is) t a way after),
    ) refl

-- the same words may follow
pub follows_kept : (needs : Needs) (code t : List ℕ) (a : ℕ) → follows code t a ≡ follows_from code (kept_trail needs code t) a
unfolding follows follows_from kept_trail forget trail
follows_kept needs code t a = refl

-- and the same is kept
kept_once : {A : Type 0} (needed : Bool) (F : A → A) (x neutral : A) → (if needed then F x else neutral) ≡ (if needed then F (if needed then x else neutral) else neutral)
kept_once true F x neutral = refl
kept_once false F x neutral = refl

pub kept_law : (needs : Needs) (code t : List ℕ) (a : ℕ) → kept_trail needs code (a ∷ t) ≡ further needs code (kept_trail needs code t) a
unfolding kept_trail further onward forget advance trail
kept_law needs code t a =
    let r4 = kept_once needs.r4 (λ x. loads_r4 (fields_at code a) || x) (r4_defined code t) true in
    let flags = kept_once needs.flags (λ x. sets_flags (fields_at code a) || x) (flags_defined code t) true in
    let carry = kept_once needs.carry (λ x. carry_after (fields_at code a) x) (c_defined code t) true in
    let looks_0 = kept_once needs.looks_0 (λ x. looks_after (fields_at code a) 0 x) (outstanding_looks code 0 t) 2 in
    let looks_1 = kept_once needs.looks_1 (λ x. looks_after (fields_at code a) 1 x) (outstanding_looks code 1 t) 2 in
    λ i. record {
      last = Some a;
      earlier = (if needs.uniforms then remembered code (last_of t) else None);
      slots = slots_after code (slots_of code t) a;
      r4 = r4 i;
      flags = flags i;
      carry = carry i;
      looks_0 = looks_0 i;
      looks_1 = looks_1 i;
    }
