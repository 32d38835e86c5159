-- Trails that compare equal are equal.
use Rattle.std.proofs.Common.{◌≡◌, ℕ, Bool, true, false, ◌&&◌, List, eqb, Option, Some, None, refl, ap, sym, ◌∙◌}
use Rattle.std.specs.Prelude.{Contains, slice_get}
use Rattle.std.specs.Option.{option_eq}
use Rattle.std.proofs.Math.Bool.{beq}
use Rattle.std.proofs.lemmas.Bool.{eqb-true}
use Rattle.std.proofs.lemmas.Option.{slice_get_within, get_or_from_slice_get}
use Rattle.qpu_flow.specs.declared.slots.Slots.{Slots}
use Rattle.qpu_hazard.specs.declared.trail.Trail.{Trail}
use Rattle.qpu_hazard.proofs.Basics.{and_first, and_second}

pub same_option : {A : Type 0} (eq : A → A → Bool) → ((x y : A) → eq x y ≡ true → x ≡ y) → (o p : Option A) → option_eq eq o p ≡ true → o ≡ p
same_option eq same None None e = refl
same_option eq same None (Some y) e = cc
same_option eq same (Some x) None e = cc
same_option eq same (Some x) (Some y) e = ap (λ z. Some z) (same x y e)

pub same_bool : (x y : Bool) → beq x y ≡ true → x ≡ y
same_bool true true e = refl
same_bool true false e = cc
same_bool false true e = cc
same_bool false false e = refl

pub same_slots : (s t : Slots) → (eqb s.place t.place && eqb s.left t.left) ≡ true → s ≡ t
same_slots s t e =
    let place : s.place ≡ t.place = eqb-true s.place t.place (and_first _ _ e) in
    let left : s.left ≡ t.left = eqb-true s.left t.left (and_second (eqb s.place t.place) _ e) in
    λ i. record { place = place i; left = left i }

pub same_trail : (eq : Slots → Slots → Bool) → ((s t : Slots) → eq s t ≡ true → s ≡ t) → (x y : Trail)
    → (option_eq eqb x.last y.last && (option_eq eqb x.earlier y.earlier && (option_eq eq x.slots y.slots
    && (beq x.r4 y.r4 && (beq x.flags y.flags && (beq x.carry y.carry
    && (eqb x.looks_0 y.looks_0 && eqb x.looks_1 y.looks_1))))))) ≡ true → x ≡ y
same_trail eq same x y e =
    let from_earlier = and_second (option_eq eqb x.last y.last) _ e in
    let from_slots = and_second (option_eq eqb x.earlier y.earlier) _ from_earlier in
    let from_loaded = and_second (option_eq eq x.slots y.slots) _ from_slots in
    let from_flags = and_second (beq x.r4 y.r4) _ from_loaded in
    let from_carry = and_second (beq x.flags y.flags) _ from_flags in
    let from_looks = and_second (beq x.carry y.carry) _ from_carry in
    let last = same_option eqb eqb-true x.last y.last (and_first _ _ e) in
    let earlier = same_option eqb eqb-true x.earlier y.earlier (and_first _ _ from_earlier) in
    let slots = same_option eq same x.slots y.slots (and_first _ _ from_slots) in
    let r4 = same_bool x.r4 y.r4 (and_first _ _ from_loaded) in
    let flags = same_bool x.flags y.flags (and_first _ _ from_flags) in
    let carry = same_bool x.carry y.carry (and_first _ _ from_carry) in
    let looks_0 = eqb-true x.looks_0 y.looks_0 (and_first _ _ from_looks) in
    let looks_1 = eqb-true x.looks_1 y.looks_1 (and_second (eqb x.looks_0 y.looks_0) _ from_looks) in
    λ i. record {
      last = last i;
      earlier = earlier i;
      slots = slots i;
      r4 = r4 i;
      flags = flags i;
      carry = carry i;
      looks_0 = looks_0 i;
      looks_1 = looks_1 i;
    }

pub found_at : {X : Type 0} (xs : List X) (i : ℕ) (x y : X) → slice_get xs i ≡ Some y → x ≡ y → Contains xs x
found_at xs i x y found same =
    let at : slice_get xs i ≡ Some x = found ∙ ap (λ z. Some z) (sym same) in
    (i, slice_get_within xs i x at, get_or_from_slice_get xs i x x at)
