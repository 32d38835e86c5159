-- A result is one value or one error.
use Rattle.std.proofs.Common.{◌≡◌, Option, Some, None, Result, Ok, Err, IfOk, sym, subst, ◌∙◌}

pub one_value : {X E : Type 0} (r : Result X E) (x y : X) → r ≡ Ok x → r ≡ Ok y → x ≡ y
one_value {X} {E} r x y p q = let e : ◌≡◌ {A = Result X E} (Ok x) (Ok y) = sym p ∙ q in cc

pub one_error : {X E : Type 0} (r : Result X E) (e f : E) → r ≡ Err e → r ≡ Err f → e ≡ f
one_error {X} {E} r e f p q = let g : ◌≡◌ {A = Result X E} (Err e) (Err f) = sym p ∙ q in cc

pub not_both : {X E : Type 0} (r : Result X E) (x : X) (e : E) → r ≡ Ok x → r ≡ Err e → ⊥
not_both {X} {E} r x e p q = absurd (let g : ◌≡◌ {A = Result X E} (Ok x) (Err e) = sym p ∙ q in cc)

pub one_some : {X : Type 0} (o : Option X) (x y : X) → o ≡ Some x → o ≡ Some y → x ≡ y
one_some {X} o x y p q = let e : ◌≡◌ {A = Option X} (Some x) (Some y) = sym p ∙ q in cc

pub not_some : {X : Type 0} (o : Option X) (x : X) → o ≡ Some x → o ≡ None → ⊥
not_some {X} o x p q = absurd (let e : ◌≡◌ {A = Option X} (Some x) None = sym p ∙ q in cc)

-- what a result is under a condition
pub is_as : {X E C : Type 0} (Is : X → Type 0) (x : X) (r : Result X E) → (C → Is x) → IfOk r (λ y. (y ≡ x) × C) → IfOk r Is
is_as {X} {E} {C} Is x (Ok y) holds told = subst Is (sym told.0) (holds told.1)
is_as {X} {E} {C} Is x (Err e) holds told = tt
