-- Tests joined by and, or.
use Rattle.std.proofs.Common.{◌≡◌, Bool, true, false, Option, Some, None, refl, arith}
use Rattle.std.specs.Prelude.{◌&&◌, ◌||◌, IfSome}
use Rattle.std.specs.Option.{option_or}

pub never : (P : Type 0) → false ≡ true → P
never P e = absurd (grind (arith, e))

pub both_true : (a b : Bool) → (a && b) ≡ true → (a ≡ true) × (b ≡ true)
both_true true b e = (refl, e)
both_true false b e = never _ e

pub either_false : (a b : Bool) → (a || b) ≡ false → (a ≡ false) × (b ≡ false)
either_false true b e = absurd (grind (arith, e))
either_false false b e = (refl, e)

pub either_by : (a b c d : Bool) → (a ≡ true → c ≡ true) → (b ≡ true → d ≡ true) → (a || b) ≡ true → (c || d) ≡ true
either_by true b c d f g e = rw (f refl) refl
either_by false true true d f g e = refl
either_by false true false d f g e = g refl
either_by false false c d f g e = never _ e

pub or_true : (b : Bool) → (b || true) ≡ true
or_true true = refl
or_true false = refl

-- the first of two that is there
pub some_or : {A : Type 0} (P : A → Type 0) (a b : Option A) → IfSome a P → IfSome b P → IfSome (option_or a b) P
some_or P None b one other = other
some_or P (Some n) b one other = one
