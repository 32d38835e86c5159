-- One word at most is the first outside the profile.
use Rattle.std.proofs.Common.{◌≡◌, ℕ, ◌⊎◌, ◌<◌, List, Option, Some, None, sym, subst, inl, inr, ◌∙◌}
use Rattle.std.proofs.lemmas.Bool.{cases_order}
use Rattle.qpu_word.specs.declared.fault.WordFault.{WordFault}
use Rattle.qpu_flow.specs.Code.{IsFirstOutside, NoneOutside, OneOutside}

none_and_some : {X : Type 0} (o : Option X) (x : X) → o ≡ None → o ≡ Some x → ⊥
none_and_some o x p q = absurd (let e : None ≡ Some x = sym p ∙ q in cc)

same_some : {X : Type 0} (o : Option X) (x y : X) → o ≡ Some x → o ≡ Some y → x ≡ y
same_some o x y p q = let e : Some x ≡ Some y = sym p ∙ q in cc

pub none_outside : NoneOutside
none_outside code at f inside outside = none_and_some _ f (inside at outside.there) outside.outside

same_at : (code : List ℕ) (a b : ℕ) (f g : WordFault) → IsFirstOutside code a f → IsFirstOutside code b g → a ≡ b
same_at code a b f g p q = by_order (cases_order a b)
  where
    by_order : (a ≡ b) ⊎ ((a < b) ⊎ (b < a)) → a ≡ b
    by_order (inl e) = e
    by_order (inr (inl low)) = absurd (none_and_some _ f (q.before a low) p.outside)
    by_order (inr (inr low)) = absurd (none_and_some _ g (p.before b low) q.outside)

same_why : (code : List ℕ) (a : ℕ) (f g : WordFault) → IsFirstOutside code a f → IsFirstOutside code a g → f ≡ g
same_why code a f g p q = same_some _ f g p.outside q.outside

pub one_outside : OneOutside
one_outside code a b f g p q =
    let e : a ≡ b = same_at code a b f g p q in
    (e, same_why code b f g (subst (λ (n : ℕ). IsFirstOutside code n f) e p) q)
