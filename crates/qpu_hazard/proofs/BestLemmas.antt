-- The best hazard over a list of breaks.
use Rattle.std.proofs.Common.{◌≡◌, ◌⊎◌, ℕ, ◌+◌, ◌<◌, ◌≤◌, List, length, get_or, take, Option, Some, ◌∙◌, subst, inl, inr}
use Rattle.std.specs.Prelude.{All, Contains}
use Rattle.std.proofs.lemmas.List.{take_all}
use Rattle.std.proofs.lemmas.List.Elements.{All-more, All-weaker, Contains-get_or}
use Rattle.qpu_hazard.specs.declared.breaks.Break.{Break}
use Rattle.qpu_hazard.specs.declared.breaks.Hazard.{Hazard}
use Rattle.qpu_hazard.specs.Search.{AtMost, hazard_at}

-- what was kept after the first i breaks
pub record KeptSoFar (old new : Option Hazard) (at : ℕ) (breaks : List Break) (i : ℕ) : Type 0 where
  pub falls : (x : Hazard) → AtMost old x → AtMost new x
  pub least : All (λ b. AtMost new (hazard_at at b)) (take i breaks)
  pub one : (new ≡ old) ⊎ ((b : Break) × Contains breaks b × (new ≡ Some (hazard_at at b)))

one_more : {old new next : Option Hazard} (at : ℕ) (breaks : List Break) (b : Break) → Contains breaks b
    → (new ≡ old) ⊎ ((b : Break) × Contains breaks b × (new ≡ Some (hazard_at at b)))
    → (next ≡ new) ⊎ (next ≡ Some (hazard_at at b))
    → (next ≡ old) ⊎ ((b : Break) × Contains breaks b × (next ≡ Some (hazard_at at b)))
one_more at breaks b has (inl e) (inl f) = inl (f ∙ e)
one_more at breaks b has (inr w) (inl f) = inr (w.0, w.1, f ∙ w.2)
one_more at breaks b has kept (inr f) = inr (b, has, f)

pub kept_more : (old new next : Option Hazard) (at : ℕ) (breaks : List Break) (i : ℕ) (d : Break) → i < length breaks
    → ((x : Hazard) → AtMost new x → AtMost next x) → AtMost next (hazard_at at (get_or breaks i d))
    → (next ≡ new) ⊎ (next ≡ Some (hazard_at at (get_or breaks i d)))
    → KeptSoFar old new at breaks i → KeptSoFar old next at breaks (i + 1)
kept_more old new next at breaks i d low falls least one kept = record {
  falls = λ x at_most. falls x (kept.falls x at_most);
  least =
      All-more (λ y. AtMost next (hazard_at at y)) breaks i d low
      (All-weaker (λ y. AtMost new (hazard_at at y)) (λ y. AtMost next (hazard_at at y)) (λ y. falls (hazard_at at y)) (take i breaks) kept.least)
      least;
  one = one_more at breaks (get_or breaks i d) (Contains-get_or breaks i d low) kept.one one;
}

pub least_all : (best : Option Hazard) (at : ℕ) (breaks : List Break) (i : ℕ) → length breaks ≤ i
    → All (λ b. AtMost best (hazard_at at b)) (take i breaks) → All (λ b. AtMost best (hazard_at at b)) breaks
least_all best at breaks i past all =
    subst (λ (l : List Break). All (λ b. AtMost best (hazard_at at b)) l) (take_all i breaks past) all
