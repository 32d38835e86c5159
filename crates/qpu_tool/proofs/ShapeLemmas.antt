-- The words of commands.
use Rattle.std.proofs.Common.{◌≡◌, ℕ, ◌<◌, ◌≤◌, false, List, [], ◌∷◌, length, map, refl, arith}
use Rattle.qpu_tool.specs.Commands.{are_words}

pub too_few : {A B : Type 0} (f : A → List ℕ) (g : B → List ℕ) (row : List A) (words : List B) → length words < 1 → 1 ≤ length row
    → false ≡ are_words (map f row) (map g words)
too_few {A} {B} f g [] words few some = absurd (omega (arith, some))
too_few {A} {B} f g (r ∷ row) [] few some = refl
too_few {A} {B} f g (r ∷ row) (w ∷ words) few some = absurd (omega (arith, few))
