-- Reading on by one.
use Rattle.std.proofs.Common.{◌≡◌, ℕ, zero, suc, ◌+◌, ◌<◌, List, [], ◌∷◌, length, take, map, get_or, refl, add-one, arith}
use Rattle.std.specs.Prelude.{fold}

-- one item more of a list that is mapped and folded
read_on : {A B C : Type 0} (f : B → C → B) (g : A → C) (b : B) (xs : List A) (i : ℕ) (d : A) → i < length xs → fold f b (map g (take (suc i) xs)) ≡ f (fold f b (map g (take i xs))) (g (get_or xs i d))
read_on f g b [] i d h = absurd (omega arith)
read_on f g b (x ∷ xs) zero d h = refl
read_on f g b (x ∷ xs) (suc i) d h = read_on f g (f b (g x)) xs i d (omega arith)

pub read_more : {A B C : Type 0} (f : B → C → B) (g : A → C) (b : B) (xs : List A) (i : ℕ) (d : A) → i < length xs → fold f b (map g (take (i + 1) xs)) ≡ f (fold f b (map g (take i xs))) (g (get_or xs i d))
read_more f g b xs i d h = rw (add-one i) (read_on f g b xs i d h)
