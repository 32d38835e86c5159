-- A table's entries by the texts of their names.
use Rattle.std.proofs.Common.{◌≡◌, ℕ, Bool, true, false, List, [], ◌∷◌, map, refl, ap}
use Rattle.std.specs.Prelude.{nat_eq, cond, Some, if◌then◌else◌}
use Rattle.std.specs.Map.{lookup}
use Rattle.std.specs.Cmp.Lexicographic.{pointwise}
use Rattle.indexmap.specs.IndexMap.{insert_entry}
use Rattle.qpu_expr.specs.Tables.{found, put_in}

pub found_at : {K V : Type 0} (f : K → List ℕ) (name : List ℕ) (es : List (K × V)) → lookup (λ k. pointwise nat_eq name (f k)) es ≡ found name (map (λ e. (f e.0, e.1)) es)
found_at f name [] = refl
found_at f name (e ∷ es) = ap (λ r. cond (pointwise nat_eq name (f e.0)) (Some e.1) r) (found_at f name es)

pub put_at : {K V : Type 0} (f : K → List ℕ) (key : K) (value : V) (es : List (K × V)) → map (λ e. (f e.0, e.1)) (insert_entry (λ a b. pointwise nat_eq (f a) (f b)) es key value) ≡ put_in (f key) value (map (λ e. (f e.0, e.1)) es)
put_at f key value [] = refl
put_at f key value (e ∷ es) = by_name (pointwise nat_eq (f key) (f e.0)) (put_at f key value es)
  where
    by_name : (b : Bool) → map (λ e. (f e.0, e.1)) (insert_entry (λ a b. pointwise nat_eq (f a) (f b)) es key value) ≡ put_in (f key) value (map (λ e. (f e.0, e.1)) es) → map (λ e. (f e.0, e.1)) (if b then (e.0, value) ∷ es else e ∷ insert_entry (λ a b. pointwise nat_eq (f a) (f b)) es key value) ≡ (if b then (f e.0, value) ∷ map (λ e. (f e.0, e.1)) es else (f e.0, e.1) ∷ put_in (f key) value (map (λ e. (f e.0, e.1)) es))
    by_name true same = refl
    by_name false same = ap (λ r. (f e.0, e.1) ∷ r) same

pub values_at : {K V : Type 0} (f : K → List ℕ) (es : List (K × V)) → map {A = List ℕ × V} {B = V} (λ e. e.1) (map (λ (e : K × V). (f e.0, e.1)) es) ≡ map (λ (e : K × V). e.1) es
values_at f [] = refl
values_at f (e ∷ es) = ap (λ r. e.1 ∷ r) (values_at f es)
