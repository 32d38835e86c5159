-- Values by name, in the order in which they were put. This project's own.
use Rattle.std.specs.Prelude.{ℕ, nat_eq, List, [], ◌∷◌, Option, Some, None, if◌then◌else◌}
use Rattle.std.specs.Cmp.Lexicographic.{pointwise}

-- the value under a name
abbrev pub found : {V : Type 0} → List ℕ → List (List ℕ × V) → Option V
found name [] = None
found name (e ∷ entries) = if pointwise nat_eq name e.0 then Some e.1 else found name entries

-- a value in the place of that under the same name, or behind the others
abbrev pub put_in : {V : Type 0} → List ℕ → V → List (List ℕ × V) → List (List ℕ × V)
put_in name value [] = (name, value) ∷ []
put_in name value (e ∷ entries) = if pointwise nat_eq name e.0 then (e.0, value) ∷ entries else e ∷ put_in name value entries
