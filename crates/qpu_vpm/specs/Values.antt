-- Elements of the VPM read and written by lists of byte places. This project's own.
use Rattle.std.specs.Prelude.{ℕ, List, [], ◌∷◌, map}
use Rattle.qpu_bytes.specs.declared.size.Size.{Size}
use Rattle.qpu_bytes.specs.Elements.{part, with_part}

-- the elements at places of the VPM, extended with zeros
abbrev pub vpm_values : List ℕ → Size → List ℕ → List ℕ
vpm_values vpm size places = map (λ at. part vpm at size) places

-- the elements at places of the VPM set to the low bytes of values, one after another
abbrev pub with_values : List ℕ → Size → List ℕ → List ℕ → List ℕ
with_values vpm size [] values = vpm
with_values vpm size (at ∷ places) [] = vpm
with_values vpm size (at ∷ places) (v ∷ values) = with_values (with_part vpm at size v) size places values
