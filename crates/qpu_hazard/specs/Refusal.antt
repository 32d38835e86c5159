-- Which programs are refused, and why: the least place, rule and place told with it at which some
-- path breaks a rule that broke none before. Paths are unboundedly many, so no function finds it;
-- the relation says which one is first. This project's own.
use Rattle.std.specs.Prelude.{◌≡◌, ◌<◌, ◌≤◌, ◌⊎◌, ℕ, List, [], ◌∷◌, Contains}
use Rattle.qpu_hazard.specs.declared.breaks.Hazard.{Hazard}
use Rattle.qpu_hazard.specs.Paths.{IsPath, broken}

-- the place at which a path ends; 0 where it has no word
abbrev pub path_end : List ℕ → ℕ
path_end [] = 0
path_end (a ∷ t) = a

-- some path that ends at the place breaks the rule there, told with the place before
pub record IsRefusable (code : List ℕ) (h : Hazard) : Type 0 where
  pub path : List ℕ
  pub is_path : IsPath code path
  pub ends : path_end path ≡ h.at
  pub breaks : Contains (broken code path) (record { rule = h.rule; before = h.before })

-- one hazard is not after another: by place, rule, and the place told with it
abbrev pub NotAfter : Hazard → Hazard → Type 0
NotAfter x y =
    (x.at < y.at)
    ⊎ ((x.at ≡ y.at) × ((x.rule < y.rule) ⊎ ((x.rule ≡ y.rule) × (x.before ≤ y.before))))

-- a hazard is the first of a program
pub record IsFirst (code : List ℕ) (h : Hazard) : Type 0 where
  pub refusable : IsRefusable code h
  pub least : (other : Hazard) → IsRefusable code other → NotAfter h other

-- nothing is refusable
abbrev pub NoneRefusable : List ℕ → Type 0
NoneRefusable code = (h : Hazard) → IsRefusable code h → ⊥

-- one hazard at most is first
abbrev pub OneFirst : Type 0
OneFirst = (code : List ℕ) (x y : Hazard) → IsFirst code x → IsFirst code y → x ≡ y
