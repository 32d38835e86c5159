-- A fetch by recursion over the queue is a look for the oldest that isn't fetched, and a write of it.
use Rattle.std.proofs.Common.{◌≡◌, ℕ, List, ◌∷◌, Option, Some, None, refl}
use Rattle.std.specs.Prelude.{option_map}
use Rattle.qpu_tmu.specs.declared.look_up.LookUp.{LookUp}
use Rattle.qpu_tmu.specs.Looks.{next_look, with_words}

-- the look-ups after the next of them got the words that are read at its indexes, where there is one
abbrev pub served : (List ℕ → List ℕ) → List LookUp → Option (List LookUp)
served read looks = option_map (λ at. with_words (read at) looks) (next_look looks)

-- the first look-up isn't fetched: it is served
pub served-waiting : (read : List ℕ → List ℕ) (at : List ℕ) (more : List LookUp) → served read ((record { at = at; words = None }) ∷ more) ≡ Some ((record { at = at; words = Some (read at) }) ∷ more)
served-waiting read at more = refl

before_each : (look : LookUp) (f : List ℕ → List LookUp) (o : Option (List ℕ)) → option_map (λ at. look ∷ f at) o ≡ option_map (λ later. look ∷ later) (option_map f o)
before_each look f None = refl
before_each look f (Some at) = refl

-- the first look-up is fetched: one of the others is served
pub served-fetched : (read : List ℕ → List ℕ) (look : LookUp) (words : List ℕ) (more : List LookUp) → served read ((record look { words = Some words }) ∷ more) ≡ option_map (λ later. (record look { words = Some words }) ∷ later) (served read more)
served-fetched read look words more =
    before_each (record look { words = Some words }) (λ at. with_words (read at) more) (next_look more)
