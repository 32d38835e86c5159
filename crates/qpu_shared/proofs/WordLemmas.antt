-- What follows of a word's fields for what it does to the shared parts.
use Rattle.std.proofs.Common.{◌≡◌, ℕ, ◌<◌, sym, subst}
use Rattle.qpu_word.specs.declared.word.Fields.{Fields}
use Rattle.qpu_word.specs.Words.{fields_of}
use Rattle.qpu_word.proofs.ProfileLemmas.{field_below}

-- the number of a semaphore
pub number_below : (f : Fields) (w : ℕ) → f ≡ fields_of w → f.number < 16
number_below f w is = let P : Fields → Type 0 = λ g. g.number < 16 in subst P (sym is) (field_below w 0 4)
