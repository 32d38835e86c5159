-- The first number of an item, by the place of the first space.
use Rattle.std.proofs.Common.{◌≡◌, ℕ, ◌+◌, List, take, drop, Some, None, refl}
use Rattle.std.specs.Prelude.{position, option_map}
use Rattle.qpu_text.specs.Bytes.{SPACE}
use Rattle.qpu_record.specs.Items.{is_space, one_number, first_number}
use Rattle.qpu_text.proofs.LineLemmas.{cut_some, cut_none}

pub first_some : (text : List ℕ) (at : ℕ) → position is_space text ≡ Some at → first_number text ≡ option_map (λ number. (number, drop (at + 1) text)) (one_number (take at text))
unfolding first_number
first_some text at h = rw (cut_some SPACE text at h) refl

pub first_none : (text : List ℕ) → position is_space text ≡ None → first_number text ≡ None
unfolding first_number
first_none text h = rw (cut_none SPACE text h) refl
