-- What a sink shows of itself, and what one write or the writing of a whole text does to it.
use Rattle.std.specs.Prelude.{◌≡◌, ℕ, ◌<◌, ◌≤◌, List, ◌++◌, length, take, Option, option_map, None, Result, Ok, Err}
use Rattle.qpu_io.specs.Faults.{Rose}

-- what a sink shows: the bytes held, where it tells them, and its count of faults
pub record Output : Type 0 where
  pub held : Option (List ℕ)
  pub faults : ℕ

-- what a sink shows that tells no bytes: its count of faults
abbrev pub output_untold : ℕ → Output
output_untold faults = record { held = None; faults = faults }

-- a sink after these bytes were appended, with no fault
abbrev pub appended : Output → List ℕ → Output
appended old bytes = record old { held = option_map (λ held. held ++ bytes) old.held }

-- a write of the first n bytes of a piece: at least one where the piece isn't empty
pub record Writes (old new : Output) (piece : List ℕ) (n : ℕ) : Type 0 where
  pub within : n ≤ length piece
  pub some : 0 < length piece → 0 < n
  pub held : new ≡ appended old (take n piece)

-- a write that failed: nothing was appended, and the count of faults rose
pub record WriteFails (old new : Output) : Type 0 where
  pub held : new.held ≡ old.held
  pub faults : Rose old.faults new.faults

-- a list is a front of another
abbrev pub IsFront : List ℕ → List ℕ → Type 0
IsFront part text = (rest : List ℕ) × (text ≡ part ++ rest)

-- a text was cut off by a fault: a front of it was appended, and the count of faults rose
pub record Cut (old new : Output) (text : List ℕ) : Type 0 where
  pub part : List ℕ
  pub front : IsFront part text
  pub held : new.held ≡ (appended old part).held
  pub faults : Rose old.faults new.faults

-- the whole text was appended with no fault, or a fault cut it off
abbrev pub Prints : {T E : Type 0} → Output → Output → List ℕ → Result T E → Type 0
Prints old new text (Ok _) = new ≡ appended old text
Prints old new text (Err _) = Cut old new text
