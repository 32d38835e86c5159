-- What the move of one row of a transfer does. That a row is one move is this project's own.
use Rattle.std.specs.Prelude.{ℕ, ◌+◌, List, fold, Option, Some, None, nat_lt, if◌then◌else◌}
use Rattle.qpu_bytes.specs.Elements.{part, with_part}
use Rattle.qpu_dma.specs.declared.direction.Direction.{Direction}
use Rattle.qpu_dma.specs.declared.direction.Direction.TheVariants.{Load, Store}
use Rattle.qpu_dma.specs.declared.Pair.{Pair}
use Rattle.qpu_dma.specs.Transfers.{TransferState}

-- the place of a pair that is read: a load reads memory, a store the VPM
abbrev pub source : Direction → Pair → ℕ
source Load pair = pair.at
source Store pair = pair.place

-- the place that is written
abbrev pub target : Direction → Pair → ℕ
target Load pair = pair.place
target Store pair = pair.at

-- words into which one element is carried
abbrev pub carried_one : Direction → List ℕ → List ℕ → Pair → List ℕ
carried_one direction from into pair =
    with_part into (target direction pair) pair.size (part from (source direction pair) pair.size)

-- words into which elements are carried, one after another
unfoldable pub carried : Direction → List ℕ → List ℕ → List Pair → List ℕ
carried direction from into pairs = fold (carried_one direction from) into pairs

-- what is left of a transfer after the move of its next row; none after its last
unfoldable pub after_row : TransferState → Option TransferState
after_row t = if nat_lt (t.moved + 1) t.rows then Some (record t { moved = t.moved + 1 }) else None
