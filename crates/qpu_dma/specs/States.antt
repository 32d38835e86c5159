-- What contracts see of a transfer's places: its state. This project's own.
use Rattle.std.specs.Prelude.{◌≡◌, ℕ, ◌<◌, ◌≤◌, ◌%◌, ◌^◌, IsTrue}
use Rattle.qpu_word.specs.declared.code.TheConstants.{MEMORY_WORDS}
use Rattle.qpu_bytes.specs.Elements.{bytes_in, in_word}
use Rattle.qpu_dma.specs.declared.places.Places.{Places}
use Rattle.qpu_dma.specs.Transfers.{TransferState, fits}

-- the state of places of which so many rows were moved
abbrev pub state_of : Places → ℕ → TransferState
state_of places moved = record {
  rows = places.rows;
  row_length = places.row_length;
  size = places.size;
  laned = places.laned;
  first = places.first;
  address = places.address;
  pitch = places.pitch;
  row = places.row;
  column = places.column;
  vertical = places.vertical;
  vpm_pitch = places.vpm_pitch;
  aligned = places.aligned;
  moved = moved;
}

-- the places of a state
abbrev pub places_of : TransferState → Places
places_of t = record {
  rows = t.rows;
  row_length = t.row_length;
  size = t.size;
  laned = t.laned;
  first = t.first;
  address = t.address;
  pitch = t.pitch;
  row = t.row;
  column = t.column;
  vertical = t.vertical;
  vpm_pitch = t.vpm_pitch;
  aligned = t.aligned;
}

-- what each setup gives: some rows of some elements, which begin within a word, rows apart in the
-- VPM, a pitch whose sums stay below 2^64, and rows as far apart as their pitch or stride is whole
pub record IsPossible (t : TransferState) : Type 0 where
  pub some_rows : 1 ≤ t.rows
  pub most_rows : t.rows ≤ 128
  pub some_elements : 1 ≤ t.row_length
  pub most_elements : t.row_length ≤ 128
  pub begins : t.first < in_word t.size
  pub apart : 1 ≤ t.vpm_pitch
  pub near : t.pitch < 2 ^ 33
  pub whole : t.aligned % bytes_in t.size ≡ 0 → t.pitch % bytes_in t.size ≡ 0

-- such a transfer that may start in the largest memory, and has rows to move
pub record IsMovable (t : TransferState) : Type 0 where
  pub possible : IsPossible t
  pub fits : IsTrue (fits t MEMORY_WORDS)
  pub left : t.moved < t.rows
