-- VideoCore IV 3D Architecture Reference Guide, "VPM DMA": the elements of one transfer. The places of
-- a vertical transfer, sums without wrapping, and when a transfer may start are this project's own.
use Rattle.std.specs.Prelude.{ℕ, ◌+◌, ◌-◌, ◌*◌, ◌/◌, ◌%◌, ◌^◌, ◌==◌, ◌&&◌, ◌||◌, Bool, true, nat_lt, List, map, if◌then◌else◌}
use Rattle.std.specs.List.{range_with_len, list_all, flat_map}
use Rattle.qpu_word.specs.declared.code.TheConstants.{VPM_ROWS, VPM_COLUMNS}
use Rattle.qpu_word.specs.Words.{field}
use Rattle.qpu_word.specs.Setups.{counted}
use Rattle.qpu_bytes.specs.declared.size.Size.{Size}
use Rattle.qpu_bytes.specs.declared.size.Size.TheVariants.{Byte, Half, Word}
use Rattle.qpu_bytes.specs.Elements.{bytes_in, in_word, byte_place}
use Rattle.qpu_dma.specs.declared.direction.Direction.{Direction}
use Rattle.qpu_dma.specs.declared.direction.Direction.TheVariants.{Load, Store}
use Rattle.qpu_dma.specs.declared.Pair.{Pair}

-- a transfer: its rows, and the elements of a row; their size, whether each lies in a word of its own
-- or they are packed, and at which part of its word, or of the packed words, a row begins; the byte
-- address, and the bytes from a row to the next; the first VPM row and column, whether a row of it
-- stands upright there, and the step from a row to the next; the pitch or stride, which has to be a
-- multiple of the size; and the rows that were moved
pub record TransferState : Type 0 where
  pub rows : ℕ
  pub row_length : ℕ
  pub size : Size
  pub laned : Bool
  pub first : ℕ
  pub address : ℕ
  pub pitch : ℕ
  pub row : ℕ
  pub column : ℕ
  pub vertical : Bool
  pub vpm_pitch : ℕ
  pub aligned : ℕ
  pub moved : ℕ

-- the size of a width code: 0 is 32 bits, 2 and 3 are 16 bits, 4 to 7 are 8 bits
abbrev pub width_size : ℕ → Size
width_size width = if width == 0 then Word else if nat_lt width 4 then Half else Byte

-- the part of a word at which a width code begins
abbrev pub width_first : ℕ → ℕ
width_first width = if width == 0 then 0 else if nat_lt width 4 then width - 2 else width - 4

-- the bytes from a row of a load to the next: by the setup's code, or the extended pitch
abbrev pub load_pitch : ℕ → ℕ → ℕ
load_pitch setup extended = if field setup 24 4 == 0 then extended else 8 * 2 ^ field setup 24 4

-- the elements of a row of a store
abbrev pub store_depth : ℕ → ℕ
store_depth setup = counted (field setup 16 7) 128

-- a transfer before its first move: by its setup, its pitch or stride and its byte address
unfoldable pub transfer_of : Direction → ℕ → ℕ → ℕ → TransferState
transfer_of Load setup extended address = record {
  rows = counted (field setup 16 4) 16;
  row_length = counted (field setup 20 4) 16;
  size = width_size (field setup 28 3);
  laned = true;
  first = width_first (field setup 28 3);
  address = address;
  pitch = load_pitch setup extended;
  row = field setup 4 7;
  column = field setup 0 4;
  vertical = (field setup 11 1 == 1);
  vpm_pitch = counted (field setup 12 4) 16;
  aligned = load_pitch setup extended;
  moved = 0;
}
transfer_of Store setup stride address = record {
  rows = counted (field setup 23 7) 128;
  row_length = store_depth setup;
  size = width_size (field setup 0 3);
  laned = (field setup 15 1 == 1);
  first = width_first (field setup 0 3);
  address = address;
  pitch = bytes_in (width_size (field setup 0 3)) * store_depth setup + stride;
  row = field setup 7 7;
  column = field setup 3 4;
  vertical = (field setup 14 1 == 0);
  vpm_pitch = 1;
  aligned = stride;
  moved = 0;
}

-- how many words element j of a row lies behind the row's first word
abbrev pub words_along : TransferState → ℕ → ℕ
words_along t j = if t.laned then j else (t.first + j) / in_word t.size

-- the byte of its word at which element j of a row begins
abbrev pub byte_along : TransferState → ℕ → ℕ
byte_along t j = if t.laned then bytes_in t.size * t.first else bytes_in t.size * ((t.first + j) % in_word t.size)

-- where an element lies: its byte address in memory; and its row, column and byte in the VPM
pub record Spot : Type 0 where
  pub at : ℕ
  pub row : ℕ
  pub column : ℕ
  pub byte : ℕ

-- row k, element j of a transfer
abbrev pub spot_at : TransferState → ℕ → ℕ → Spot
spot_at t k j = record {
  at = t.address + k * t.pitch + bytes_in t.size * j;
  row = (if t.vertical then t.row + words_along t j else t.row + k * t.vpm_pitch);
  column = (if t.vertical then t.column + k * t.vpm_pitch else t.column + words_along t j);
  byte = byte_along t j;
}

-- the same as a byte address in memory and a byte place in the VPM
abbrev pub pair_at : TransferState → ℕ → ℕ → Pair
pair_at t k j = record {
  at = (spot_at t k j).at;
  place = byte_place (spot_at t k j).row (spot_at t k j).column (spot_at t k j).byte;
  size = t.size;
}

-- the pairs of row k, element by element
unfoldable pub row_pairs : TransferState → ℕ → List Pair
row_pairs t k = map (pair_at t k) (range_with_len 0 t.row_length)

-- the pairs of a transfer, row by row
unfoldable pub transfer_pairs : TransferState → List Pair
transfer_pairs t = flat_map (row_pairs t) (range_with_len 0 t.rows)

-- an element that lies in the VPM and in a memory of so many words
abbrev pub is_inside : ℕ → Spot → Bool
is_inside words spot = nat_lt (spot.at / 4) words && nat_lt spot.row VPM_ROWS && nat_lt spot.column VPM_COLUMNS

-- a row whose elements all do
abbrev pub row_inside : TransferState → ℕ → ℕ → Bool
row_inside t words k = list_all (λ j. is_inside words (spot_at t k j)) (range_with_len 0 t.row_length)

-- a transfer that may start: each element lies inside, the address is a multiple of their size, and so
-- is the pitch or stride where there is more than one row
unfoldable pub fits : TransferState → ℕ → Bool
fits t words =
    list_all (row_inside t words) (range_with_len 0 t.rows)
    && (t.address % bytes_in t.size == 0)
    && (nat_lt t.rows 2 || (t.aligned % bytes_in t.size == 0))
