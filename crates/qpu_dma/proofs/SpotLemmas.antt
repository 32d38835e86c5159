-- Where the elements of a transfer lie: each before the last, at multiples of their size.
use Rattle.std.proofs.Common.{◌≡◌, ℕ, ◌+◌, ◌*◌, ◌/◌, ◌%◌, ◌<◌, ◌≤◌, Bool, true, false, IsTrue, arith, if◌then◌else◌}
use Rattle.std.proofs.lemmas.Bool.Decides.{nat_tests}
use Rattle.std.proofs.Math.Nat.{mul-le-mul_right}
use Rattle.qpu_bytes.specs.declared.size.Size.{Size}
use Rattle.qpu_bytes.specs.declared.size.Size.TheVariants.{Byte, Half, Word}
use Rattle.qpu_bytes.specs.Elements.{bytes_in, in_word, is_place, byte_place}
use Rattle.qpu_dma.specs.Transfers.{TransferState, Spot, words_along, byte_along, spot_at, is_inside}

-- a spot that lies inside, as facts
pub record LiesInside (words : ℕ) (spot : Spot) : Type 0 where
  pub at : spot.at / 4 < words
  pub row : spot.row < 64
  pub column : spot.column < 16

-- from the test to the facts
pub inside_facts : (words : ℕ) (spot : Spot) → is_inside words spot ≡ true → LiesInside words spot
inside_facts words spot h = record {
  at = grind (arith, nat_tests);
  row = grind (arith, nat_tests);
  column = grind (arith, nat_tests);
}

-- from the facts to the test
pub inside_test : (words : ℕ) (spot : Spot) → LiesInside words spot → is_inside words spot ≡ true
inside_test words spot h = grind (arith, nat_tests)

-- elements further on lie no fewer words on
along_le : (laned : Bool) (size : Size) (first j last : ℕ) → j ≤ last
    → (if laned then j else (first + j) / in_word size) ≤ (if laned then last else (first + last) / in_word size)
along_le true size first j last before = before
along_le false Byte first j last before = omega arith
along_le false Half first j last before = omega arith
along_le false Word first j last before = omega arith

-- and no fewer bytes
bytes_le : (size : Size) (j last : ℕ) → j ≤ last → bytes_in size * j ≤ bytes_in size * last
bytes_le Byte j last before = omega arith
bytes_le Half j last before = omega arith
bytes_le Word j last before = omega arith

-- a sum along or across a row is no less further on
sum_le : (upright : Bool) (from j last_j k last_k step : ℕ) → j ≤ last_j → k ≤ last_k → (if upright then from + j else from + k * step) ≤ (if upright then from + last_j else from + last_k * step)
sum_le true from j last_j k last_k step along across = omega arith
sum_le false from j last_j k last_k step along across = omega (arith, mul-le-mul_right step across)

sum_le_turned : (upright : Bool) (from j last_j k last_k step : ℕ) → j ≤ last_j → k ≤ last_k → (if upright then from + k * step else from + j) ≤ (if upright then from + last_k * step else from + last_j)
sum_le_turned true from j last_j k last_k step along across = omega (arith, mul-le-mul_right step across)
sum_le_turned false from j last_j k last_k step along across = omega arith

at_le : (address b last_b k last_k pitch : ℕ) → b ≤ last_b → k ≤ last_k → (address + k * pitch + b) / 4 ≤ (address + last_k * pitch + last_b) / 4
at_le address b last_b k last_k pitch along across = omega (arith, mul-le-mul_right pitch across)

-- an element before one that lies inside lies inside
pub before_inside : (t : TransferState) (words k last_k j last_j : ℕ) → k ≤ last_k → j ≤ last_j → LiesInside words (spot_at t last_k last_j) → LiesInside words (spot_at t k j)
before_inside t words k last_k j last_j across before last =
    let along : words_along t j ≤ words_along t last_j = along_le t.laned t.size t.first j last_j before in
    record {
      at = omega (arith, last.at, at_le t.address (bytes_in t.size * j) (bytes_in t.size * last_j) k last_k t.pitch (bytes_le t.size j last_j before) across);
      row = omega (arith, last.row, sum_le t.vertical t.row (words_along t j) (words_along t last_j) k last_k t.vpm_pitch along across);
      column = omega (arith, last.column, sum_le_turned t.vertical t.column (words_along t j) (words_along t last_j) k last_k t.vpm_pitch along across);
    }

-- an element begins in its word
byte_low_by : (laned : Bool) (size : Size) (first j : ℕ) → first < in_word size
    → (if laned then bytes_in size * first else bytes_in size * ((first + j) % in_word size)) < 4
byte_low_by true Byte first j begins = omega arith
byte_low_by true Half first j begins = omega arith
byte_low_by true Word first j begins = omega arith
byte_low_by false Byte first j begins = omega arith
byte_low_by false Half first j begins = omega arith
byte_low_by false Word first j begins = omega arith

pub byte_low : (t : TransferState) (j : ℕ) → t.first < in_word t.size → byte_along t j < 4
byte_low t j begins = byte_low_by t.laned t.size t.first j begins

-- an element's place in the VPM is below its bytes
pub place_below : (row column byte : ℕ) → row < 64 → column < 16 → byte < 4 → byte_place row column byte < 4096
place_below row column byte low_row low_column low_byte = omega arith

-- and a multiple of its size
place_whole_by : (laned : Bool) (size : Size) (row column first j : ℕ)
    → IsTrue (is_place (byte_place row column (if laned then bytes_in size * first else bytes_in size * ((first + j) % in_word size))) size)
place_whole_by true Byte row column first j = grind (arith, nat_tests)
place_whole_by true Half row column first j = grind (arith, nat_tests)
place_whole_by true Word row column first j = grind (arith, nat_tests)
place_whole_by false Byte row column first j = grind (arith, nat_tests)
place_whole_by false Half row column first j = grind (arith, nat_tests)
place_whole_by false Word row column first j = grind (arith, nat_tests)

pub place_whole : (t : TransferState) (k j : ℕ) → IsTrue (is_place (byte_place (spot_at t k j).row (spot_at t k j).column (byte_along t j)) t.size)
place_whole t k j = place_whole_by t.laned t.size (spot_at t k j).row (spot_at t k j).column t.first j
