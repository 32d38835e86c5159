-- VideoCore IV 3D Architecture Reference Guide, "VPM Vertical Access", "VPM Horizontal Access" and
-- "QPU Registers for VPM and VCD Functions": where the lanes of one access lie. The VPM of 64 rows is
-- this project's own.
use Rattle.std.specs.Prelude.{ℕ, ◌+◌, ◌*◌, ◌/◌, ◌%◌, ◌==◌, Bool, true, false, List, if◌then◌else◌}
use Rattle.qpu_word.specs.declared.code.TheConstants.{VPM_ROWS}
use Rattle.qpu_word.specs.Words.{field}
use Rattle.qpu_word.specs.Lanes.{lanes}
use Rattle.qpu_word.specs.Setups.{counted, vector_count}
use Rattle.qpu_bytes.specs.declared.size.Size.{Size}
use Rattle.qpu_bytes.specs.declared.size.Size.TheVariants.{Byte, Half, Word}
use Rattle.qpu_bytes.specs.Elements.{in_word, byte_place}
use Rattle.qpu_vpm.specs.declared.setup.VectorSetup.{VectorSetup}

-- the size of a size code: 0, 1 and 2 are 8, 16 and 32 bits
abbrev pub size_of_code : ℕ → Size
size_of_code code = if code == 0 then Byte else if code == 1 then Half else Word

-- the fields of a setup of vectors
abbrev pub setup_of : ℕ → VectorSetup
setup_of value = record {
  horizontal = (field value 11 1 == 1);
  laned = (field value 10 1 == 1);
  size = size_of_code (field value 8 2);
  stride = counted (field value 12 6) 64;
  at = field value 0 8;
  count = vector_count value;
}

-- the place of the k-th access of a setup, from 0: e places are in a row, for e elements in a word
abbrev pub access_place : VectorSetup → ℕ → ℕ
access_place setup k = (setup.at + k * setup.stride) % (VPM_ROWS * in_word setup.size)

-- the byte place of lane i of a row t, at part b of its words where elements lie in lanes, or part b
-- of the row where they are packed
abbrev pub row_lane : Size → Bool → ℕ → ℕ → ℕ → ℕ
row_lane Byte true t b i = byte_place t i b
row_lane Byte false t b i = byte_place t 0 (16 * b + i)
row_lane Half true t b i = byte_place t i (2 * b)
row_lane Half false t b i = byte_place t 0 (32 * b + 2 * i)
row_lane Word laned t b i = byte_place t i 0

-- the byte place of lane i of column t mod 16 of the sixteen rows from 16 (t div 16) on, at part b of
-- its words, or part b of the column
abbrev pub column_lane : Size → Bool → ℕ → ℕ → ℕ → ℕ
column_lane Byte true t b i = byte_place (16 * (t / 16) + i) (t % 16) b
column_lane Byte false t b i = byte_place (16 * (t / 16) + 4 * b + i / 4) (t % 16) (i % 4)
column_lane Half true t b i = byte_place (16 * (t / 16) + i) (t % 16) (2 * b)
column_lane Half false t b i = byte_place (16 * (t / 16) + 8 * b + i / 2) (t % 16) (2 * (i % 2))
column_lane Word laned t b i = byte_place (16 * (t / 16) + i) (t % 16) 0

-- the byte place of lane i of a vector at a place, which is part place mod e of row or column place
-- div e
abbrev pub lane_place : VectorSetup → ℕ → ℕ → ℕ
lane_place setup place i =
    if setup.horizontal then row_lane setup.size setup.laned (place / in_word setup.size) (place % in_word setup.size) i
    else column_lane setup.size setup.laned (place / in_word setup.size) (place % in_word setup.size) i

-- the sixteen byte places of the k-th access of a setup
unfoldable pub vector_places : VectorSetup → ℕ → List ℕ
vector_places setup k = lanes (lane_place setup (access_place setup k))
