-- When a transfer may start: its last element decides, and then each lies inside.
use Rattle.std.proofs.Common.{◌≡◌, ℕ, ◌+◌, ◌-◌, ◌*◌, ◌/◌, ◌%◌, ◌<◌, ◌≤◌, Bool, true, false, ◌&&◌, ◌||◌, nat_lt, nat_eq, IsTrue, length, refl, ap, sym, subst, ◌∙◌, arith, if◌then◌else◌, Some, ◌⊎◌, inl, inr}
use Rattle.std.specs.List.{list_all, slice_get, range_with_len}
use Rattle.std.proofs.lemmas.Bool.Decides.{nat_tests}
use Rattle.std.proofs.lemmas.List.FromFn.{get_or-map-range_with_len, length-map-range_with_len}
use Rattle.std.proofs.lemmas.Option.{slice_get-get_or}
use Rattle.std.proofs.Math.Nat.{le-mul_of_pos_right}
use Rattle.qpu_bytes.specs.Elements.{bytes_in, is_place}
use Rattle.qpu_bytes.specs.declared.size.Size.{Size}
use Rattle.qpu_bytes.specs.declared.size.Size.TheVariants.{Byte, Half, Word}
use Rattle.qpu_word.specs.declared.code.TheConstants.{MEMORY_WORDS}
use Rattle.qpu_dma.specs.declared.Pair.{Pair}
use Rattle.qpu_dma.specs.Transfers.{TransferState, words_along, spot_at, pair_at, row_pairs, is_inside, row_inside, fits}
use Rattle.qpu_dma.specs.States.{IsPossible, IsMovable}
use Rattle.qpu_dma.proofs.RangeLemmas.{range_all, all_range, by_last}
use Rattle.qpu_dma.proofs.SpotLemmas.{LiesInside, inside_facts, inside_test, before_inside}

-- the last element of a row decides for the row, and that of the last row for all
row_by_last : (t : TransferState) (words k : ℕ) → 1 ≤ t.row_length → row_inside t words k ≡ is_inside words (spot_at t k (t.row_length - 1))
row_by_last t words k some =
    by_last (λ j. is_inside words (spot_at t k j)) t.row_length (is_inside words (spot_at t k (t.row_length - 1))) some refl
    (λ last j low. inside_test words (spot_at t k j)
    (before_inside t words k k j (t.row_length - 1) (omega arith) (omega arith) (inside_facts words (spot_at t k (t.row_length - 1)) last)))

pub all_by_last : (t : TransferState) (words : ℕ) → 1 ≤ t.rows → 1 ≤ t.row_length
    → list_all (row_inside t words) (range_with_len 0 t.rows) ≡ is_inside words (spot_at t (t.rows - 1) (t.row_length - 1))
all_by_last t words some_rows some =
    by_last (row_inside t words) t.rows (is_inside words (spot_at t (t.rows - 1) (t.row_length - 1))) some_rows (row_by_last t words (t.rows - 1) some)
    (λ last k low. row_by_last t words k some ∙ inside_test words (spot_at t k (t.row_length - 1))
    (before_inside t words k (t.rows - 1) (t.row_length - 1) (t.row_length - 1) (omega arith) (omega arith)
    (inside_facts words (spot_at t (t.rows - 1) (t.row_length - 1)) (sym (row_by_last t words (t.rows - 1) some) ∙ last))))

-- the tests that a transfer's address and pitch or stride are multiples of the size
abbrev pub aligned_test : TransferState → Bool
aligned_test t = nat_eq (t.address % bytes_in t.size) 0 && (nat_lt t.rows 2 || nat_eq (t.aligned % bytes_in t.size) 0)

together : (a b c : Bool) → (a && b && c) ≡ (a && (b && c))
together true b c = refl
together false b c = refl

-- whether a transfer may start, by its last element
pub fits_by_last : (t : TransferState) (words : ℕ) → 1 ≤ t.rows → 1 ≤ t.row_length
    → fits t words ≡ (is_inside words (spot_at t (t.rows - 1) (t.row_length - 1)) && aligned_test t)
unfolding fits
fits_by_last t words some_rows some =
    together (list_all (row_inside t words) (range_with_len 0 t.rows)) (nat_eq (t.address % bytes_in t.size) 0) (nat_lt t.rows 2 || nat_eq (t.aligned % bytes_in t.size) 0)
    ∙ ap (λ (b : Bool). b && aligned_test t) (all_by_last t words some_rows some)

-- of three tests that hold each holds
first_of_three : (a b c : Bool) → (a && b && c) ≡ true → a ≡ true
first_of_three true b c all = refl
first_of_three false b c all = cc

second_of_three : (a b c : Bool) → (a && b && c) ≡ true → b ≡ true
second_of_three true true c all = refl
second_of_three true false c all = cc
second_of_three false b c all = cc

third_of_three : (a b c : Bool) → (a && b && c) ≡ true → c ≡ true
third_of_three true true c all = all
third_of_three true false c all = cc
third_of_three false b c all = cc

-- another test in its place
first_replaced : (a other b c : Bool) → other ≡ true → (a && b && c) ≡ true → (other && b && c) ≡ true
first_replaced true other b c holds all = rw holds all
first_replaced false other b c holds all = cc

-- what a transfer that may start says of each element
pub fitting_inside : (t : TransferState) (words k j : ℕ) → IsTrue (fits t words) → k < t.rows → j < t.row_length → LiesInside words (spot_at t k j)
unfolding fits
fitting_inside t words k j may low within =
    let all = first_of_three (list_all (row_inside t words) (range_with_len 0 t.rows)) (nat_eq (t.address % bytes_in t.size) 0) (nat_lt t.rows 2 || nat_eq (t.aligned % bytes_in t.size) 0) may in
    inside_facts words (spot_at t k j)
    (range_all (λ i. is_inside words (spot_at t k i)) t.row_length j (range_all (row_inside t words) t.rows k all low) within)

-- what it says of its address
pub fitting_address : (t : TransferState) (words : ℕ) → IsTrue (fits t words) → t.address % bytes_in t.size ≡ 0
unfolding fits
fitting_address t words may =
    let holds = second_of_three (list_all (row_inside t words) (range_with_len 0 t.rows)) (nat_eq (t.address % bytes_in t.size) 0) (nat_lt t.rows 2 || nat_eq (t.aligned % bytes_in t.size) 0) may in
    grind (arith, nat_tests)

-- and of its pitch or stride
pub fitting_step : (t : TransferState) (words : ℕ) → IsTrue (fits t words) → (t.rows < 2) ⊎ (t.aligned % bytes_in t.size ≡ 0)
unfolding fits
fitting_step t words may =
    let holds = third_of_three (list_all (row_inside t words) (range_with_len 0 t.rows)) (nat_eq (t.address % bytes_in t.size) 0) (nat_lt t.rows 2 || nat_eq (t.aligned % bytes_in t.size) 0) may in
    grind (arith, nat_tests)

-- a transfer that may start in a memory may start in a greater one
pub fits_greater : (t : TransferState) (words more : ℕ) → words ≤ more → IsTrue (fits t words) → IsTrue (fits t more)
unfolding fits
fits_greater t words more great may =
    first_replaced (list_all (row_inside t words) (range_with_len 0 t.rows)) (list_all (row_inside t more) (range_with_len 0 t.rows)) (nat_eq (t.address % bytes_in t.size) 0) (nat_lt t.rows 2 || nat_eq (t.aligned % bytes_in t.size) 0)
    (all_range (row_inside t more) t.rows (λ k low. all_range (λ j. is_inside more (spot_at t k j)) t.row_length (λ j within.
    let inside : LiesInside words (spot_at t k j) = fitting_inside t words k j may low within in
    inside_test more (spot_at t k j) (record { at = omega (arith, inside.at); row = inside.row; column = inside.column }))))
    may

-- so many rows lie in the VPM
rows_of_last : (upright : Bool) (r c w k p : ℕ) → 1 ≤ p → (if upright then r + w else r + k * p) < 64 → (if upright then c + k * p else c + w) < 16 → k < 64
rows_of_last true r c w k p apart row column = omega (arith, le-mul_of_pos_right {m = p} k apart)
rows_of_last false r c w k p apart row column = omega (arith, le-mul_of_pos_right {m = p} k apart)

-- a transfer that may start has few rows
pub fitting_few : (t : TransferState) (words : ℕ) → 1 ≤ t.rows → 1 ≤ t.row_length → 1 ≤ t.vpm_pitch → IsTrue (fits t words) → t.rows ≤ 64
fitting_few t words some_rows some apart may =
    let last : LiesInside words (spot_at t (t.rows - 1) (t.row_length - 1)) = fitting_inside t words (t.rows - 1) (t.row_length - 1) may (omega arith) (omega arith) in
    let few = rows_of_last t.vertical t.row t.column (words_along t (t.row_length - 1)) (t.rows - 1) t.vpm_pitch apart last.row last.column in
    omega (arith, few)

-- how many rows were moved is nothing to it
pub fits_moved : (t : TransferState) (words moved : ℕ) → fits (record t { moved = moved }) words ≡ fits t words
unfolding fits
fits_moved t words moved = refl

possible_moved : (t : TransferState) (moved : ℕ) → IsPossible t → IsPossible (record t { moved = moved })
possible_moved t moved may = record {
  some_rows = may.some_rows;
  most_rows = may.most_rows;
  some_elements = may.some_elements;
  most_elements = may.most_elements;
  begins = may.begins;
  apart = may.apart;
  near = may.near;
  whole = may.whole;
}

-- the pairs of a row, as many as its elements
pub length-row_pairs : (t : TransferState) (k : ℕ) → length (row_pairs t k) ≡ t.row_length
unfolding row_pairs
length-row_pairs t k = length-map-range_with_len (pair_at t k) 0 t.row_length

-- and one by one
pub slice_get-row_pairs : (t : TransferState) (k j : ℕ) → j < t.row_length → slice_get (row_pairs t k) j ≡ Some (pair_at t k j)
unfolding row_pairs
slice_get-row_pairs t k j low =
    slice_get-get_or (row_pairs t k) j (pair_at t k j) (omega (arith, length-row_pairs t k))
    ∙ ap (λ (pair : Pair). Some pair) (get_or-map-range_with_len (pair_at t k) 0 t.row_length j j (pair_at t k j) low (omega arith))

-- the same, by two tests
pub fits_of_tests : (t : TransferState) (words at row column : ℕ) (inside aligned : Bool) → 1 ≤ t.rows → 1 ≤ t.row_length
    → at ≡ (spot_at t (t.rows - 1) (t.row_length - 1)).at → row ≡ (spot_at t (t.rows - 1) (t.row_length - 1)).row → column ≡ (spot_at t (t.rows - 1) (t.row_length - 1)).column
    → inside ≡ (nat_lt (at / 4) words && nat_lt row 64 && nat_lt column 16) → aligned ≡ aligned_test t
    → fits t words ≡ (inside && aligned)
fits_of_tests t words at row column inside aligned some_rows some at_is row_is column_is inside_is aligned_is =
    fits_by_last t words some_rows some ∙ rw (inside_is, aligned_is, at_is, row_is, column_is) refl

-- sums of multiples of the size
whole_sum : (size : Size) (a q k b : ℕ) → a % bytes_in size ≡ 0 → IsTrue (is_place (a + k * (bytes_in size * q) + bytes_in size * b) size)
whole_sum Byte a q k b even = grind (arith, nat_tests)
whole_sum Half a q k b even =
    let e : (a + k * (2 * q) + 2 * b) % 2 ≡ 0 = omega arith in grind (arith, nat_tests)
whole_sum Word a q k b even =
    let e : (a + k * (4 * q) + 4 * b) % 4 ≡ 0 = omega arith in grind (arith, nat_tests)

pub whole_number : (size : Size) (p : ℕ) → p % bytes_in size ≡ 0 → p ≡ bytes_in size * (p / bytes_in size)
whole_number Byte p even = omega arith
whole_number Half p even = omega arith
whole_number Word p even = omega arith

whole_row : (size : Size) (a p k b : ℕ) → a % bytes_in size ≡ 0 → p % bytes_in size ≡ 0 → IsTrue (is_place (a + k * p + bytes_in size * b) size)
whole_row size a p k b even steps =
    subst (λ n. IsTrue (is_place (a + k * n + bytes_in size * b) size)) (sym (whole_number size p steps)) (whole_sum size a (p / bytes_in size) k b even)

zero_times : (p : ℕ) → 0 * p ≡ 0
zero_times p = omega arith

first_row : (a p k b : ℕ) → k ≡ 0 → a + k * p + b ≡ a + 0 * 0 + b
first_row a p k b first = let none : k * p ≡ 0 = rw first (zero_times p) in omega arith

none_left : (size : Size) → 0 % bytes_in size ≡ 0
none_left Byte = refl
none_left Half = refl
none_left Word = refl

whole_at : (t : TransferState) (k j : ℕ) → t.address % bytes_in t.size ≡ 0 → (t.aligned % bytes_in t.size ≡ 0 → t.pitch % bytes_in t.size ≡ 0)
    → (t.rows < 2) ⊎ (t.aligned % bytes_in t.size ≡ 0) → k < t.rows → IsTrue (is_place (spot_at t k j).at t.size)
whole_at t k j even whole (inl few) low =
    subst (λ n. IsTrue (is_place n t.size)) (sym (first_row t.address t.pitch k (bytes_in t.size * j) (omega arith)))
    (whole_row t.size t.address 0 0 j even (none_left t.size))
whole_at t k j even whole (inr steps) low = whole_row t.size t.address t.pitch k j even (whole steps)

-- an element of a transfer that may start lies at a multiple of its size in memory
pub fitting_whole : (t : TransferState) (words k j : ℕ) → IsPossible t → IsTrue (fits t words) → k < t.rows → IsTrue (is_place (spot_at t k j).at t.size)
fitting_whole t words k j possible may low = whole_at t k j (fitting_address t words may) possible.whole (fitting_step t words may) low

-- what is left of a transfer may be moved on
pub movable_moved : (t : TransferState) (moved : ℕ) → IsMovable t → moved < t.rows → IsMovable (record t { moved = moved })
movable_moved t moved may low = record {
  possible = possible_moved t moved may.possible;
  fits = fits_moved t MEMORY_WORDS moved ∙ may.fits;
  left = low;
}

-- a movable transfer has few rows
pub movable_rows : (t : TransferState) → IsMovable t → t.rows ≤ 64
movable_rows t may = fitting_few t MEMORY_WORDS may.possible.some_rows may.possible.some_elements may.possible.apart may.fits
