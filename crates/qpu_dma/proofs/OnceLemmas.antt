-- In one transfer that may start no place is written twice.
use Rattle.std.proofs.Common.{◌≡◌, ℕ, ◌+◌, ◌*◌, ◌/◌, ◌%◌, ◌<◌, ◌≤◌, Bool, true, false, IsTrue, arith, if◌then◌else◌, ◌⊎◌, inl, inr}
use Rattle.std.proofs.lemmas.Nat.{same_from_place}
use Rattle.qpu_bytes.specs.declared.size.Size.{Size}
use Rattle.qpu_bytes.specs.declared.size.Size.TheVariants.{Byte, Half, Word}
use Rattle.qpu_bytes.specs.Elements.{bytes_in, in_word, byte_place}
use Rattle.qpu_dma.specs.declared.direction.Direction.TheVariants.{Load, Store}
use Rattle.qpu_dma.specs.Transfers.{TransferState, transfer_of, words_along, byte_along, spot_at, pair_at, fits}
use Rattle.qpu_dma.specs.Once.{EachPlaceOnce}
use Rattle.qpu_dma.proofs.SpotLemmas.{LiesInside, byte_low}
use Rattle.qpu_dma.proofs.SetupLemmas.{rows_apart, row_begins}
use Rattle.qpu_dma.proofs.FitLemmas.{fitting_inside, fitting_step, whole_number}

-- equal products of a number that isn't 0
same_factor : (a b p : ℕ) → 1 ≤ p → a * p ≡ b * p → a ≡ b
same_factor a b p some same = (same_from_place a 0 b 0 p (omega arith) (omega arith) (omega arith)).0

-- elements of a row at one byte of one word are one
strand_apart : (laned : Bool) (size : Size) (first j i : ℕ)
    → (if laned then j else (first + j) / in_word size) ≡ (if laned then i else (first + i) / in_word size)
    → (if laned then bytes_in size * first else bytes_in size * ((first + j) % in_word size)) ≡ (if laned then bytes_in size * first else bytes_in size * ((first + i) % in_word size))
    → j ≡ i
strand_apart true size first j i words bytes = words
strand_apart false Byte first j i words bytes = omega arith
strand_apart false Half first j i words bytes = omega arith
strand_apart false Word first j i words bytes = omega arith

-- words of one row and column come of one row, so many words along
cells_apart : (upright : Bool) (r c v w k l p : ℕ) → 1 ≤ p
    → (if upright then r + v else r + k * p) ≡ (if upright then r + w else r + l * p)
    → (if upright then c + k * p else c + v) ≡ (if upright then c + l * p else c + w)
    → (k ≡ l) × (v ≡ w)
cells_apart true r c v w k l p some rows columns = (same_factor k l p some (omega arith), omega arith)
cells_apart false r c v w k l p some rows columns = (same_factor k l p some (omega arith), omega arith)

-- equal byte places have one row, one column and one byte
places_apart : (r c b s d e : ℕ) → c < 16 → d < 16 → b < 4 → e < 4 → byte_place r c b ≡ byte_place s d e → (r ≡ s) × (c ≡ d) × (b ≡ e)
places_apart r c b s d e low_c low_d low_b low_e same = (omega arith, omega arith, omega arith)

-- elements of a transfer that may start at one place of the VPM are one
one_place : (t : TransferState) (words k j l i : ℕ) → 1 ≤ t.vpm_pitch → t.first < in_word t.size → IsTrue (fits t words)
    → k < t.rows → l < t.rows → j < t.row_length → i < t.row_length
    → (pair_at t k j).place ≡ (pair_at t l i).place → (k ≡ l) × (j ≡ i)
one_place t words k j l i apart begins may low_k low_l low_j low_i same =
    let a : LiesInside words (spot_at t k j) = fitting_inside t words k j may low_k low_j in
    let b : LiesInside words (spot_at t l i) = fitting_inside t words l i may low_l low_i in
    let cell = places_apart (spot_at t k j).row (spot_at t k j).column (byte_along t j) (spot_at t l i).row (spot_at t l i).column (byte_along t i)
    a.column b.column (byte_low t j begins) (byte_low t i begins) same in
    let sides = cells_apart t.vertical t.row t.column (words_along t j) (words_along t i) k l t.vpm_pitch apart cell.0 cell.1 in
    (sides.0, strand_apart t.laned t.size t.first j i sides.1 cell.2)

-- a load writes no place of the VPM twice
once_of_load : (setup step address words k j l i : ℕ)
    → IsTrue (fits (transfer_of Load setup step address) words)
    → k < (transfer_of Load setup step address).rows → l < (transfer_of Load setup step address).rows
    → j < (transfer_of Load setup step address).row_length → i < (transfer_of Load setup step address).row_length
    → (pair_at (transfer_of Load setup step address) k j).place ≡ (pair_at (transfer_of Load setup step address) l i).place
    → (k ≡ l) × (j ≡ i)
once_of_load setup step address words k j l i =
    one_place (transfer_of Load setup step address) words k j l i (rows_apart Load setup step address) (row_begins Load setup step address)

-- equal addresses of rows a whole stride apart
address_apart : (size : Size) (a w q k j l i : ℕ)
    → a + k * (bytes_in size * w + bytes_in size * q) + bytes_in size * j ≡ a + l * (bytes_in size * w + bytes_in size * q) + bytes_in size * i
    → k * (w + q) + j ≡ l * (w + q) + i
address_apart Byte a w q k j l i same = omega arith
address_apart Half a w q k j l i same = omega arith
address_apart Word a w q k j l i same = omega arith

-- equal addresses of a single row
row_apart : (size : Size) (a p k j l i : ℕ) → k ≡ 0 → l ≡ 0 → a + k * p + bytes_in size * j ≡ a + l * p + bytes_in size * i → j ≡ i
row_apart Byte a p k j l i first second same = let bare = rw (first, second) at same in omega arith
row_apart Half a p k j l i first second same = let bare = rw (first, second) at same in omega arith
row_apart Word a p k j l i first second same = let bare = rw (first, second) at same in omega arith

-- both
one_address : (size : Size) (a s rows w k j l i : ℕ) → (rows < 2) ⊎ (s % bytes_in size ≡ 0) → k < rows → l < rows → j < w → i < w
    → a + k * (bytes_in size * w + s) + bytes_in size * j ≡ a + l * (bytes_in size * w + s) + bytes_in size * i → (k ≡ l) × (j ≡ i)
one_address size a s rows w k j l i (inl few) low_k low_l low_j low_i same =
    (omega arith, row_apart size a (bytes_in size * w + s) k j l i (omega arith) (omega arith) same)
one_address size a s rows w k j l i (inr steps) low_k low_l low_j low_i same =
    let bare = rw (whole_number size s steps) at same in
    same_from_place k j l i (w + s / bytes_in size) (omega arith) (omega arith) (address_apart size a w (s / bytes_in size) k j l i bare)

-- and a store no address twice
once_of_store : (setup step address words k j l i : ℕ)
    → IsTrue (fits (transfer_of Store setup step address) words)
    → k < (transfer_of Store setup step address).rows → l < (transfer_of Store setup step address).rows
    → j < (transfer_of Store setup step address).row_length → i < (transfer_of Store setup step address).row_length
    → (pair_at (transfer_of Store setup step address) k j).at ≡ (pair_at (transfer_of Store setup step address) l i).at
    → (k ≡ l) × (j ≡ i)
unfolding transfer_of
once_of_store setup step address words k j l i may =
    one_address (transfer_of Store setup step address).size address step (transfer_of Store setup step address).rows (transfer_of Store setup step address).row_length k j l i
    (fitting_step (transfer_of Store setup step address) words may)

-- whichever way it goes
pub each_place_once : EachPlaceOnce
each_place_once Load = once_of_load
each_place_once Store = once_of_store
