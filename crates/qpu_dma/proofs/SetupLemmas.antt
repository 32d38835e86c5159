-- What each setup gives of a transfer: some rows of some elements, rows apart in the VPM.
use Rattle.std.proofs.Common.{◌≡◌, ℕ, zero, suc, ◌/◌, ◌%◌, ◌^◌, ◌<◌, ◌≤◌, IsTrue, refl, arith}
use Rattle.std.proofs.lemmas.Bool.Decides.{nat_tests}
use Rattle.qpu_bytes.specs.Elements.{in_word}
use Rattle.qpu_dma.specs.declared.direction.Direction.{Direction}
use Rattle.qpu_dma.specs.declared.direction.Direction.TheVariants.{Load, Store}
use Rattle.qpu_dma.specs.Transfers.{transfer_of, width_size, width_first, fits}
use Rattle.qpu_dma.proofs.FitLemmas.{fitting_few}

pub some_rows : (direction : Direction) (setup step address : ℕ) → 1 ≤ (transfer_of direction setup step address).rows
unfolding transfer_of
some_rows Load setup step address = grind (arith, nat_tests)
some_rows Store setup step address = grind (arith, nat_tests)

pub some_elements : (direction : Direction) (setup step address : ℕ) → 1 ≤ (transfer_of direction setup step address).row_length
unfolding transfer_of
some_elements Load setup step address = grind (arith, nat_tests)
some_elements Store setup step address = grind (arith, nat_tests)

pub rows_apart : (direction : Direction) (setup step address : ℕ) → 1 ≤ (transfer_of direction setup step address).vpm_pitch
unfolding transfer_of
rows_apart Load setup step address = grind (arith, nat_tests)
rows_apart Store setup step address = omega arith

-- no row of it was moved
pub none_moved : (direction : Direction) (setup step address : ℕ) → (transfer_of direction setup step address).moved ≡ 0
unfolding transfer_of
none_moved Load setup step address = refl
none_moved Store setup step address = refl

-- a load has few rows
pub load_rows : (setup step address : ℕ) → (transfer_of Load setup step address).rows ≤ 16
unfolding transfer_of
load_rows setup step address = grind (arith, nat_tests)

-- and a transfer that may start has no more than the VPM
pub transfer_rows : (direction : Direction) (setup step address words : ℕ) → IsTrue (fits (transfer_of direction setup step address) words) → (transfer_of direction setup step address).rows ≤ 64
transfer_rows direction setup step address words may =
    fitting_few (transfer_of direction setup step address) words (some_rows direction setup step address) (some_elements direction setup step address) (rows_apart direction setup step address) may

-- a width code begins within a word
width_begins : (width : ℕ) → width < 8 → width_first width < in_word (width_size width)
width_begins zero low = omega arith
width_begins (suc zero) low = omega arith
width_begins (suc (suc zero)) low = omega arith
width_begins (suc (suc (suc zero))) low = omega arith
width_begins (suc (suc (suc (suc zero)))) low = omega arith
width_begins (suc (suc (suc (suc (suc zero))))) low = omega arith
width_begins (suc (suc (suc (suc (suc (suc zero)))))) low = omega arith
width_begins (suc (suc (suc (suc (suc (suc (suc zero))))))) low = omega arith
width_begins (suc (suc (suc (suc (suc (suc (suc (suc n)))))))) low = absurd (omega arith)

pub row_begins : (direction : Direction) (setup step address : ℕ) → (transfer_of direction setup step address).first < in_word (transfer_of direction setup step address).size
unfolding transfer_of
row_begins Load setup step address = width_begins (setup / 2 ^ 28 % 2 ^ 3) (omega arith)
row_begins Store setup step address = width_begins (setup / 2 ^ 0 % 2 ^ 3) (omega arith)
