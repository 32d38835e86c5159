-- Rows of words that stand side by side.
use Rattle.std.proofs.Common.{◌≡◌, ℕ, ◌+◌, ◌-◌, ◌*◌, ◌<◌, ◌≤◌, IsTrue, ap, arith}
use Rattle.qpu_dma.specs.declared.Pair.{Pair}
use Rattle.qpu_dma.specs.declared.WordRow.{WordRow}
use Rattle.qpu_dma.specs.Transfers.{TransferState, pair_at, fits}
use Rattle.qpu_dma.specs.States.{IsPossible}
use Rattle.qpu_dma.specs.Runs.{LiesInRun}
use Rattle.qpu_dma.proofs.FitLemmas.{fitting_inside}
use Rattle.qpu_dma.proofs.SpotLemmas.{byte_low, place_below}

-- a row of words ends inside the VPM
pub run_inside : (t : TransferState) (words k : ℕ) (row : WordRow) → IsPossible t → IsTrue (fits t words) → k < t.rows → 1 ≤ t.row_length → LiesInRun t k row → row.place + t.row_length ≤ 1024
run_inside t words k row possible may low some run =
    let last = t.row_length - 1 in
    let inside = fitting_inside t words k last may low (omega (arith, some)) in
    let below = place_below _ _ _ inside.row inside.column (byte_low t last possible.begins) in
    let place : (pair_at t k last).place ≡ 4 * (row.place + last) = ap (λ (p : Pair). p.place) (run last (omega (arith, some))) in
    omega (arith, below, place, some)
