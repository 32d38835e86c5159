-- In one transfer that may start no place is written twice. This project's own.
use Rattle.std.specs.Prelude.{◌≡◌, ℕ, ◌<◌, IsTrue}
use Rattle.qpu_dma.specs.declared.direction.Direction.{Direction}
use Rattle.qpu_dma.specs.Transfers.{transfer_of, pair_at, fits}
use Rattle.qpu_dma.specs.Moves.{target}

-- elements of a transfer that are written at one place are one
abbrev pub EachPlaceOnce : Type 0
EachPlaceOnce =
    (direction : Direction) (setup step address words k j l i : ℕ)
    → IsTrue (fits (transfer_of direction setup step address) words)
    → k < (transfer_of direction setup step address).rows → l < (transfer_of direction setup step address).rows
    → j < (transfer_of direction setup step address).row_length → i < (transfer_of direction setup step address).row_length
    → target direction (pair_at (transfer_of direction setup step address) k j) ≡ target direction (pair_at (transfer_of direction setup step address) l i)
    → (k ≡ l) × (j ≡ i)
