-- Rows of words that stand side by side, so that they can be carried at once. This project's own.
use Rattle.std.specs.Prelude.{◌≡◌, ◌<◌, ℕ, ◌+◌, ◌*◌}
use Rattle.qpu_bytes.specs.declared.size.Size.TheVariants.{Word}
use Rattle.qpu_dma.specs.declared.direction.Direction.{Direction}
use Rattle.qpu_dma.specs.declared.direction.Direction.TheVariants.{Load, Store}
use Rattle.qpu_dma.specs.declared.WordRow.{WordRow}
use Rattle.qpu_dma.specs.Transfers.{TransferState, pair_at}

-- the elements of row k are words, from these two on
abbrev pub LiesInRun : TransferState → ℕ → WordRow → Type 0
LiesInRun t k row = (j : ℕ) → j < t.row_length → pair_at t k j ≡ record { at = 4 * (row.at + j); place = 4 * (row.place + j); size = Word }

-- where its words are read, and where they are written
abbrev pub run_source : Direction → WordRow → ℕ
run_source Load row = row.at
run_source Store row = row.place

abbrev pub run_target : Direction → WordRow → ℕ
run_target Load row = row.place
run_target Store row = row.at
