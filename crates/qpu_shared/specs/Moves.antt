-- The moves of pending transfers and look-ups. That a row and a look-up are a step each is this
-- project's own.
use Rattle.std.specs.Prelude.{ℕ, List, [], map, Option, Some, None, option_map, slice_index, slice_set, nat_lt, if◌then◌else◌}
use Rattle.qpu_word.specs.declared.code.TheConstants.{TMU_UNITS}
use Rattle.qpu_dma.specs.declared.direction.Direction.{Direction}
use Rattle.qpu_dma.specs.declared.direction.Direction.TheVariants.{Load as LoadOf, Store as StoreOf}
use Rattle.qpu_dma.specs.declared.Pair.{Pair}
use Rattle.qpu_dma.specs.Transfers.{TransferState, row_pairs}
use Rattle.qpu_dma.specs.Moves.{carried, after_row}
use Rattle.qpu_tmu.specs.declared.look_up.LookUp.{LookUp}
use Rattle.qpu_tmu.specs.Looks.{with_queue, next_look, with_words}
use Rattle.qpu_shared.specs.declared.pending.Pending.{Pending}
use Rattle.qpu_shared.specs.SharedState.{SharedState}
use Rattle.qpu_shared.specs.Instruction.{pending_of, looks_of}

-- the shared parts with what a processor has pending replaced
abbrev pub with_pending : SharedState → ℕ → Pending → SharedState
with_pending h q pending = record h { pending = slice_set h.pending q pending }

-- the shared parts after elements are carried: a load's into the VPM, a store's into memory
abbrev pub with_carried : Direction → SharedState → List Pair → SharedState
with_carried LoadOf h pairs = record h { vpm = carried LoadOf h.memory h.vpm pairs }
with_carried StoreOf h pairs = record h { memory = carried StoreOf h.vpm h.memory pairs }

-- the transfer of a direction that is pending
abbrev pub transfer_in : Direction → Pending → Option TransferState
transfer_in LoadOf pending = pending.load
transfer_in StoreOf pending = pending.store

-- what is pending with the transfer of a direction replaced
abbrev pub with_transfer : Direction → Pending → Option TransferState → Pending
with_transfer LoadOf pending transfer = record pending { load = transfer }
with_transfer StoreOf pending transfer = record pending { store = transfer }

-- the shared parts after the next row of a pending transfer is moved, where there is one
abbrev pub after_row_of : Direction → SharedState → ℕ → Option TransferState → Option SharedState
after_row_of direction h q None = None
after_row_of direction h q (Some t) =
    Some (with_pending (with_carried direction h (row_pairs t t.moved)) q (with_transfer direction (pending_of h q) (after_row t)))

-- the look-ups of a unit after the oldest that isn't fetched has its words from memory, where
-- there is one
abbrev pub fetched : List ℕ → List LookUp → Option (List LookUp)
fetched memory looks = option_map (λ at. with_words (map (slice_index memory) at) looks) (next_look looks)

-- the look-ups of a TMU unit, the oldest first; another number has none
abbrev pub unit_looks : Pending → ℕ → List LookUp
unit_looks pending unit = if nat_lt unit TMU_UNITS then looks_of pending unit else []

-- the shared parts after a look-up move of a TMU unit, where it has one to make
abbrev pub after_fetch : SharedState → ℕ → ℕ → Option (List LookUp) → Option SharedState
after_fetch h q unit None = None
after_fetch h q unit (Some looks) =
    Some (with_pending h q (record (pending_of h q) { looks = with_queue (pending_of h q).looks unit looks }))

-- the shared parts after each kind of move of a processor, none where it has none to make
unfoldable pub row_moved : Direction → SharedState → ℕ → Option SharedState
row_moved direction h q = after_row_of direction h q (transfer_in direction (pending_of h q))

unfoldable pub fetch_moved : SharedState → ℕ → ℕ → Option SharedState
fetch_moved h q unit = after_fetch h q unit (fetched h.memory (unit_looks (pending_of h q) unit))
