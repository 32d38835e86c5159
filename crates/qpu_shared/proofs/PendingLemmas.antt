-- What one processor has pending, in the list of all.
use Rattle.std.proofs.Common.{◌≡◌, ℕ, ◌<◌, List, length, Option, None, Some}
use Rattle.std.proofs.Math.ListN.{set}
use Rattle.std.proofs.lemmas.List.{get_or_default}
use Rattle.std.proofs.lemmas.List.Elements.{All-set}
use Rattle.std.specs.Prelude.{All, slice_index_or, slice_set}
use Rattle.qpu_word.specs.declared.word.Fields.{Fields}
use Rattle.qpu_word.specs.declared.traffic.Outs.{Outs}
use Rattle.qpu_dma.specs.declared.direction.Direction.{Direction}
use Rattle.qpu_dma.specs.declared.direction.Direction.TheVariants.{Load as LoadOf, Store as StoreOf}
use Rattle.qpu_dma.specs.Transfers.{TransferState}
use Rattle.qpu_shared.specs.declared.pending.Pending.{Pending}
use Rattle.qpu_shared.specs.declared.starts.Begun.{Begun}
use Rattle.qpu_shared.specs.SharedState.{nothing_pending}
use Rattle.qpu_shared.specs.Instruction.{or_pending, pending_after}
use Rattle.qpu_shared.specs.Moves.{with_transfer}
use Rattle.qpu_shared.specs.Views.{IsFitting, HasFitting}

-- an entry that is there doesn't depend on what stands for one that isn't
pub entry_same : (pending : List Pending) (q : ℕ) (d : Pending) → q < length pending → slice_index_or pending q d ≡ slice_index_or pending q nothing_pending
entry_same pending q d there = get_or_default pending q d nothing_pending there

-- a transfer that starts, or the one that was pending, fits
or_fits : (words : ℕ) (starts pending : Option TransferState) → IsFitting words starts → IsFitting words pending → IsFitting words (or_pending starts pending)
or_fits words None pending first second = second
or_fits words (Some t) pending first second = first

-- what is pending after an instruction fits, where what starts and what was pending does
pub started_after : (f : Fields) (outs : Outs) (starts : Begun) (words : ℕ) (pending : Pending) → IsFitting words starts.load
    → IsFitting words starts.store → HasFitting words pending → HasFitting words (pending_after f outs starts pending)
unfolding pending_after
started_after f outs starts words pending load store before = record {
  load = or_fits words starts.load pending.load load before.load;
  store = or_fits words starts.store pending.store store before.store;
}

-- a transfer is replaced by one that fits
pub replaced_fits : (words : ℕ) (direction : Direction) (pending : Pending) (transfer : Option TransferState) → IsFitting words transfer → HasFitting words pending
    → HasFitting words (with_transfer direction pending transfer)
replaced_fits words LoadOf pending transfer fits before = record { load = fits; store = before.store }
replaced_fits words StoreOf pending transfer fits before = record { load = before.load; store = fits }

-- an entry is replaced by another that fits
pub started_set : (words : ℕ) (pending : List Pending) (q : ℕ) (new : Pending) → HasFitting words new → All (HasFitting words) pending
    → All (HasFitting words) (slice_set pending q new)
started_set words pending q new fits before = All-set (HasFitting words) pending q new fits before
