-- What contracts see of the shared parts: their state.
use Rattle.std.specs.Prelude.{ℕ, All, Option, IfSome, IsTrue, length}
use Rattle.qpu_dma.specs.Transfers.{TransferState, fits}
use Rattle.qpu_shared.specs.declared.pending.Pending.{Pending}
use Rattle.qpu_shared.specs.declared.shared.Shared.TheInside.{Inside}
use Rattle.qpu_shared.specs.SharedState.{SharedState}

-- the state of the parts
abbrev pub shared_state : Inside → SharedState
shared_state inside = record {
  memory = inside.memory;
  vpm = inside.vpm;
  mutex = inside.sync.holder;
  semaphores = inside.sync.counts;
  pending = inside.pending;
}

-- a transfer, where there is one, fits a memory of so many words
abbrev pub IsFitting : ℕ → Option TransferState → Type 0
IsFitting words transfer = IfSome transfer (λ t. IsTrue (fits t words))

-- what is pending was let start: it fits memory
pub record HasFitting (words : ℕ) (pending : Pending) : Type 0 where
  pub load : IsFitting words pending.load
  pub store : IsFitting words pending.store

-- all that is pending fits memory
abbrev pub IsSoundShared : Inside → Type 0
IsSoundShared inside = All (HasFitting (length inside.memory)) inside.pending
