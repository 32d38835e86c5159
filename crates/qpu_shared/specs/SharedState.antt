-- What the processors share, as numbers and lists. This project's own.
use Rattle.std.specs.Prelude.{ℕ, ◌*◌, List, Option, None, replicate}
use Rattle.qpu_word.specs.declared.code.TheConstants.{VPM_ROWS, VPM_COLUMNS, PROCESSORS, SEMAPHORES}
use Rattle.qpu_tmu.specs.Looks.{opening_lookups}
use Rattle.qpu_shared.specs.declared.pending.Pending.{Pending}

-- the words of memory; the words of the VPM, row by row; the holder of the mutex; the counts of
-- the sixteen semaphores; and what each of the twelve processors has pending
pub record SharedState : Type 0 where
  pub memory : List ℕ
  pub vpm : List ℕ
  pub mutex : Option ℕ
  pub semaphores : List ℕ
  pub pending : List Pending

-- a processor with nothing pending
abbrev pub nothing_pending : Pending
nothing_pending = record { load = None; store = None; looks = opening_lookups }

-- the shared parts before any step
unfoldable pub opening_shared : List ℕ → SharedState
opening_shared memory = record {
  memory = memory;
  vpm = replicate (VPM_ROWS * VPM_COLUMNS) 0;
  mutex = None;
  semaphores = replicate SEMAPHORES 0;
  pending = replicate PROCESSORS nothing_pending;
}
