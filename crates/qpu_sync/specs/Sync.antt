-- VideoCore IV 3D Architecture Reference Guide, "Semaphores" and "Mutex" of the register address
-- map: the hardware mutex and the semaphores. That semaphores begin at 0, and that a release by
-- another than the holder does nothing, are this project's own.
use Rattle.std.specs.Prelude.{ℕ, ◌+◌, ◌-◌, ◌==◌, Bool, true, false, List, Option, Some, None, is_some, replicate, slice_index, slice_set, if◌then◌else◌}
use Rattle.qpu_word.specs.declared.code.TheConstants.{SEMAPHORES, SEMAPHORE_MOST}

-- the holder of the mutex, where somebody holds it, and the counts of the sixteen semaphores
pub record SyncState : Type 0 where
  pub holder : Option ℕ
  pub counts : List ℕ

-- nobody holds the mutex, and all counts are 0
abbrev pub opening_sync : SyncState
opening_sync = record { holder = None; counts = replicate SEMAPHORES 0 }

-- whether a processor is the holder
abbrev pub is_holder : Option ℕ → ℕ → Bool
is_holder None q = false
is_holder (Some holder) q = holder == q

-- the holder after a processor's acquire, which does nothing where somebody holds the mutex
abbrev pub acquired : Option ℕ → ℕ → Option ℕ
acquired holder q = if is_some holder then holder else Some q

-- the holder after a processor's release, which does nothing where another holds the mutex
abbrev pub released : Option ℕ → ℕ → Option ℕ
released holder q = if is_holder holder q then None else holder

-- the counts after an increment of one, which does nothing at its most
abbrev pub raised : List ℕ → ℕ → List ℕ
raised counts n =
    if slice_index counts n == SEMAPHORE_MOST then counts else slice_set counts n (slice_index counts n + 1)

-- the counts after a decrement of one, which does nothing at 0
abbrev pub lowered : List ℕ → ℕ → List ℕ
lowered counts n = if slice_index counts n == 0 then counts else slice_set counts n (slice_index counts n - 1)
