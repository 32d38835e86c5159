-- Processors away from their machine. This project's own.
use Rattle.std.specs.Prelude.{◌≡◌, ◌<◌, ◌≤◌, ◌+◌, ℕ, false, [], List, length, Option, None, Some, IsSomeAnd, slice_index, slice_index_or}
use Rattle.qpu_machine.specs.Kept.{IsKeptAlone}
use Rattle.qpu_machine.specs.Local.{LocalSteps, IsOwnAfter, IsStretched, is_local_next}
use Rattle.qpu_machine.specs.Machine.{MachineState}
use Rattle.qpu_rounds.specs.declared.away.Away.{Away}

-- the words of the program of a processor that is away
abbrev pub words_in : List (List ℕ) → Away → List ℕ
words_in programs a = slice_index_or programs a.program []

-- it can take local words: its program is one of the list, and where it goes on it stands on a path of it
pub record IsReady (programs : List (List ℕ)) (a : Away) : Type 0 where
  pub there : a.program < length programs
  pub kept : IsKeptAlone (words_in programs a) a.processor
  pub few : a.steps ≤ 1000000

-- it has taken all local words that were left
pub record HasRun (programs : List (List ℕ)) (limit : ℕ) (a b : Away) : Type 0 where
  pub count : ℕ
  pub steps : LocalSteps (words_in programs a) limit a.processor count b.processor
  pub counted : b.steps ≡ a.steps + count
  pub stops : is_local_next (words_in programs a) limit b.processor ≡ false

-- the same, where one is away
abbrev pub IsReadyAt : List (List ℕ) → Option Away → Type 0
IsReadyAt programs None = Unit {0}
IsReadyAt programs (Some a) = IsReady programs a

abbrev pub HasRunAt : List (List ℕ) → ℕ → Option Away → Option Away → Type 0
HasRunAt programs limit None after = after ≡ None
HasRunAt programs limit (Some a) after = IsSomeAnd after (HasRun programs limit a)

-- and of all of a list
abbrev pub AreReady : List (List ℕ) → List (Option Away) → Type 0
AreReady programs all = (k : ℕ) → IsReadyAt programs (slice_index_or all k None)

abbrev pub HaveRun : List (List ℕ) → ℕ → List (Option Away) → List (Option Away) → Type 0
HaveRun programs limit before after = (k : ℕ) → HasRunAt programs limit (slice_index_or before k None) (slice_index_or after k None)

-- it is what some local words leave of processor q of a machine
pub record IsSent (m : MachineState) (q : ℕ) (a : Away) : Type 0 where
  pub own : IsOwnAfter m q a.processor a.steps
  pub program : a.program ≡ slice_index m.program_of q
  pub few : a.steps ≤ m.limit

abbrev pub IsSentAt : MachineState → ℕ → Option Away → Type 0
IsSentAt m q None = Unit {0}
IsSentAt m q (Some a) = IsSent m q a

-- it is what all of its local words leave of processor q of a machine
abbrev pub IsBackAt : MachineState → ℕ → Option Away → Type 0
IsBackAt m q None = Unit {0}
IsBackAt m q (Some a) = IsStretched m q a.processor a.steps
