-- What a machine before any step is made of, and what holds of each schedule from it. This project's own.
use Rattle.std.specs.Prelude.{◌≡◌, ◌≢◌, ◌<◌, ◌≤◌, ℕ, ◌+◌, ◌*◌, List, All, length, slice_index_or, []}
use Rattle.std.specs.List.{AllPairs}
use Rattle.qpu_word.specs.declared.code.TheConstants.{PROCESSORS, LIMIT_MOST}
use Rattle.qpu_hazard.specs.Paths.{IsClean}
use Rattle.qpu_machine.specs.declared.actor.Actor.{Actor}
use Rattle.qpu_machine.specs.declared.start.Start.{Start}
use Rattle.qpu_machine.specs.Machine.{MachineState, machine_of}
use Rattle.qpu_machine.specs.Sound.{IsSoundMachine}
use Rattle.qpu_machine.specs.Schedule.{After}
use Rattle.qpu_machine.specs.Bound.{instructions_of, moves_most}
use Rattle.qpu_machine.specs.TracePaths.{TracesAreClean}

-- a limit, programs and starts that a machine may open with: the starts are of different processors
-- and of programs of the list, no path of which breaks a rule
pub record MayOpen (limit : ℕ) (programs : List (List ℕ)) (starts : List Start) : Type 0 where
  pub limited : limit ≤ LIMIT_MOST
  pub numbers : All (λ s. s.q < PROCESSORS) starts
  pub there : All (λ s. s.program < length programs) starts
  pub differ : AllPairs (λ s t. s.q ≢ t.q) starts
  pub clean : All (λ s. IsClean (slice_index_or programs s.program [])) starts

-- a machine before any step is sound
abbrev pub OpensSound : Type 0
OpensSound =
    (memory : List ℕ) (limit : ℕ) (programs : List (List ℕ)) (starts : List Start) → MayOpen limit programs starts
    → IsSoundMachine (machine_of memory limit programs starts)

-- a schedule has at most the limit of instructions for each processor, and for each start 81 steps
-- for each of these: the instruction, and the moves that it can make pending
pub record IsBounded (limit started : ℕ) (s : List Actor) : Type 0 where
  pub instructions : (q : ℕ) → instructions_of s q ≤ limit
  pub steps : length s ≤ (moves_most + 1) * limit * started

-- each schedule that is permitted from a machine before any step is bounded
abbrev pub BoundsSchedules : Type 0
BoundsSchedules =
    (memory : List ℕ) (limit : ℕ) (programs : List (List ℕ)) (starts : List Start) (s : List Actor) (n : MachineState)
    → MayOpen limit programs starts → After (machine_of memory limit programs starts) s n → IsBounded limit (length starts) s

-- and each of its traces is a path of its program that breaks no rule
abbrev pub TracesArePaths : Type 0
TracesArePaths =
    (memory : List ℕ) (limit : ℕ) (programs : List (List ℕ)) (starts : List Start) (s : List Actor) (n : MachineState)
    → MayOpen limit programs starts → After (machine_of memory limit programs starts) s n → TracesAreClean (machine_of memory limit programs starts) s

-- steps from a machine before any step, in which so many processors are started under a limit, are
-- bounded, and each of their traces is such a path
pub record IsOpeningRun (limit started : ℕ) (m : MachineState) (s : List Actor) : Type 0 where
  pub bounded : IsBounded limit started s
  pub traces : TracesAreClean m s

-- the steps of a call are, wherever its machine was one before any step
abbrev pub IsRunFromOpening : MachineState → List Actor → Type 0
IsRunFromOpening m s =
    (memory : List ℕ) (limit : ℕ) (programs : List (List ℕ)) (starts : List Start)
    → MayOpen limit programs starts → m ≡ machine_of memory limit programs starts → IsOpeningRun limit (length starts) m s
