-- The serial schedule: the order of a run without workers. This project's own.
use Rattle.std.specs.Prelude.{◌≡◌, ℕ, ◌+◌, ◌<◌, ◌&&◌, Bool, true, false, List, [], ◌∷◌, ◌++◌, Option, Some, None}
use Rattle.qpu_word.specs.declared.code.TheConstants.{PROCESSORS}
use Rattle.qpu_word.specs.Processor.{ProcessorState}
use Rattle.qpu_machine.specs.declared.actor.Actor.{Actor}
use Rattle.qpu_machine.specs.declared.actor.Actor.TheVariants.{Exec, Load, Store, Fetch}
use Rattle.qpu_machine.specs.Machine.{MachineState, Step, after_step, is_enabled, processor_of, words_of}
use Rattle.qpu_machine.specs.Ending.{IsFinal}
use Rattle.qpu_machine.specs.Local.{is_at_local}

-- a processor was started, and its next word is local
abbrev pub stands_at_local : List ℕ → Option ProcessorState → Bool
stands_at_local words None = false
stands_at_local words (Some p) = is_at_local words p

-- a processor has a step, and its next word is local
abbrev pub has_local_step : MachineState → ℕ → Bool
has_local_step m q = is_enabled m (Exec q) && stands_at_local (words_of m q) (processor_of m q)

-- a processor's local words, up to its next shared word or the end of its steps
pub data Stretch (q : ℕ) : MachineState → List Actor → MachineState → Type 0 where
  stops : {m : MachineState} → has_local_step m q ≡ false → Stretch q m [] m
  goes : {m n k : MachineState} {s : List Actor} → has_local_step m q ≡ true → Step m (Exec q) n → Stretch q n s k → Stretch q m (Exec q ∷ s) k

-- an actor takes one step where it has one
pub data Tried (actor : Actor) : MachineState → List Actor → MachineState → Type 0 where
  rests : {m : MachineState} → after_step m actor ≡ None → Tried actor m [] m
  moves : {m n : MachineState} → Step m actor n → Tried actor m (actor ∷ []) n

-- actors in turn, each tried once
pub data InTurn : List Actor → MachineState → List Actor → MachineState → Type 0 where
  none : {m : MachineState} → InTurn [] m [] m
  each : {actor : Actor} {more : List Actor} {m n k : MachineState} {s t : List Actor} → Tried actor m s n → InTurn more n t k → InTurn (actor ∷ more) m (s ++ t) k

-- what a processor tries after its local words: its next shared word, and then its moves
abbrev pub tries_of : ℕ → List Actor
tries_of q = Exec q ∷ Load q ∷ Store q ∷ Fetch q 0 ∷ Fetch q 1 ∷ []

-- what a processor does in a round: its local words, and then what it tries
pub data Turned (q : ℕ) : MachineState → List Actor → MachineState → Type 0 where
  turned : {m n k : MachineState} {s t : List Actor} → Stretch q m s n → InTurn (tries_of q) n t k → Turned q m (s ++ t) k

-- the processors from number q on, each with its local words and then what it tries, in order
pub data Round : ℕ → MachineState → List Actor → MachineState → Type 0 where
  over : {q : ℕ} {m : MachineState} → q ≡ PROCESSORS → Round q m [] m
  turn : {q : ℕ} {m n k l : MachineState} {s t u : List Actor} → q < PROCESSORS → Stretch q m s n → InTurn (tries_of q) n t k → Round (q + 1) k u l → Round q m (s ++ (t ++ u)) l

-- round after round until the machine is final
pub data SerialSchedule : MachineState → List Actor → MachineState → Type 0 where
  ends : {m : MachineState} → IsFinal m → SerialSchedule m [] m
  goes_on : {m n k : MachineState} {s t : List Actor} → Round 0 m s n → SerialSchedule n t k → SerialSchedule m (s ++ t) k
