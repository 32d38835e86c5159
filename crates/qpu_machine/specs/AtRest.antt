-- Final machines: no move is pending, and what goes on awaits the others. This project's own.
use Rattle.std.specs.Prelude.{◌≡◌, ◌↔◌, ℕ, Bool, true, false, Some, IsSomeAnd, slice_index}
use Rattle.qpu_word.specs.declared.state.Halt.TheVariants.{Going}
use Rattle.qpu_word.specs.Words.{fields_of}
use Rattle.qpu_word.specs.Processor.{ProcessorState}
use Rattle.qpu_shared.specs.declared.cause.Cause.{Cause}
use Rattle.qpu_shared.specs.declared.cause.Cause.TheVariants.{LoadWait, StoreWait, LoadStart, StoreStart, TmuLoad, Mutex, Up, Down}
use Rattle.qpu_shared.specs.Instruction.{first_cause, is_running, pending_of}
use Rattle.qpu_machine.specs.Machine.{MachineState, processor_of, words_of}
use Rattle.qpu_machine.specs.Sound.{IsSoundMachine}
use Rattle.qpu_machine.specs.Bound.{moves_pending}
use Rattle.qpu_machine.specs.Ending.{IsFinal, has_run_out}

-- a cause that lies with other processors: the mutex or a semaphore
abbrev pub is_of_others : Cause → Bool
is_of_others LoadWait = false
is_of_others StoreWait = false
is_of_others LoadStart = false
is_of_others StoreStart = false
is_of_others (TmuLoad unit) = false
is_of_others Mutex = true
is_of_others (Up n) = true
is_of_others (Down n) = true

-- no move is pending, and the first cause of each running processor is the mutex or a semaphore
pub record IsAtRest (m : MachineState) : Type 0 where
  pub moves : (q : ℕ) → moves_pending (pending_of m.shared q) ≡ 0
  pub awaits : (q : ℕ) (p : ProcessorState) → processor_of m q ≡ Some p → is_running m.limit p ≡ true
      → IsSomeAnd (first_cause (fields_of (slice_index (words_of m q) p.place)) q m.shared) (λ cause. is_of_others cause ≡ true)

-- so are final machines
abbrev pub FinalIsAtRest : Type 0
FinalIsAtRest = (m : MachineState) → IsSoundMachine m → IsFinal m → IsAtRest m

-- a processor ran out exactly where it neither ended nor faulted and has executed the limit
abbrev pub RanOutAtLimit : MachineState → Type 0
RanOutAtLimit m =
    (q : ℕ) (p : ProcessorState) → processor_of m q ≡ Some p → (has_run_out m.limit (Some p) ≡ true) ↔ ((p.halt ≡ Going) × (p.executed ≡ m.limit))

-- so it is in sound machines
abbrev pub RunsOutAtLimit : Type 0
RunsOutAtLimit = (m : MachineState) → IsSoundMachine m → RanOutAtLimit m
