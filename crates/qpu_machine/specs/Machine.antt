-- The machine, and one actor's step. This project's own.
use Rattle.std.specs.Prelude.{◌≡◌, ℕ, Bool, List, [], replicate, fold, Option, Some, None, is_some, slice_index, slice_index_or, slice_set}
use Rattle.qpu_word.specs.declared.code.TheConstants.{PROCESSORS}
use Rattle.qpu_word.specs.Processor.{ProcessorState, opening_processor}
use Rattle.qpu_dma.specs.declared.direction.Direction.TheVariants.{Load as LoadOf, Store as StoreOf}
use Rattle.qpu_shared.specs.SharedState.{SharedState, opening_shared}
use Rattle.qpu_shared.specs.Instruction.{Outcome, NoStep, Awaits, Faults, Done, instruction}
use Rattle.qpu_shared.specs.Moves.{row_moved, fetch_moved}
use Rattle.qpu_word.specs.Instruction.{halted}
use Rattle.qpu_machine.specs.declared.actor.Actor.{Actor}
use Rattle.qpu_machine.specs.declared.actor.Actor.TheVariants.{Exec, Load, Store, Fetch}
use Rattle.qpu_machine.specs.declared.start.Start.{Start}

-- the limit of instructions of a processor; the words of each program; for each of the twelve
-- processors the index of the program that it was started with, and the processor; and what they share
pub record MachineState : Type 0 where
  pub limit : ℕ
  pub programs : List (List ℕ)
  pub program_of : List ℕ
  pub processors : List (Option ProcessorState)
  pub shared : SharedState

-- a processor of the machine, none where it wasn't started
abbrev pub processor_of : MachineState → ℕ → Option ProcessorState
processor_of m q = slice_index_or m.processors q None

-- the words that a processor runs
abbrev pub words_of : MachineState → ℕ → List ℕ
words_of m q = slice_index_or m.programs (slice_index m.program_of q) []

-- the machine before any step

-- the machine with one more processor started
abbrev pub with_start : MachineState → Start → MachineState
with_start m start = record m {
  program_of = slice_set m.program_of start.q start.program;
  processors = slice_set m.processors start.q (Some (opening_processor start.q start.uniforms));
}

-- the machine of a memory, a limit, programs and starts, before any step
unfoldable pub machine_of : List ℕ → ℕ → List (List ℕ) → List Start → MachineState
machine_of memory limit programs starts =
    fold with_start
    (record {
      limit = limit;
      programs = programs;
      program_of = replicate PROCESSORS 0;
      processors = replicate PROCESSORS None;
      shared = opening_shared memory;
    })
    starts

-- one step of each actor

-- the machine with a processor and the shared parts replaced
abbrev pub with_both : MachineState → ℕ → ProcessorState → SharedState → MachineState
with_both m q p h = record m { processors = slice_set m.processors q (Some p); shared = h }

-- the machine after what an instruction of a processor comes to
abbrev pub after_outcome : MachineState → ℕ → ProcessorState → Outcome → Option MachineState
after_outcome m q p NoStep = None
after_outcome m q p (Awaits cause) = None
after_outcome m q p (Faults kind) = Some (with_both m q (halted kind p) m.shared)
after_outcome m q p (Done after h) = Some (with_both m q after h)

-- the machine after an instruction of a processor
abbrev pub after_exec : MachineState → ℕ → Option ProcessorState → Option MachineState
after_exec m q None = None
after_exec m q (Some p) = after_outcome m q p (instruction (words_of m q) m.limit p m.shared)

-- the machine with the shared parts after a move, where there is one
abbrev pub with_shared : MachineState → Option SharedState → Option MachineState
with_shared m None = None
with_shared m (Some h) = Some (record m { shared = h })

-- the machine after one step of an actor, none where it has no step
unfoldable pub after_step : MachineState → Actor → Option MachineState
after_step m (Exec q) = after_exec m q (processor_of m q)
after_step m (Load q) = with_shared m (row_moved LoadOf m.shared q)
after_step m (Store q) = with_shared m (row_moved StoreOf m.shared q)
after_step m (Fetch q unit) = with_shared m (fetch_moved m.shared q unit)

-- a machine becomes another by one step of an actor
abbrev pub Step : MachineState → Actor → MachineState → Type 0
Step m actor n = after_step m actor ≡ Some n

-- an actor has a step
abbrev pub is_enabled : MachineState → Actor → Bool
is_enabled m actor = is_some (after_step m actor)
