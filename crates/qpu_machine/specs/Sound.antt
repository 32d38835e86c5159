-- What a machine keeps in its type. This project's own.
use Rattle.std.specs.Prelude.{◌≡◌, ◌<◌, ◌≤◌, ◌==◌, ℕ, List, length, Option, Some, None, IfSome, is_some, find, slice_index}
use Rattle.qpu_word.specs.declared.code.TheConstants.{PROCESSORS, LIMIT_MOST}
use Rattle.qpu_word.specs.Processor.{ProcessorState}
use Rattle.qpu_shared.specs.Instruction.{pending_of}
use Rattle.qpu_hazard.specs.Paths.{IsClean}
use Rattle.qpu_machine.specs.declared.start.Start.{Start}
use Rattle.qpu_machine.specs.Machine.{MachineState, processor_of, words_of}
use Rattle.qpu_machine.specs.Kept.{IsKept, HasFewLooks, HasFewRows}

-- a processor that was started has its number, and a program of the list, no path of which breaks
-- a rule; it has executed no more than the limit; and where it goes on it stands on a path of its
-- program
pub record IsStarted (m : MachineState) (q : ℕ) (p : ProcessorState) : Type 0 where
  pub number : p.q ≡ q
  pub program : slice_index m.program_of q < length m.programs
  pub clean : IsClean (words_of m q)
  pub executed : p.executed ≤ m.limit
  pub kept : IsKept (words_of m q) p (pending_of m.shared q).looks

abbrev pub IsStartedAt : MachineState → ℕ → Option ProcessorState → Type 0
IsStartedAt m q None = Unit {0}
IsStartedAt m q (Some p) = IsStarted m q p

-- the limit is one of the machine's, there is room for each processor and for what it has pending,
-- no processor has too many look-ups or rows outstanding, and each is as it should be
pub record IsSoundMachine (m : MachineState) : Type 0 where
  pub limit : m.limit ≤ LIMIT_MOST
  pub pending : length m.shared.pending ≡ PROCESSORS
  pub looks : (q : ℕ) → HasFewLooks (pending_of m.shared q).looks
  pub rows : (q : ℕ) → HasFewRows (pending_of m.shared q)
  pub processors : length m.processors ≡ PROCESSORS
  pub each : (q : ℕ) → q < PROCESSORS → IsStartedAt m q (processor_of m q)

-- the start of a processor, the first where there are more
abbrev pub start_in : List Start → ℕ → Option Start
start_in starts q = find (λ start. start.q == q) starts

-- a processor is there exactly where it has a start, which names its program
pub record HasStarts (starts : List Start) (m : MachineState) : Type 0 where
  pub there : (q : ℕ) → is_some (start_in starts q) ≡ is_some (processor_of m q)
  pub program : (q : ℕ) → IfSome (start_in starts q) (λ start. slice_index m.program_of q ≡ start.program)

-- both
pub record IsWhole (starts : List Start) (m : MachineState) : Type 0 where
  pub sound : IsSoundMachine m
  pub started : HasStarts starts m
