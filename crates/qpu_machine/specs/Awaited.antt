-- What a processor of a machine awaits. This project's own.
use Rattle.std.specs.Prelude.{ℕ, Option, Some, None, slice_index, if◌then◌else◌}
use Rattle.qpu_word.specs.Words.{fields_of}
use Rattle.qpu_word.specs.Processor.{ProcessorState}
use Rattle.qpu_shared.specs.declared.cause.Cause.{Cause}
use Rattle.qpu_shared.specs.Instruction.{is_running, first_cause}
use Rattle.qpu_machine.specs.Machine.{MachineState, processor_of, words_of}

-- the first cause that holds at the next word of a processor, where it is running
abbrev pub cause_at : MachineState → ℕ → Option ProcessorState → Option Cause
cause_at m q None = None
cause_at m q (Some p) =
    if is_running m.limit p then first_cause (fields_of (slice_index (words_of m q) p.place)) q m.shared else None

-- why processor q of a machine awaits: none where it wasn't started, isn't running, or has a step
abbrev pub awaited : MachineState → ℕ → Option Cause
awaited m q = cause_at m q (processor_of m q)
