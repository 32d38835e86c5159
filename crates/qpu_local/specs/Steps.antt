-- What the call of a local step did, against what the instruction makes of the processor.
use Rattle.std.specs.Prelude.{◌≡◌, Option, Some, None, Result, Ok, Err}
use Rattle.qpu_word.specs.declared.fault.FaultKind.{FaultKind}
use Rattle.qpu_word.specs.Processor.{ProcessorState}
use Rattle.qpu_word.specs.Instruction.{halted}

-- the whole instruction was done, or it faulted: then the halt alone changes
abbrev pub Steps : Option FaultKind → Result ProcessorState FaultKind → ProcessorState → ProcessorState → Type 0
Steps None due old new = due ≡ Ok new
Steps (Some kind) due old new = (due ≡ Err kind) × (new ≡ halted kind old)
