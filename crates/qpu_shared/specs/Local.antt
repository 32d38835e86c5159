-- What a word that touches its processor alone comes to. This project's own.
use Rattle.std.specs.Prelude.{Result, Ok, Err}
use Rattle.qpu_word.specs.declared.fault.FaultKind.{FaultKind}
use Rattle.qpu_word.specs.declared.fault.FaultKind.TheVariants.{SetupsFull, Setup, Branch}
use Rattle.qpu_word.specs.Processor.{ProcessorState}
use Rattle.qpu_shared.specs.SharedState.{SharedState}
use Rattle.qpu_shared.specs.Instruction.{Outcome, Faults, Done}

-- the outcome of what a local word makes of its processor; the shared parts stay as they were
abbrev pub local_outcome : Result ProcessorState FaultKind → SharedState → Outcome
local_outcome (Ok p) h = Done p h
local_outcome (Err kind) h = Faults kind

-- the faults that a local word can have: a setup that is refused, a third read setup, and a register
-- branch to a place that is no link point
abbrev pub IsLocalFault : FaultKind → Type 0
IsLocalFault (Setup why) = Unit {0}
IsLocalFault SetupsFull = Unit {0}
IsLocalFault Branch = Unit {0}
IsLocalFault _ = ⊥
