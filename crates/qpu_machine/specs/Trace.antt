-- Traces: the words that one processor executed. This project's own.
use Rattle.std.specs.Prelude.{ℕ, ◌==◌, List, [], ◌∷◌, ◌++◌, Option, Some, None, if◌then◌else◌}
use Rattle.qpu_word.specs.Processor.{ProcessorState}
use Rattle.qpu_machine.specs.declared.actor.Actor.{Actor}
use Rattle.qpu_machine.specs.declared.actor.Actor.TheVariants.{Exec, Load, Store, Fetch}
use Rattle.qpu_machine.specs.Machine.{MachineState, after_step, processor_of}

-- the place of a processor's next word
abbrev pub places_of : Option ProcessorState → List ℕ
places_of None = []
places_of (Some p) = p.place ∷ []

-- the place that an actor's step executes for a processor: none but for an instruction of its own
abbrev pub executed_by : MachineState → Actor → ℕ → List ℕ
executed_by m (Exec r) q = if r == q then places_of (processor_of m q) else []
executed_by m (Load r) q = []
executed_by m (Store r) q = []
executed_by m (Fetch r unit) q = []

-- the addresses of the words that a schedule executes for a processor, in order, a faulting one as the last
unfoldable pub trace_of : MachineState → List Actor → ℕ → List ℕ
trace_of m [] q = []
trace_of m (actor ∷ s) q =
    elim (after_step m actor) [ None ↦ [] | Some n ↦ executed_by m actor q ++ trace_of n s q ]
