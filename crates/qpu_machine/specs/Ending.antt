-- Final machines, in which nothing can move, and how they have come out. This project's own.
use Rattle.std.specs.Prelude.{◌≡◌, ℕ, ◌&&◌, Bool, true, false, not, nat_lt, Option, Some, None, if◌then◌else◌}
use Rattle.std.specs.List.{list_any}
use Rattle.qpu_word.specs.declared.state.Halt.{Halt}
use Rattle.qpu_word.specs.declared.state.Halt.TheVariants.{Going, Ended, Faulted}
use Rattle.qpu_word.specs.Processor.{ProcessorState}
use Rattle.qpu_shared.specs.Instruction.{is_going, is_running}
use Rattle.qpu_machine.specs.declared.actor.Actor.{Actor}
use Rattle.qpu_machine.specs.declared.conclusion.Ending.{Ending}
use Rattle.qpu_machine.specs.declared.conclusion.Ending.TheVariants.{Done, Stuck, RanOut, Faulted as SomeFaulted}
use Rattle.qpu_machine.specs.Machine.{MachineState, after_step}

-- no actor has a step
abbrev pub IsFinal : MachineState → Type 0
IsFinal m = (actor : Actor) → after_step m actor ≡ None

-- a processor that faulted
abbrev pub has_faulted : Option ProcessorState → Bool
has_faulted None = false
has_faulted (Some p) = is_fault p.halt
  where
    is_fault : Halt → Bool
    is_fault Going = false
    is_fault Ended = false
    is_fault (Faulted kind place) = true

-- a processor that is running
abbrev pub runs : ℕ → Option ProcessorState → Bool
runs limit None = false
runs limit (Some p) = is_running limit p

-- a processor that ran out: it neither ended nor faulted, and has executed its limit
abbrev pub has_run_out : ℕ → Option ProcessorState → Bool
has_run_out limit None = false
has_run_out limit (Some p) = is_going p.halt && not (nat_lt p.executed limit)

-- how a final machine has come out
unfoldable pub ending_of : MachineState → Ending
ending_of m =
    if list_any has_faulted m.processors then SomeFaulted
    else if list_any (runs m.limit) m.processors then Stuck
    else if list_any (has_run_out m.limit) m.processors then RanOut
    else Done
