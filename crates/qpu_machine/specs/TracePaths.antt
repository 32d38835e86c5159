-- Traces that are paths of their programs and break no rule. This project's own.
use Rattle.std.specs.Prelude.{◌≡◌, ℕ, List, [], ◌++◌, reverse, Some}
use Rattle.qpu_word.specs.declared.state.Halt.TheVariants.{Going}
use Rattle.qpu_word.specs.Processor.{ProcessorState}
use Rattle.qpu_hazard.specs.Paths.{IsPath, broken}
use Rattle.qpu_hazard.specs.Standing.{ProcessorStands}
use Rattle.qpu_machine.specs.declared.actor.Actor.{Actor}
use Rattle.qpu_machine.specs.Machine.{MachineState, processor_of, words_of}
use Rattle.qpu_machine.specs.Trace.{trace_of}

-- a processor of a machine was started and comes from a path of its program, the latest word first:
-- where it goes on, it stands there
pub record ComesFrom (m : MachineState) (q : ℕ) (path : List ℕ) : Type 0 where
  pub p : ProcessorState
  pub there : processor_of m q ≡ Some p
  pub is_path : IsPath (words_of m q) path
  pub stands : p.halt ≡ Going → ProcessorStands (words_of m q) path p.place p.rest

-- words are a path that breaks no rule, not even at its last word
pub record IsCleanPath (code path : List ℕ) : Type 0 where
  pub is_path : IsPath code path
  pub breaks_none : broken code path ≡ []

-- the words that a schedule executes for a processor go on each path that it comes from
abbrev pub GoesOnPaths : MachineState → List Actor → Type 0
GoesOnPaths m s = (q : ℕ) (path : List ℕ) → ComesFrom m q path → IsCleanPath (words_of m q) (reverse (trace_of m s q) ++ path)

-- the trace that a schedule leaves of each processor that was started is such a path, the latest word first
abbrev pub TracesAreClean : MachineState → List Actor → Type 0
TracesAreClean m s = (q : ℕ) (p : ProcessorState) → processor_of m q ≡ Some p → IsCleanPath (words_of m q) (reverse (trace_of m s q))
