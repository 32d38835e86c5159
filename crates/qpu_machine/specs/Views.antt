-- What contracts see of a machine: its state, and the starts that it was made of.
use Rattle.std.specs.Prelude.{List}
use Rattle.std.specs.Arc.{arc_value}
use Rattle.qpu_machine.specs.declared.machine.Machine.TheInside.{Inside}
use Rattle.qpu_machine.specs.declared.start.Start.{Start}
use Rattle.qpu_machine.specs.Machine.{MachineState}

-- a machine's state, and the starts of its processors
pub record Started : Type 0 where
  pub state : MachineState
  pub starts : List Start

-- the state of the parts
abbrev pub machine_state : Inside → MachineState
machine_state inside = record {
  limit = inside.limit;
  programs = (arc_value inside.programs).list.items;
  program_of = inside.program_of;
  processors = inside.processors;
  shared = inside.shared;
}

abbrev pub started_of : Inside → Started
started_of inside = record { state = machine_state inside; starts = inside.starts.items }
