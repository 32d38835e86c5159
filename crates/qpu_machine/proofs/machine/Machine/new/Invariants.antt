use Rattle.std.proofs.Common.{◌≡◌, ◌<◌, ℕ, [], length}
use Rattle.std.specs.Prelude.{slice_index_or}
use Rattle.std.proofs.Math.ListN.{take}
use Rattle.std.specs.Arc.{arc_value}
use Rattle.qpu_hazard.specs.Paths.{IsClean}
use Rattle.qpu_machine.specs.declared.start.Start.{Start}
use Rattle.qpu_machine.specs.Machine.{machine_of}
use Rattle.qpu_machine.proofs.machine.Machine.new.Given as goal

abbrev pub invariant-loop-i : goal.invariant-loop-i
invariant-loop-i l = record {
  state : l.machine.state ≡ machine_of l.fn.memory l.fn.limit (arc_value l.fn.programs).list.items (take l.i l.fn.starts.items);
  starts : l.machine.starts ≡ take l.i l.fn.starts.items;
  count : l.i-end ≡ length l.fn.starts.items;
  clean : (k : ℕ) (d : Start) → k < l.i → IsClean (slice_index_or (arc_value l.fn.programs).list.items (slice_index_or l.fn.starts.items k d).program []);
}
