-- The lines of the groups before the index are appended.
use Rattle.std.proofs.Common.{◌≡◌, take, flat_map}
use Rattle.std.specs.List.{range_with_len}
use Rattle.qpu_io.specs.Output.{appended}
use Rattle.qpu_report.specs.Report.{group_line}
use Rattle.qpu_report.proofs.parts.put_memory.Given as goal

abbrev pub invariant-loop-k : goal.invariant-loop-k
invariant-loop-k g l =
    g.K.Sink.shown l.sink
    ≡ appended (g.K.Sink.shown l.fn.sink) (flat_map (group_line l.memory) (take l.k (range_with_len 0 l.groups)))
