-- The lines of the rows before the index are appended.
use Rattle.std.proofs.Common.{◌≡◌, take, flat_map}
use Rattle.std.specs.List.{range_with_len}
use Rattle.qpu_io.specs.Output.{appended}
use Rattle.qpu_report.specs.Report.{vpm_line}
use Rattle.qpu_report.proofs.parts.put_vpm.Given as goal

abbrev pub invariant-loop-row : goal.invariant-loop-row
invariant-loop-row g l =
    g.K.Sink.shown l.sink
    ≡ appended (g.K.Sink.shown l.fn.sink) (flat_map (vpm_line l.vpm) (take l.row (range_with_len 0 64)))
