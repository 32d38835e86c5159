-- The runs before the index are appended.
use Rattle.std.proofs.Common.{◌≡◌, take, flat_map}
use Rattle.qpu_io.specs.Output.{appended}
use Rattle.qpu_record.specs.Record.{item_text}
use Rattle.qpu_record.proofs.writing.put_runs.Given as goal

abbrev pub invariant-loop-run : goal.invariant-loop-run
invariant-loop-run g l =
    g.K.Sink.shown l.sink ≡ appended (g.K.Sink.shown l.fn.sink) (flat_map item_text (take l.run-index l.runs))
