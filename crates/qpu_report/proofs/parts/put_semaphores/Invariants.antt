-- The lines before the index are appended.
use Rattle.std.proofs.Common.{◌≡◌, take}
use Rattle.qpu_io.specs.Output.{appended}
use Rattle.qpu_io.specs.Text.{numbered}
use Rattle.qpu_report.specs.Report.{semaphore_line}
use Rattle.qpu_report.proofs.parts.put_semaphores.Given as goal

abbrev pub invariant-loop-n : goal.invariant-loop-n
invariant-loop-n g l =
    g.K.Sink.shown l.sink ≡ appended (g.K.Sink.shown l.fn.sink) (numbered semaphore_line 0 (take l.n l.counts))
