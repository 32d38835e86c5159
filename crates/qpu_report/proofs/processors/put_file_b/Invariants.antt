-- The rows before the index are appended; once one was read, their number is known.
use Rattle.std.proofs.Common.{◌≡◌, ◌<◌, take, length}
use Rattle.std.specs.Prelude.{codes}
use Rattle.qpu_io.specs.Output.{appended}
use Rattle.qpu_io.specs.Text.{numbered}
use Rattle.qpu_report.specs.Report.{row_line}
use Rattle.qpu_report.proofs.processors.put_file_b.Given as goal

abbrev pub invariant-loop-k : goal.invariant-loop-k
invariant-loop-k g l = record {
  written : g.K.Sink.shown l.sink
      ≡ appended (g.K.Sink.shown l.fn.sink) (numbered (row_line (codes "rb")) 0 (take l.k l.p.file_b));
  known : 0 < l.k → length l.p.file_b ≡ 32;
}
