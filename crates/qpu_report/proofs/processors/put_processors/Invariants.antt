-- The lines of the processors before the number are appended; once one was asked for, how many there are is known.
use Rattle.std.proofs.Common.{◌≡◌, ◌<◌, take, length}
use Rattle.qpu_io.specs.Output.{appended}
use Rattle.qpu_io.specs.Text.{numbered}
use Rattle.qpu_report.specs.Report.{started_text}
use Rattle.qpu_report.proofs.processors.put_processors.Given as goal

abbrev pub invariant-loop-q : goal.invariant-loop-q
invariant-loop-q g l = record {
  written : g.K.Sink.shown l.sink
      ≡ appended (g.K.Sink.shown l.fn.sink) (numbered (started_text l.machine.state) 0 (take l.q l.machine.state.processors));
  known : 0 < l.q → length l.machine.state.processors ≡ 12;
}
