-- The lanes before the index are appended.
use Rattle.std.proofs.Common.{◌≡◌, take}
use Rattle.qpu_io.specs.Output.{appended}
use Rattle.qpu_io.specs.Text.{lanes_text}
use Rattle.qpu_io.proofs.pieces.put_lanes.Given as goal

abbrev pub invariant-loop-lane : goal.invariant-loop-lane
invariant-loop-lane g l =
    g.K.Sink.shown l.sink ≡ appended (g.K.Sink.shown l.fn.sink) (lanes_text (take l.lane-index l.lanes))
