-- The pieces before the index are appended.
use Rattle.std.proofs.Common.{◌≡◌, take}
use Rattle.qpu_io.specs.Output.{appended}
use Rattle.qpu_io.specs.Text.{pieces_text}
use Rattle.qpu_io.proofs.pieces.put_all.Given as goal

abbrev pub invariant-loop-piece : goal.invariant-loop-piece
invariant-loop-piece g l =
    g.K.Sink.shown l.sink ≡ appended (g.K.Sink.shown l.fn.sink) (pieces_text (take l.piece-index l.pieces))
