use Rattle.std.proofs.Common.{◌≡◌, take}
use Rattle.qpu_expr.proofs.piece.share_all.Given as goal

abbrev pub invariant-loop-piece : goal.invariant-loop-piece
invariant-loop-piece l = l.same.items ≡ take l.piece-index l.pieces
