use Rattle.std.proofs.Common.{◌≡◌, take}
use Rattle.qpu_expr.specs.Pieces.{joined}
use Rattle.qpu_expr.proofs.piece.read_front.Given as goal

abbrev pub invariant-loop-piece : goal.invariant-loop-piece
invariant-loop-piece l = l.tokens.items ≡ take l.most (joined (take l.piece-index l.pieces))
