use Rattle.std.proofs.Common.{◌≡◌, drop}
use Rattle.std.specs.Prelude.{fold}
use Rattle.qpu_expr.specs.Pieces.{joined}
use Rattle.qpu_expr.specs.Walks.{walked}
use Rattle.qpu_expr.proofs.walk.read_behind.Given as goal

abbrev pub invariant-loop-piece : goal.invariant-loop-piece
invariant-loop-piece l = fold (walked l.text l.sets) l.walk (drop l.left (joined (drop l.piece-index l.pieces))) ≡ fold (walked l.text l.sets) l.fn.walk (drop l.skip (joined l.pieces))
