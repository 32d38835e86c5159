use Rattle.std.proofs.Common.{◌≡◌, drop}
use Rattle.std.specs.Prelude.{fold}
use Rattle.qpu_expr.specs.Walks.{walked}
use Rattle.qpu_expr.proofs.walk.read_piece.Given as goal

abbrev pub invariant-loop-i : goal.invariant-loop-i
invariant-loop-i l = fold (walked l.text l.sets) l.walk (drop l.i l.piece) ≡ fold (walked l.text l.sets) l.fn.walk (drop l.skip l.piece)
