use Rattle.std.proofs.Common.{◌≡◌, take}
use Rattle.std.specs.List.{flat_map}
use Rattle.qpu_expr.specs.Pieces.{joined}
use Rattle.qpu_expr.specs.Macros.{replaced}
use Rattle.qpu_expr.proofs.macros.pieces_replaced.Given as goal

abbrev pub invariant-loop-piece : goal.invariant-loop-piece
invariant-loop-piece l = joined l.all.items ≡ flat_map (replaced l.text l.parameters l.arguments) (joined (take l.piece-index l.pieces))
