use Rattle.std.proofs.Common.{◌≡◌, ◌++◌, take}
use Rattle.std.specs.List.{flat_map}
use Rattle.qpu_expr.specs.Pieces.{joined}
use Rattle.qpu_expr.specs.Macros.{replaced}
use Rattle.qpu_expr.proofs.macros.put_piece.Given as goal

abbrev pub invariant-loop-i : goal.invariant-loop-i
invariant-loop-i l = joined l.out.items ≡ joined l.fn.out.items ++ flat_map (replaced l.text l.parameters l.arguments) (take l.i l.piece)
