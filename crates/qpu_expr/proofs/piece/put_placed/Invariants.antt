use Rattle.std.proofs.Common.{◌≡◌, ◌++◌, take, map}
use Rattle.qpu_expr.specs.Macros.{placed_at}
use Rattle.qpu_expr.proofs.piece.put_placed.Given as goal

abbrev pub invariant-loop-token : goal.invariant-loop-token
invariant-loop-token l = l.out.items ≡ l.fn.out.items ++ map (placed_at l.at) (take l.token-index l.tokens)
