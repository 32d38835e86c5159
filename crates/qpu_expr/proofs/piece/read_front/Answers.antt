use Rattle.qpu_expr.proofs.PieceLemmas.{front_step}
use Rattle.qpu_expr.proofs.piece.read_front.Goals as goal

pub loop-piece-preserved : goal.loop-piece-preserved
loop-piece-preserved c =
    front_step c.args.most c.args.pieces.now c.loop-piece.piece-index c.piece-item.result c.loop-piece.tokens.items c.put_front.new.out.items c.loop-piece-test.true c.piece-item.is c.loop-piece.invariant c.in_ok-put_front.ensures
