use Rattle.std.proofs.Common.{arith}
use Rattle.qpu_expr.specs.Pieces.{joined}
use Rattle.qpu_expr.specs.Macros.{replaced}
use Rattle.qpu_expr.proofs.PieceLemmas.{put_more}
use Rattle.qpu_expr.proofs.macros.put_piece.Goals as goal

pub loop-i-preserved : goal.loop-i-preserved
loop-i-preserved c =
    let same = c.len-i-end.ensures in
    let more = c.loop-i-test.true in
    put_more (replaced c.args.text.now c.args.parameters.now c.args.arguments.now) (joined c.args.out.now.items) (joined c.loop-i.out.items) (joined c.put_replaced.new.out.items) c.args.piece.now c.token.result c.loop-i.i (omega (arith, same, more)) (c.token.ensures c.token.result) c.loop-i.invariant c.in_ok-put_replaced.ensures
