use Rattle.std.proofs.Common.{drop, arith}
use Rattle.std.specs.Prelude.{fold}
use Rattle.qpu_expr.specs.Walks.{walked}
use Rattle.qpu_expr.proofs.WalkLemmas.{rest_step}
use Rattle.qpu_expr.proofs.walk.read_piece.Goals as goal

pub loop-i-preserved : goal.loop-i-preserved
loop-i-preserved c =
    let same = c.len-i-end.ensures in
    let more = c.loop-i-test.true in
    rest_step (walked c.args.text.now c.args.sets.now) c.loop-i.walk c.read.new.self c.args.piece.now c.loop-i.i c.token.result (fold (walked c.args.text.now c.args.sets.now) c.args.walk.now (drop c.args.skip c.args.piece.now)) (omega (arith, same, more)) (c.token.ensures c.token.result) c.in_ok-read.ensures c.loop-i.invariant
