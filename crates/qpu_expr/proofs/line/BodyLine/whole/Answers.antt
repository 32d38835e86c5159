use Rattle.std.proofs.Common.{arith}
use Rattle.std.proofs.lemmas.Bool.Decides.{nat_tests}
use Rattle.qpu_expr.proofs.PieceLemmas.{whole_line, long_line}
use Rattle.qpu_expr.proofs.line.BodyLine.whole.Goals as goal

pub returns : goal.returns
returns c =
    let few = c.if-len-gt-MOST_TOKENS.false in
    let same = c.len.ensures in
    whole_line c.args.self.now c.self.inside.pieces.items c.self.inside.end c.read_front.new.tokens.items 1048577 c.self.view_is c.in_ok-read_front.ensures (grind (arith, nat_tests, few, same))

pub returns-then-len-gt-MOST_TOKENS : goal.returns-then-len-gt-MOST_TOKENS
returns-then-len-gt-MOST_TOKENS c =
    let more = c.if-len-gt-MOST_TOKENS.true in
    let same = c.len.ensures in
    long_line c.read_front.new.tokens.items c.args.self.now.tokens 1048577 1048576 c.in_ok-read_front.ensures (grind (arith, nat_tests, more, same))
