use Rattle.std.proofs.Common.{drop, arith}
use Rattle.std.proofs.lemmas.List.{take_rest}
use Rattle.qpu_expr.proofs.OperandLemmas.{no_suffix}
use Rattle.qpu_expr.proofs.operand.suffixes.Goals as goal

pub returns-clause-value : goal.returns-clause-value
returns-clause-value c =
    let short = rw (take_rest c.args.tokens.now c.loop-at.at) at c.in_default.len_below in
    let none = no_suffix c.args.text.now (drop c.loop-at.at c.args.tokens.now) short in
    omega (arith, none, c.loop-at.invariant.same)
