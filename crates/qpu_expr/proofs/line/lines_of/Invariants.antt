use Rattle.std.proofs.Common.{◌≡◌, take}
use Rattle.std.specs.Prelude.{fold}
use Rattle.qpu_expr.specs.Lines.{no_line, lined}
use Rattle.qpu_expr.proofs.line.lines_of.Given as goal

abbrev pub invariant-loop-token : goal.invariant-loop-token
invariant-loop-token l = l.liner ≡ fold (lined l.text) no_line (take l.token-index l.tokens)
