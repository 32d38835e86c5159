use Rattle.std.proofs.Common.{◌≡◌, take}
use Rattle.std.specs.Prelude.{fold}
use Rattle.qpu_expr.specs.Macros.{no_argument, argued}
use Rattle.qpu_expr.proofs.macros.arguments_read.Given as goal

abbrev pub invariant-loop-token : goal.invariant-loop-token
invariant-loop-token l = l.list ≡ fold (argued l.text) no_argument (take l.token-index l.tokens)
