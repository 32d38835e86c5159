use Rattle.std.proofs.Common.{◌≡◌, take}
use Rattle.std.specs.Prelude.{fold}
use Rattle.qpu_expr.specs.Macros.{no_name, named_on}
use Rattle.qpu_expr.proofs.macros.names_of.Given as goal

abbrev pub invariant-loop-token : goal.invariant-loop-token
invariant-loop-token l = l.names ≡ fold (named_on l.text) no_name (take l.token-index l.tokens)
