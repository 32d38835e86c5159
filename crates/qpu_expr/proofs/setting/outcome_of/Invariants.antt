use Rattle.std.proofs.Common.{◌≡◌, [], take, map}
use Rattle.std.specs.Prelude.{fold}
use Rattle.qpu_expr.specs.declared.expression.Phase.TheVariants.{Due}
use Rattle.qpu_expr.specs.Expressions.{reading, stepped}
use Rattle.qpu_expr.specs.Settings.{item_of}
use Rattle.qpu_expr.proofs.setting.outcome_of.Given as goal

abbrev pub invariant-loop-token : goal.invariant-loop-token
invariant-loop-token l = l.reader ≡ fold stepped (reading [] Due) (map (item_of l.text l.sets) (take l.token-index l.tokens))
