use Rattle.std.proofs.Common.{◌≡◌, ◌+◌, ◌≤◌, drop}
use Rattle.std.specs.Prelude.{map, option_map}
use Rattle.qpu_asm.specs.Expressions.{length_from, expression_length}
use Rattle.qpu_asm.proofs.expression.expression_length.Given as goal

abbrev pub invariant-loop-i : goal.invariant-loop-i
invariant-loop-i l = record {
  few : l.depth ≤ l.i;
  same : option_map (λ n. n + l.i) (length_from l.due l.depth (map (λ x. x.symbol) (drop l.i l.xs))) ≡ expression_length (map (λ x. x.symbol) l.xs);
}
