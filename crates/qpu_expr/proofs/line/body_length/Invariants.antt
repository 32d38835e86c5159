use Rattle.std.proofs.Common.{◌≡◌, ◌+◌, ◌≤◌, drop}
use Rattle.std.specs.Prelude.{option_map}
use Rattle.qpu_expr.specs.Lines.{body_length}
use Rattle.qpu_expr.proofs.line.body_length.Given as goal

abbrev pub invariant-loop-i : goal.invariant-loop-i
invariant-loop-i l = record {
  few : l.depth ≤ l.i;
  same : option_map (λ n. n + l.i) (body_length l.pair l.text l.depth (drop l.i l.lines)) ≡ body_length l.pair l.text 0 l.lines;
}
