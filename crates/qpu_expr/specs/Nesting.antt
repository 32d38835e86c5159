-- Lines that are nested by one more. This project's own.
use Rattle.std.specs.Prelude.{ℕ, zero, suc, Bool, true, false, List}
use Rattle.qpu_expr.specs.LineTokens.{LineTokens}
use Rattle.qpu_expr.specs.StageParts.{Stage}
use Rattle.qpu_expr.specs.Expansion.{RunResult, nothing_run, run_within}

abbrev pub is_deepest : ℕ → Bool
is_deepest zero = true
is_deepest (suc depth) = false

abbrev pub below : List ℕ → ℕ → List LineTokens → Stage → RunResult
below text zero = nothing_run
below text (suc depth) = run_within text depth
