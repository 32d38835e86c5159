-- That one line more passes no limit. This project's own.
use Rattle.std.specs.Prelude.{◌-◌, ◌≤◌, ◌<◌, length}
use Rattle.qpu_expr.specs.declared.limits.TheConstants.{MOST_LINES, MOST_TOKENS}
use Rattle.qpu_expr.specs.LineTokens.{LineTokens}
use Rattle.qpu_expr.specs.StageParts.{Stage}

pub record HasTokenRoom (s : Stage) (line : LineTokens) : Type 0 where
  pub lines : s.reached < MOST_LINES
  pub tokens : length line.tokens ≤ MOST_TOKENS - s.tokens
