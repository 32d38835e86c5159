-- The parts of what the lines of a text have led to. This project's own.
use Rattle.std.specs.Prelude.{ℕ, List}
use Rattle.qpu_token.specs.declared.token.Token.{Token}
use Rattle.qpu_expr.specs.declared.expanded.LabelAt.{LabelAt}
use Rattle.qpu_expr.specs.MacroTokens.{MacroTokens}

-- lines that are left, labels, sets and macros by their names, each in order, and how many lines and tokens are
-- reached and words given
pub record Stage : Type 0 where
  pub lines : List (List Token)
  pub labels : List (List ℕ × LabelAt)
  pub sets : List (List ℕ × ℕ)
  pub macros : List (List ℕ × MacroTokens)
  pub reached : ℕ
  pub tokens : ℕ
  pub words : ℕ
