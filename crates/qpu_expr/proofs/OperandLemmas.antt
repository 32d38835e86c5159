-- Suffixes at the front of tokens.
use Rattle.std.proofs.Common.{◌≡◌, ℕ, ◌<◌, List, [], ◌∷◌, length, refl, arith}
use Rattle.qpu_token.specs.declared.token.Token.{Token}
use Rattle.qpu_expr.specs.Operands.{suffixes}

-- a suffix has two tokens
pub no_suffix : (text : List ℕ) (tokens : List Token) → length tokens < 2 → suffixes text tokens ≡ 0
no_suffix text [] short = refl
no_suffix text (a ∷ []) short = refl
no_suffix text (a ∷ b ∷ rest) short = absurd (omega arith)
