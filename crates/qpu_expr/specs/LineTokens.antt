-- A line as its tokens. This project's own.
use Rattle.std.specs.Prelude.{List}
use Rattle.qpu_token.specs.declared.token.Token.{Token}

-- the tokens before its end, and its end, with the place that a fault there has
pub record LineTokens : Type 0 where
  pub tokens : List Token
  pub end : Token
