-- A macro as its tokens. This project's own.
use Rattle.std.specs.Prelude.{List}
use Rattle.qpu_token.specs.declared.token.Token.{Token}
use Rattle.qpu_expr.specs.LineTokens.{LineTokens}

-- its name, its parameters, and the lines of its body
pub record MacroTokens : Type 0 where
  pub name : Token
  pub parameters : List Token
  pub body : List LineTokens
