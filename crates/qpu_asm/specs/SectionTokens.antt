-- A section of a line as its tokens. This project's own.
use Rattle.std.specs.Prelude.{List}
use Rattle.qpu_token.specs.declared.token.Token.{Token}
use Rattle.qpu_asm.specs.declared.placed.Placed.{Placed}

-- the tokens before its end, and its end: a `;` or the line's end
pub record SectionTokens : Type 0 where
  pub tokens : List Placed
  pub end : Token
