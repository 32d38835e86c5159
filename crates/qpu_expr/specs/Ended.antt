-- Lines with their ends. This project's own.
use Rattle.std.specs.Prelude.{◌≡◌, List, [], ◌∷◌, ◌++◌}
use Rattle.qpu_token.specs.declared.token.Token.{Token}
use Rattle.qpu_token.specs.declared.token.TokenKind.TheVariants as kind

-- a line's last token is a line end
pub record IsEnded (line : List Token) : Type 0 where
  pub tokens : List Token
  pub end : Token
  pub same : line ≡ tokens ++ end ∷ []
  pub ends : end.kind ≡ kind.LineEnd
