-- What the pieces of a line show: a token, or an argument in a token's place. This project's own.
use Rattle.std.specs.Prelude.{List, [], ◌∷◌, map, Option, Some, None}
use Rattle.std.specs.List.{flat_map}
use Rattle.qpu_token.specs.declared.token.Token.{Token}
use Rattle.qpu_expr.specs.Macros.{placed_at}

abbrev pub shown : Token → Option (List Token) → List Token
shown token None = token ∷ []
shown token (Some argument) = map (placed_at token) argument

-- the tokens of pieces, one behind another
abbrev pub joined : List (List Token) → List Token
joined pieces = flat_map (λ piece. piece) pieces
