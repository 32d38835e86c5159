-- How directives and calls are spelled, as rules. This project's own.
use Rattle.std.specs.Prelude.{◌≡◌, ℕ, ◌<◌, ◌&&◌, Bool, true, false, List, [], ◌∷◌, ◌++◌, length, map, Ok}
use Rattle.std.specs.List.{list_any}
use Rattle.qpu_token.specs.declared.token.Token.{Token}
use Rattle.qpu_expr.specs.Operands.{is_name}
use Rattle.qpu_expr.specs.Settings.{Sets, item_of, is_unknown, expression, is_whole}
use Rattle.qpu_expr.specs.Trees.{IsTreeOf}
use Rattle.qpu_expr.specs.Macros.{is_comma}

-- tokens are what a tree of the grammar writes, with a value, and all its names are set
pub record IsWorth (text : List ℕ) (sets : Sets) (tokens : List Token) (value : ℕ) : Type 0 where
  pub tree : IsTreeOf (map (item_of text sets) tokens) (Ok value)
  pub known : list_any (is_unknown text sets) tokens ≡ false

-- whether tokens are `NAME, EXPR`, whatever the expression is worth
abbrev pub is_setting : List ℕ → Sets → List Token → Bool
is_setting text sets [] = false
is_setting text sets (name ∷ []) = false
is_setting text sets (name ∷ comma ∷ value) = is_name text name && is_comma text comma && is_whole (expression text sets value).outcome

-- `NAME, EXPR`
pub data Setting (text : List ℕ) (sets : Sets) : List Token → Token → ℕ → Type 0 where
  setting : {name comma : Token} {expr : List Token} {value : ℕ} → is_name text name ≡ true → is_comma text comma ≡ true → IsWorth text sets expr value → Setting text sets (name ∷ comma ∷ expr) name value

-- names with a `,` between
pub data Names (text : List ℕ) : List Token → List Token → Type 0 where
  last : {name : Token} → is_name text name ≡ true → Names text (name ∷ []) (name ∷ [])
  more : {name comma : Token} {tokens names : List Token} → is_name text name ≡ true → is_comma text comma ≡ true → Names text tokens names → Names text (name ∷ comma ∷ tokens) (name ∷ names)

-- tokens of one argument
pub record IsArgument (text : List ℕ) (argument : List Token) : Type 0 where
  pub some : 0 < length argument
  pub whole : list_any (is_comma text) argument ≡ false

-- arguments with a `,` between
pub data Arguments (text : List ℕ) : List Token → List (List Token) → Type 0 where
  last : {argument : List Token} → IsArgument text argument → Arguments text argument (argument ∷ [])
  more : {argument tokens : List Token} {arguments : List (List Token)} (comma : Token) → IsArgument text argument → is_comma text comma ≡ true → Arguments text tokens arguments → Arguments text (argument ++ comma ∷ tokens) (argument ∷ arguments)

-- the arguments of a call: none, or some with a `,` between
pub data Given (text : List ℕ) : List Token → List (List Token) → Type 0 where
  nothing_given : Given text [] []
  listed : {tokens : List Token} {arguments : List (List Token)} → Arguments text tokens arguments → Given text tokens arguments
