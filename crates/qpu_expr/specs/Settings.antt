-- Names that are set, and expressions over them. This project's own.
use Rattle.std.specs.Prelude.{ℕ, ◌%◌, ◌^◌, Bool, false, not, true, List, map, Option, Some, None, Ok, Err, is_some, unwrap_or}
use Rattle.std.specs.List.{list_any}
use Rattle.qpu_token.specs.declared.token.Token.{Token}
use Rattle.qpu_token.specs.Tokens.{text_of}
use Rattle.qpu_expr.specs.declared.symbol.Sign.TheVariants as sign
use Rattle.qpu_expr.specs.declared.symbol.Symbol.{Symbol}
use Rattle.qpu_expr.specs.declared.symbol.Symbol.TheVariants as symbol
use Rattle.qpu_expr.specs.declared.expression.What.{What}
use Rattle.qpu_expr.specs.declared.expression.What.TheVariants as what
use Rattle.qpu_expr.specs.declared.expression.Item.{Item}
use Rattle.qpu_expr.specs.declared.expression.Parsed.{Parsed}
use Rattle.qpu_expr.specs.declared.expression.Parsed.TheVariants.{Whole, Cut, Extra}
use Rattle.qpu_expr.specs.declared.place.Place.{Place}
use Rattle.qpu_expr.specs.declared.setting.Expression.{Expression}
use Rattle.qpu_expr.specs.Symbols.{symbol_of, place_of}
use Rattle.qpu_expr.specs.Expressions.{parsed_of}
use Rattle.qpu_expr.specs.Tables.{found}

-- the names that are set, with their numbers
abbrev pub Sets : Type 0
Sets = List (List ℕ × ℕ)

-- what a token is in an expression. A name that isn't set counts as 0; its expression isn't accepted
abbrev pub what_is : List ℕ → Sets → Token → Symbol → What
what_is text sets token symbol.Name = what.Value (unwrap_or (found (text_of text token) sets) 0)
what_is text sets token (symbol.Number value) = what.Value (value % 2 ^ 32)
what_is text sets token (symbol.Sign sign.Open) = what.Open
what_is text sets token (symbol.Sign sign.Close) = what.Close
what_is text sets token (symbol.Sign sign.Invert) = what.Invert
what_is text sets token (symbol.Sign (sign.Binary operator)) = what.Binary operator
what_is text sets token _ = what.Other

unfoldable pub item_of : List ℕ → Sets → Token → Item
item_of text sets token = record { what = what_is text sets token (symbol_of text token); place = place_of token }

-- a name that isn't set
unfoldable pub is_unknown : List ℕ → Sets → Token → Bool
is_unknown text sets token = by_symbol (symbol_of text token)
  where
    by_symbol : Symbol → Bool
    by_symbol symbol.Name = not (is_some (found (text_of text token) sets))
    by_symbol _ = false

-- tokens as an expression
unfoldable pub expression : List ℕ → Sets → List Token → Expression
expression text sets tokens = record {
  outcome = parsed_of (map (item_of text sets) tokens);
  unknown = list_any (is_unknown text sets) tokens;
}

-- what an expression has, where it is whole

abbrev pub is_whole : Parsed → Bool
is_whole (Whole worth) = true
is_whole Cut = false
is_whole (Extra place) = false

abbrev pub value_in : Parsed → ℕ
value_in (Whole (Ok value)) = value
value_in (Whole (Err place)) = 0
value_in Cut = 0
value_in (Extra place) = 0

abbrev pub zero_in : Parsed → Option Place
zero_in (Whole (Ok value)) = None
zero_in (Whole (Err place)) = Some place
zero_in Cut = None
zero_in (Extra place) = None
