-- The signs among a line's tokens, and how many of its tokens at the front are an expression. This project's
-- own.
use Rattle.std.specs.Prelude.{ℕ, ◌||◌, Bool, true, false, List, [], ◌∷◌, map, Option}
use Rattle.qpu_line.specs.declared.symbol.Symbol.{Symbol}
use Rattle.qpu_line.specs.declared.symbol.Symbol.TheVariants as symbol
use Rattle.qpu_asm.specs.declared.placed.Placed.{Placed}
use Rattle.qpu_asm.specs.Expressions.{expression_length}

abbrev pub is_comma : Symbol → Bool
is_comma symbol.Comma = true
is_comma _ = false

abbrev pub is_dot : Symbol → Bool
is_dot symbol.Dot = true
is_dot _ = false

abbrev pub is_minus : Symbol → Bool
is_minus symbol.Minus = true
is_minus _ = false

abbrev pub is_semicolon : Symbol → Bool
is_semicolon symbol.Semicolon = true
is_semicolon _ = false

abbrev pub is_colon : Symbol → Bool
is_colon symbol.Colon = true
is_colon _ = false

-- a target ends at the end of its part, at a comma or at a suffix
abbrev pub stops : List Placed → Bool
stops [] = true
stops (x ∷ rest) = is_comma x.symbol || is_dot x.symbol

-- whether a suffix stands at the front
abbrev pub has_dot : List Placed → Bool
has_dot [] = false
has_dot (x ∷ rest) = is_dot x.symbol

-- how many tokens are an expression
abbrev pub length_of : List Placed → Option ℕ
length_of xs = expression_length (map (λ x. x.symbol) xs)
