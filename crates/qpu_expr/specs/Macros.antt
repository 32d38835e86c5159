-- Macros: their heading, the arguments of a call, and what replaces the parameters. This project's own.
use Rattle.std.specs.Prelude.{ℕ, Bool, true, false, List, [], ◌∷◌, ◌++◌, fold, map, slice_get, Option, Some, None, option_and_then, position, if◌then◌else◌}
use Rattle.std.specs.List.{list_any, flat_map}
use Rattle.std.specs.Option.{option_or}
use Rattle.qpu_token.specs.declared.token.Token.{Token}
use Rattle.qpu_token.specs.Tokens.{text_of}
use Rattle.qpu_expr.specs.declared.place.Place.{Place}
use Rattle.qpu_expr.specs.declared.symbol.Sign.TheVariants as sign
use Rattle.qpu_expr.specs.declared.symbol.Symbol.{Symbol}
use Rattle.qpu_expr.specs.declared.symbol.Symbol.TheVariants as symbol
use Rattle.qpu_expr.specs.Symbols.{symbol_of, is_named, place_of}
use Rattle.qpu_expr.specs.Tables.{found}
use Rattle.qpu_expr.specs.Operands.{is_name}
use Rattle.qpu_expr.specs.LineTokens.{LineTokens}
use Rattle.qpu_expr.specs.MacroTokens.{MacroTokens}

abbrev pub commas : Symbol → Bool
commas (symbol.Sign sign.Comma) = true
commas _ = false

abbrev pub is_comma : List ℕ → Token → Bool
is_comma text token = commas (symbol_of text token)

-- headings

-- names that signs `,` separate: those so far, whether one is due, and the place of what isn't due
pub record Names : Type 0 where
  pub names : List Token
  pub due : Bool
  pub fault : Option Place

abbrev pub no_name : Names
no_name = record { names = []; due = true; fault = None }

abbrev pub named_on : List ℕ → Names → Token → Names
named_on text n token = by_fault n.fault
  where
    by_fault : Option Place → Names
    by_fault (Some place) = n
    by_fault None =
        if n.due
        then (if is_name text token then record { names = n.names ++ token ∷ []; due = false; fault = None } else record n { fault = Some (place_of token) })
        else (if is_comma text token then record n { due = true } else record n { fault = Some (place_of token) })

unfoldable pub names_of : List ℕ → List Token → Names
names_of text tokens = fold (named_on text) no_name tokens

-- the place of the first token that isn't due, or of the line's end
abbrev pub heading_fault : Token → Names → Option Place
heading_fault end n = option_or n.fault (if n.due then Some (place_of end) else None)

-- the first parameter that has the name of one before it
abbrev pub repeated_in : List ℕ → List Token → List Token → Option Place
repeated_in text before [] = None
repeated_in text before (p ∷ rest) =
    if list_any (is_named text (text_of text p)) before then Some (place_of p)
    else repeated_in text (before ++ p ∷ []) rest

-- calls

-- macros by their names
abbrev pub Macros : Type 0
Macros = List (List ℕ × MacroTokens)

-- the macro that a line calls
abbrev pub called : List ℕ → Macros → List Token → Option MacroTokens
called text macros [] = None
called text macros (first ∷ rest) = if is_name text first then found (text_of text first) macros else None

-- arguments that signs `,` separate: those before the last sign, the tokens since, and the place of a
-- sign before which there are none
pub record Arguments : Type 0 where
  pub before : List (List Token)
  pub last : List Token
  pub fault : Option Place

abbrev pub no_argument : Arguments
no_argument = record { before = []; last = []; fault = None }

abbrev pub empty_place : Token → List Token → Option Place
empty_place token [] = Some (place_of token)
empty_place token (first ∷ rest) = None

abbrev pub argued : List ℕ → Arguments → Token → Arguments
argued text a token =
    if is_comma text token
    then record { before = a.before ++ a.last ∷ []; last = []; fault = option_or a.fault (empty_place token a.last) }
    else record { before = a.before; last = a.last ++ token ∷ []; fault = a.fault }

abbrev pub arguments_read : List ℕ → List Token → Arguments
arguments_read text tokens = fold (argued text) no_argument tokens

-- the arguments of a call; without a token behind the macro's name there is none
unfoldable pub arguments_of : List ℕ → List Token → List (List Token)
arguments_of text [] = []
arguments_of text (token ∷ rest) = (arguments_read text (token ∷ rest)).before ++ (arguments_read text (token ∷ rest)).last ∷ []

-- the place of the sign or the line's end before which an argument is missing
unfoldable pub argument_fault : List ℕ → Token → List Token → Option Place
argument_fault text end [] = None
argument_fault text end (token ∷ rest) = option_or (arguments_read text (token ∷ rest)).fault (empty_place end (arguments_read text (token ∷ rest)).last)

-- replacing

-- the argument of a parameter's name
abbrev pub argument_for : List ℕ → List Token → List (List Token) → List ℕ → Option (List Token)
argument_for text parameters arguments name = option_and_then (λ i. slice_get arguments i) (position (is_named text name) parameters)

-- a token at the place of another
abbrev pub placed_at : Token → Token → Token
placed_at at token = record token { line = at.line; column = at.column }

-- a name that is a parameter's is replaced by the argument's tokens, which take its place
abbrev pub replaced : List ℕ → List Token → List (List Token) → Token → List Token
replaced text parameters arguments token =
    if is_name text token then by_argument (argument_for text parameters arguments (text_of text token)) else token ∷ []
  where
    by_argument : Option (List Token) → List Token
    by_argument None = token ∷ []
    by_argument (Some argument) = map (placed_at token) argument

abbrev pub line_replaced : List ℕ → List Token → List (List Token) → LineTokens → LineTokens
line_replaced text parameters arguments line = record {
  tokens = flat_map (replaced text parameters arguments) line.tokens;
  end = line.end;
}

-- the body of a macro with all its parameters replaced
unfoldable pub body_replaced : List ℕ → List Token → List (List Token) → List LineTokens → List LineTokens
body_replaced text parameters arguments body = map (line_replaced text parameters arguments) body
