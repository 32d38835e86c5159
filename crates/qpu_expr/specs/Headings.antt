-- The heading of a macro, read up to the first parameter that is there twice. This project's own.
use Rattle.std.specs.Prelude.{ℕ, ◌&&◌, not, List, [], ◌∷◌, drop, Option, Some, None, is_some, if◌then◌else◌}
use Rattle.std.specs.List.{list_any}
use Rattle.std.specs.Option.{option_or}
use Rattle.qpu_token.specs.declared.token.Token.{Token}
use Rattle.qpu_token.specs.Tokens.{text_of}
use Rattle.qpu_expr.specs.declared.place.Place.{Place}
use Rattle.qpu_expr.specs.Symbols.{is_named, place_of}
use Rattle.qpu_expr.specs.Operands.{is_name}
use Rattle.qpu_expr.specs.Tables.{found}
use Rattle.qpu_expr.specs.Macros.{Names, no_name, named_on, Macros}
use Rattle.qpu_expr.specs.Findings.{place_when}

-- the names up to the first parameter that is there twice, and its place
pub record Heading : Type 0 where
  pub names : Names
  pub twice : Option Place

abbrev pub no_heading : Heading
no_heading = record { names = no_name; twice = None }

-- the place of a parameter that is there already
abbrev pub name_twice : List ℕ → Names → Token → Option Place
name_twice text n token =
    if n.due && not (is_some n.fault) && is_name text token
    then place_when (list_any (is_named text (text_of text token)) (drop 1 n.names)) (place_of token)
    else None

abbrev pub headed : List ℕ → Heading → Token → Heading
headed text h token = by_twice h.twice
  where
    by_twice : Option Place → Heading
    by_twice (Some place) = h
    by_twice None = record { names = named_on text h.names token; twice = name_twice text h.names token }

-- the place of the macro's name where it is there, or of the first parameter that is there
abbrev pub heading_twice : List ℕ → Macros → Heading → Option Place
heading_twice text macros h = by_names h.names.names
  where
    by_names : List Token → Option Place
    by_names [] = None
    by_names (name ∷ parameters) = option_or (place_when (is_some (found (text_of text name) macros)) (place_of name)) h.twice
