-- What lines with `.set`, `.rep` and `.macro` do by themselves. This project's own.
use Rattle.std.specs.Prelude.{ℕ, ◌&&◌, Bool, true, false, nat_lt, List, [], ◌∷◌, take, drop, Option, Some, None, is_some, unwrap_or, if◌then◌else◌}
use Rattle.std.specs.Option.{option_or}
use Rattle.qpu_token.specs.declared.token.Token.{Token}
use Rattle.qpu_token.specs.Tokens.{text_of}
use Rattle.qpu_expr.specs.declared.limits.TheConstants.{MOST_TURNS}
use Rattle.qpu_expr.specs.declared.place.Place.{Place}
use Rattle.qpu_expr.specs.declared.setting.Expression.{Expression}
use Rattle.qpu_expr.specs.declared.line.Pair.TheVariants.{Repeat, Macro}
use Rattle.qpu_expr.specs.declared.state.Change.{Change}
use Rattle.qpu_expr.specs.declared.state.Change.TheVariants as change
use Rattle.qpu_expr.specs.declared.deed.Act.TheVariants as act
use Rattle.qpu_expr.specs.declared.deed.Findings.{Findings}
use Rattle.qpu_expr.specs.declared.deed.Deed.{Deed}
use Rattle.qpu_expr.specs.Symbols.{place_of}
use Rattle.qpu_expr.specs.Settings.{Sets, expression, is_whole, value_in, zero_in}
use Rattle.qpu_expr.specs.Tables.{found}
use Rattle.qpu_expr.specs.Operands.{is_name}
use Rattle.qpu_expr.specs.LineTokens.{LineTokens}
use Rattle.qpu_expr.specs.Lines.{body_length}
use Rattle.qpu_expr.specs.Macros.{is_comma, names_of, heading_fault, repeated_in, Macros}
use Rattle.qpu_expr.specs.Findings.{no_findings, place_in, place_when, left_deed, misshapen}

-- `.set`: a name, a `,` and an expression; any other form is left

abbrev pub set_to : Token → List Token → Bool → Token → Place → Expression → Deed
set_to end line twice name first e =
    if is_whole e.outcome
    then record {
      findings = record { unknown = place_when e.unknown first; twice = place_when twice (place_of name); deep = None; zero = zero_in e.outcome; shape = None; range = None };
      change = change.Sets (record { name = name; value = value_in e.outcome });
      act = act.Nothing;
    }
    else left_deed end line

unfoldable pub set_deed : List ℕ → Sets → Token → List Token → Deed
set_deed text sets end line = by_tokens (drop 2 line)
  where
    by_tokens : List Token → Deed
    by_tokens [] = left_deed end line
    by_tokens (name ∷ []) = left_deed end line
    by_tokens (name ∷ comma ∷ value) =
        if is_name text name && is_comma text comma
        then set_to end line (is_some (found (text_of text name) sets)) name (place_in end value) (expression text sets value)
        else left_deed end line

-- `.rep`: an expression

abbrev pub repeat_by : Bool → Place → Place → Expression → Option ℕ → Deed
repeat_by deepest dot first e body = record {
  findings = record {
    unknown = place_when (is_whole e.outcome && e.unknown) first;
    twice = None;
    deep = place_when deepest dot;
    zero = zero_in e.outcome;
    shape = option_or (place_when (not_some body) dot) (misshapen first e.outcome);
    range = place_when (nat_lt MOST_TURNS (value_in e.outcome)) first;
  };
  change = change.Nothing;
  act = act.Repeats (value_in e.outcome) dot (unwrap_or body 0);
}
  where
    not_some : Option ℕ → Bool
    not_some None = true
    not_some (Some n) = false

unfoldable pub repeat_deed : List ℕ → Sets → Bool → Token → List Token → List LineTokens → Deed
repeat_deed text sets deepest end line behind =
    repeat_by deepest (place_in end line) (place_in end (drop 2 line)) (expression text sets (drop 2 line)) (body_length Repeat text 0 behind)

-- `.macro`: a name, and parameters behind signs `,`

-- the place of the macro's name where it is there, or of the first parameter that is there
abbrev pub names_twice : List ℕ → Macros → List Token → Option Place
names_twice text macros [] = None
names_twice text macros (name ∷ parameters) =
    option_or (place_when (is_some (found (text_of text name) macros)) (place_of name)) (repeated_in text [] parameters)

abbrev pub defined : List Token → List LineTokens → Change
defined [] body = change.Nothing
defined (name ∷ parameters) body = change.Defines (record { name = name; parameters = parameters; body = body })

abbrev pub macro_by : Place → Option Place → Option Place → Option ℕ → Findings
macro_by dot fault twice None = record { unknown = None; twice = twice; deep = None; zero = None; shape = Some dot; range = None }
macro_by dot fault twice (Some n) = record { unknown = None; twice = twice; deep = None; zero = None; shape = fault; range = None }

unfoldable pub macro_deed : List ℕ → Macros → Token → List Token → List LineTokens → Deed
macro_deed text macros end line behind =
    let heading = names_of text (drop 2 line) in
    let body = body_length Macro text 0 behind in
    record {
      findings = macro_by (place_in end line) (heading_fault end heading) (names_twice text macros heading.names) body;
      change = defined heading.names (take (unwrap_or body 0) behind);
      act = act.Passes (unwrap_or body 0);
    }

-- `.endr` and `.endm` that close nothing
abbrev pub stray_deed : Token → List Token → Deed
stray_deed end line = record { findings = record no_findings { shape = Some (place_in end line) }; change = change.Nothing; act = act.Nothing }
