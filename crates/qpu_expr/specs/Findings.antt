-- What lines find, and what they do where they are left. This project's own.
use Rattle.std.specs.Prelude.{Bool, List, [], ◌∷◌, ◌++◌, Option, Some, None, if◌then◌else◌}
use Rattle.qpu_token.specs.declared.token.Token.{Token}
use Rattle.qpu_expr.specs.declared.place.Place.{Place}
use Rattle.qpu_expr.specs.declared.expression.Parsed.{Parsed}
use Rattle.qpu_expr.specs.declared.expression.Parsed.TheVariants.{Whole, Cut, Extra}
use Rattle.qpu_expr.specs.declared.state.Change.TheVariants as change
use Rattle.qpu_expr.specs.declared.deed.Act.TheVariants as act
use Rattle.qpu_expr.specs.declared.deed.Findings.{Findings}
use Rattle.qpu_expr.specs.declared.deed.Deed.{Deed}
use Rattle.qpu_expr.specs.Symbols.{place_of}

abbrev pub no_findings : Findings
no_findings = record { unknown = None; twice = None; deep = None; zero = None; shape = None; range = None }

-- the place of the first of tokens, or of the line's end
abbrev pub place_in : Token → List Token → Place
place_in end [] = place_of end
place_in end (token ∷ rest) = place_of token

abbrev pub place_when : Bool → Place → Option Place
place_when holds place = if holds then Some place else None

-- a line that is left as it is
abbrev pub left_deed : Token → List Token → Deed
left_deed end line = record { findings = no_findings; change = change.Leaves (line ++ end ∷ []); act = act.Nothing }

-- where tokens that are to be an expression are none: at their first, which begins one that can't be
-- completed, or at what stands behind a whole one
abbrev pub misshapen : Place → Parsed → Option Place
misshapen first (Whole worth) = None
misshapen first Cut = Some first
misshapen first (Extra place) = Some place
