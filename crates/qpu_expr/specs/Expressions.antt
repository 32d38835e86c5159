-- How an expression is read, item by item: a stack of what waits for its right side. That it gives
-- the worth of the expression's tree is the law of Trees. This project's own.
use Rattle.std.specs.Prelude.{ℕ, nat_lt, List, [], ◌∷◌, fold, Option, Some, None, Ok, if◌then◌else◌}
use Rattle.qpu_expr.specs.declared.place.Place.{Place}
use Rattle.qpu_expr.specs.declared.operator.Operator.TheVariants as sign
use Rattle.qpu_expr.specs.declared.expression.Frame.{Frame}
use Rattle.qpu_expr.specs.declared.expression.Frame.TheVariants as frame
use Rattle.qpu_expr.specs.declared.expression.What.{What}
use Rattle.qpu_expr.specs.declared.expression.What.TheVariants.{Value, Binary, Invert, Open, Close}
use Rattle.qpu_expr.specs.declared.expression.Item.{Item}
use Rattle.qpu_expr.specs.declared.expression.Phase.{Phase}
use Rattle.qpu_expr.specs.declared.expression.Phase.TheVariants.{Due, There, Broken, Behind}
use Rattle.qpu_expr.specs.declared.expression.Parsed.{Parsed}
use Rattle.qpu_expr.specs.declared.expression.Parsed.TheVariants.{Whole, Cut, Extra}
use Rattle.qpu_expr.specs.Operators.{Worth, level, combined, negated, inverted}

-- what waits, newest first, and what was read last
pub record Reading : Type 0 where
  pub stack : List Frame
  pub phase : Phase

abbrev pub reading : List Frame → Phase → Reading
reading stack phase = record { stack = stack; phase = phase }

-- what a frame makes of its right side, where it binds at least as tight as a level
abbrev pub taken : ℕ → Frame → Worth → Option Worth
taken least (frame.Left worth sign place) v = if nat_lt (level sign) least then None else Some (combined sign place worth v)
taken least frame.Negate v = Some (negated v)
taken least frame.Invert v = Some (inverted v)
taken least frame.Open v = None

-- all frames that bind at least as tight as a level, up to the first that doesn't
abbrev pub collapse : ℕ → List Frame → Worth → List Frame × Worth
collapse least [] v = ([], v)
collapse least (f ∷ stack) v = elim (taken least f v) as (λ _. List Frame × Worth) [ None ↦ (f ∷ stack, v) | Some w ↦ collapse least stack w ]

-- a number or what may stand before one is due
abbrev pub read_due : What → List Frame → Reading
read_due (Value v) stack = reading stack (There (Ok v))
read_due (Binary sign.Minus) stack = reading (frame.Negate ∷ stack) Due
read_due Invert stack = reading (frame.Invert ∷ stack) Due
read_due Open stack = reading (frame.Open ∷ stack) Due
read_due _ stack = reading stack Broken

-- a bracket closes the newest that is open
abbrev pub closed : Place → List Frame × Worth → Reading
closed place ([], v) = reading [] (Behind place)
closed place (frame.Open ∷ stack, v) = reading stack (There v)
closed place (f ∷ stack, v) = reading (f ∷ stack) Broken

-- something else stands behind a number: the whole may have been complete
abbrev pub passed : Place → List Frame × Worth → Reading
passed place ([], v) = reading [] (Behind place)
passed place (f ∷ stack, v) = reading (f ∷ stack) Broken

abbrev pub read_behind : What → Place → List Frame → Worth → Reading
read_behind (Binary sign) place stack v = reading (frame.Left (collapse (level sign) stack v).1 sign place ∷ (collapse (level sign) stack v).0) Due
read_behind Close place stack v = closed place (collapse 0 stack v)
read_behind _ place stack v = passed place (collapse 0 stack v)

-- one item more
abbrev pub stepped : Reading → Item → Reading
stepped r item = by_phase r.phase
  where
    by_phase : Phase → Reading
    by_phase Due = read_due item.what r.stack
    by_phase (There v) = read_behind item.what item.place r.stack v
    by_phase Broken = r
    by_phase (Behind place) = r

abbrev pub ended : List Frame × Worth → Parsed
ended ([], v) = Whole v
ended (f ∷ stack, v) = Cut

abbrev pub finished : Reading → Parsed
finished r = by_phase r.phase
  where
    by_phase : Phase → Parsed
    by_phase Due = Cut
    by_phase (There v) = ended (collapse 0 r.stack v)
    by_phase Broken = Cut
    by_phase (Behind place) = Extra place

-- items as an expression: its worth, or that it isn't whole, or the place of what stands behind it
abbrev pub parsed_of : List Item → Parsed
parsed_of items = finished (fold stepped (reading [] Due) items)
