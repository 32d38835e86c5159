-- This project's own: how far an expression goes in a line whose expressions are worked out. One that
-- isn't a single number or name there is malformed, and its place is told by this.
use Rattle.std.specs.Prelude.{ℕ, zero, suc, ◌+◌, List, [], ◌∷◌, Option, Some, None, option_map}
use Rattle.qpu_line.specs.declared.symbol.Symbol.{Symbol}
use Rattle.qpu_line.specs.declared.symbol.Symbol.TheVariants as symbol
use Rattle.qpu_asm.specs.declared.expression.Due.{Due}
use Rattle.qpu_asm.specs.declared.expression.Due.TheVariants.{Value, Sign}

-- what is due behind a symbol, and how many brackets are then open; none where the symbol isn't due
abbrev pub value_read : ℕ → Symbol → Option (Due × ℕ)
value_read depth (symbol.Name n) = Some (Sign, depth)
value_read depth symbol.Unknown = Some (Sign, depth)
value_read depth (symbol.Number n) = Some (Sign, depth)
value_read depth symbol.Open = Some (Value, depth + 1)
value_read depth symbol.Minus = Some (Value, depth)
value_read depth symbol.Invert = Some (Value, depth)
value_read depth _ = None

abbrev pub closed : ℕ → Option (Due × ℕ)
closed zero = None
closed (suc depth) = Some (Sign, depth)

abbrev pub sign_read : ℕ → Symbol → Option (Due × ℕ)
sign_read depth symbol.Minus = Some (Value, depth)
sign_read depth symbol.Binary = Some (Value, depth)
sign_read depth symbol.Close = closed depth
sign_read depth _ = None

abbrev pub symbol_read : Due → ℕ → Symbol → Option (Due × ℕ)
symbol_read Value depth s = value_read depth s
symbol_read Sign depth s = sign_read depth s

-- an expression may end where no value is due and no bracket is open
abbrev pub ended : Due → ℕ → Option ℕ
ended Value depth = None
ended Sign zero = Some 0
ended Sign (suc depth) = None

-- how many of the symbols at the front are an expression, the longest; none where none begins or can
-- be completed
abbrev pub length_from : Due → ℕ → List Symbol → Option ℕ
length_from due depth [] = ended due depth
length_from due depth (s ∷ rest) =
    elim (symbol_read due depth s) as (λ _. Option ℕ)
    [ None ↦ ended due depth | Some next ↦ option_map (λ n. n + 1) (length_from next.0 next.1 rest) ]

abbrev pub expression_length : List Symbol → Option ℕ
expression_length xs = length_from Value 0 xs
