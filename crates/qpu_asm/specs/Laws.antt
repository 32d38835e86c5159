-- What the laws of lines speak of: symbols whose names are names of the language, as those of a text are.
-- This project's own.
use Rattle.std.specs.Prelude.{ℕ, List, [], ◌∷◌, map}
use Rattle.qpu_line.specs.declared.symbol.Symbol.{Symbol}
use Rattle.qpu_line.specs.declared.symbol.Symbol.TheVariants as symbol
use Rattle.qpu_line.specs.declared.name.Name.TheVariants.{Word}
use Rattle.qpu_line.specs.Names.{IsNameOfLanguage}
use Rattle.qpu_asm.specs.declared.placed.Placed.{Placed}

abbrev pub IsProperSymbol : Symbol → Type 0
IsProperSymbol (symbol.Name n) = IsNameOfLanguage n
IsProperSymbol _ = Unit {0}

-- a token's name is one of the language
abbrev pub IsProper : Placed → Type 0
IsProper x = IsProperSymbol x.symbol

-- what the tokens of a line are
abbrev pub symbols_of : List Placed → List Symbol
symbols_of xs = map (λ x. x.symbol) xs

-- `.word` and a number
abbrev pub word_symbols : ℕ → List Symbol
word_symbols n = symbol.Dot ∷ symbol.Name Word ∷ symbol.Number n ∷ []
