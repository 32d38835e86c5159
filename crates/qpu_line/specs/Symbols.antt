-- This project's own: what signs and names of a line are.
use Rattle.std.specs.Prelude.{ℕ, ◌==◌, List, Option, Some, None, if◌then◌else◌}
use Rattle.qpu_line.specs.declared.name.Name.{Name}
use Rattle.qpu_line.specs.declared.symbol.Symbol.{Symbol}
use Rattle.qpu_line.specs.declared.symbol.Symbol.TheVariants as symbol
use Rattle.qpu_line.specs.Names.{name_of}

-- the sign with a first byte
abbrev pub sign_of : ℕ → Symbol
sign_of byte =
    if byte == 44 then symbol.Comma
    else if byte == 59 then symbol.Semicolon
    else if byte == 58 then symbol.Colon
    else if byte == 46 then symbol.Dot
    else if byte == 45 then symbol.Minus
    else if byte == 40 then symbol.Open
    else if byte == 41 then symbol.Close
    else if byte == 126 then symbol.Invert
    else symbol.Binary

abbrev pub name_symbol : Option Name → Symbol
name_symbol None = symbol.Unknown
name_symbol (Some name) = symbol.Name name

-- a name, of the language or not
abbrev pub word_of : List ℕ → Symbol
word_of word = name_symbol (name_of word)
