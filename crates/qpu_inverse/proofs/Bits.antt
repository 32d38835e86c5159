-- The bits of lines as the symbols that are written and those that are worked out.
use Rattle.std.proofs.Common.{◌≡◌, ◌^◌, ◌<◌, List, [], ◌∷◌, ◌++◌}
use Rattle.std.specs.Prelude.{flat_map}
use Rattle.std.proofs.lemmas.List.Concat.{flat_map-append}
use Rattle.qpu_line.specs.declared.symbol.Symbol.{Symbol}
use Rattle.qpu_line.specs.declared.symbol.Symbol.TheVariants as symbol
use Rattle.qpu_line.specs.Lines.{Figure, Decimal, Negative, Hexadecimal, Bit, Word, Number, Comma, Semicolon, Dot, Dash, Space, bit_symbols, symbols_of}
use Rattle.qpu_dis.specs.Tokens.{bit_written}
use Rattle.qpu_inverse.proofs.Readings.{IsUsed, IsInside}

-- the symbols of bits as they are written
abbrev pub symbols_written : List Bit → List Symbol
symbols_written bits = flat_map bit_written bits

pub written_append : (a b : List Bit) → symbols_written (a ++ b) ≡ symbols_written a ++ symbols_written b
written_append a b = flat_map-append bit_written a b

pub symbols_append : (a b : List Bit) → symbols_of (a ++ b) ≡ symbols_of a ++ symbols_of b
symbols_append a b = flat_map-append bit_symbols a b

abbrev pub AllUsed : List Symbol → Type 0
AllUsed [] = Unit {0}
AllUsed (s ∷ ss) = IsUsed s × AllUsed ss

pub bits_used : (bits : List Bit) → AllUsed (symbols_written bits)
bits_used [] = tt
bits_used (Word n ∷ bits) = (tt, bits_used bits)
bits_used (Number (Decimal n) ∷ bits) = (tt, bits_used bits)
bits_used (Number (Negative n) ∷ bits) = (tt, (tt, bits_used bits))
bits_used (Number (Hexadecimal n) ∷ bits) = (tt, bits_used bits)
bits_used (Comma ∷ bits) = (tt, bits_used bits)
bits_used (Semicolon ∷ bits) = (tt, bits_used bits)
bits_used (Dot ∷ bits) = (tt, bits_used bits)
bits_used (Dash ∷ bits) = (tt, bits_used bits)
bits_used (Space ∷ bits) = bits_used bits

-- numbers of 32 bits; what stands behind a sign isn't 0
abbrev pub IsFigure : Figure → Type 0
IsFigure (Decimal n) = n < 2 ^ 32
IsFigure (Negative n) = (0 < n) × (n < 2 ^ 32)
IsFigure (Hexadecimal n) = n < 2 ^ 32

-- no sign separates operands or parts
abbrev pub AllInside : List Symbol → Type 0
AllInside [] = Unit {0}
AllInside (s ∷ ss) = IsInside s × AllInside ss

pub inside_both : (a b : List Symbol) → AllInside a → AllInside b → AllInside (a ++ b)
inside_both [] b p q = q
inside_both (s ∷ a) b p q = (p.0, inside_both a b p.1 q)

-- they don't begin with a sign `.`
abbrev pub BeginsNoDot : List Symbol → Type 0
BeginsNoDot [] = Unit {0}
BeginsNoDot (symbol.Dot ∷ ss) = ⊥
BeginsNoDot (_ ∷ ss) = Unit {0}

-- suffixes, each a sign `.` and a name
abbrev pub AreSuffixes : List Bit → Type 0
AreSuffixes [] = Unit {0}
AreSuffixes (Dot ∷ Word n ∷ bits) = AreSuffixes bits
AreSuffixes _ = ⊥
