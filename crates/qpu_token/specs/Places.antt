-- The lines and columns of a text, both from 1; columns count bytes. This project's own.
use Rattle.std.specs.Prelude.{ℕ, ◌+◌, ◌==◌, List, take, fold, if◌then◌else◌}
use Rattle.qpu_token.specs.declared.place.Place.{Place}

abbrev pub first_place : Place
first_place = record { line = 1; column = 1 }

-- a line feed is followed by the next line; each other byte has one column
abbrev pub next_place : Place → ℕ → Place
next_place place byte =
    if byte == 10 then record { line = place.line + 1; column = 1 }
    else record { line = place.line; column = place.column + 1 }

-- the line and column of a byte of the text
unfoldable pub place_at : List ℕ → ℕ → Place
place_at text at = fold next_place first_place (take at text)
