-- This project's own: which name a text is.
use Rattle.std.specs.Prelude.{ℕ, ◌+◌, ◌-◌, ◌*◌, ◌<◌, ◌⊎◌, ◌==◌, ◌&&◌, nat_eq, Contains, List, [], ◌∷◌, find, Option, Some, None, option_map, if◌then◌else◌}
use Rattle.std.specs.Cmp.Lexicographic.{pointwise}
use Rattle.qpu_line.specs.declared.name.Name.{Name}
use Rattle.qpu_line.specs.declared.name.Name.TheVariants.{Register as RegisterName}
use Rattle.qpu_line.specs.declared.name.Register.{Register}
use Rattle.qpu_line.specs.declared.name.Register.TheVariants.{RowA, RowB}
use Rattle.qpu_line.specs.declared.name.TheConstants.{WORDS}
use Rattle.qpu_line.specs.Spellings.{spelling}
use Rattle.qpu_word.specs.Words.{between}

-- digits of 0 to 31, with no leading zero
abbrev pub row_number : List ℕ → Option ℕ
row_number [] = None
row_number (a ∷ []) = if between 48 a 57 then Some (a - 48) else None
row_number (a ∷ b ∷ []) =
    if between 49 a 50 && between 48 b 57 then Some (10 * (a - 48) + (b - 48))
    else if (a == 51) && between 48 b 49 then Some (30 + (b - 48))
    else None
row_number (a ∷ b ∷ c ∷ rest) = None

-- the row that a text names: `ra` or `rb`, and its number
unfoldable pub register_of : List ℕ → Option Register
register_of [] = None
register_of (a ∷ []) = None
register_of (a ∷ b ∷ digits) =
    if (a == 114) && (b == 97) then option_map RowA (row_number digits)
    else if (a == 114) && (b == 98) then option_map RowB (row_number digits)
    else None

-- the first of names with a spelling
abbrev pub found_in : List Name → List ℕ → Option Name
found_in names text = find (λ name. pointwise nat_eq (spelling name) text) names

abbrev pub row_or : Option Register → Option Name → Option Name
row_or None other = other
row_or (Some row) other = Some (RegisterName row)

-- the name that a text is
unfoldable pub name_of : List ℕ → Option Name
name_of text = row_or (register_of text) (found_in WORDS text)

-- a row that there is
abbrev pub IsRowName : Name → Type 0
IsRowName (RegisterName (RowA n)) = n < 32
IsRowName (RegisterName (RowB n)) = n < 32
IsRowName _ = ⊥

-- the names that aren't those of rows
abbrev pub other_names : List Name
other_names = WORDS

-- the names of the language: those of rows, and the others
abbrev pub IsNameOfLanguage : Name → Type 0
IsNameOfLanguage n = IsRowName n ⊎ Contains other_names n
