-- How many words a program has, and what is said of it. This project's own.
use Rattle.std.specs.Prelude.{ℕ, List, [], ◌∷◌, codes, decimal}
use Rattle.qpu_io.specs.Text.{joined}

pub record Count : Type 0 where
  pub said : List ℕ
  pub words : ℕ

-- the line that says it
abbrev pub count_line : Count → List ℕ
count_line count = joined (count.said ∷ codes " " ∷ decimal count.words ∷ codes " words\n" ∷ [])
