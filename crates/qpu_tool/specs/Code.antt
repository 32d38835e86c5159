-- The words of a program, as they are written. This project's own.
use Rattle.std.specs.Prelude.{ℕ, List, [], ◌∷◌, codes, flat_map}
use Rattle.qpu_io.specs.Text.{joined}
use Rattle.qpu_text.specs.Digits.{hex_digits}

-- the line of a word: sixteen digits
abbrev pub word_line : ℕ → List ℕ
word_line word = joined (codes "0x" ∷ hex_digits 16 word ∷ codes "\n" ∷ [])

-- the lines of words
unfoldable pub words_text : List ℕ → List ℕ
words_text words = flat_map word_line words
