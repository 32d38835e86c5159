-- The lines of words, word by word.
use Rattle.std.proofs.Common.{◌≡◌, ℕ, List, flat_map}
use Rattle.std.proofs.lemmas.List.Folds.{flat_map-map}
use Rattle.qpu_word.specs.declared.word.Word.{Word}
use Rattle.qpu_word.specs.Words.{numbers_of}
use Rattle.qpu_tool.specs.Code.{word_line}

-- the line of a word of the code
abbrev pub line_of_word : Word → List ℕ
line_of_word word = word_line word.0

pub lines_of_words : (words : List Word) → flat_map word_line (numbers_of words) ≡ flat_map line_of_word words
unfolding numbers_of
lines_of_words words = flat_map-map word_line (λ (word : Word). word.0) words
