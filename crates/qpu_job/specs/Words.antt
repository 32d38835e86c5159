-- The words of a line, and those that are numbers and names. This project's own.
use Rattle.std.specs.Prelude.{ℕ, ◌-◌, ◌^◌, ◌&&◌, Bool, nat_lt, nat_le, List, [], ◌∷◌, length, map, filter, Option, Some, None, option_map, option_and_then, if◌then◌else◌}
use Rattle.std.specs.List.{list_all, slice_split}
use Rattle.std.specs.Borrow.{Bor}
use Rattle.qpu_text.specs.Bytes.{is_blank, is_name_byte}
use Rattle.qpu_text.specs.Numbers.{is_number, number_within}
use Rattle.qpu_text.specs.Lines.{before_comment}
use Rattle.qpu_job.specs.declared.job.TheConstants.{MOST_NAME}

abbrev pub is_some_word : List ℕ → Bool
is_some_word word = nat_lt 0 (length word)

-- the words between spaces and tabs
unfoldable pub words_between : List ℕ → List (List ℕ)
words_between text = filter is_some_word (slice_split is_blank text)

-- the words of a line
abbrev pub line_words : List ℕ → List (List ℕ)
line_words line = words_between (before_comment line)

-- the number that a word writes, below 2^32
unfoldable pub number_of : List ℕ → Option ℕ
number_of word = if is_number word then number_within (2 ^ 32 - 1) word else None

-- the numbers that words write
unfoldable pub line_numbers : List (List ℕ) → Option (List ℕ)
line_numbers [] = Some []
line_numbers (word ∷ words) =
    option_and_then (λ number. option_map (λ numbers. number ∷ numbers) (line_numbers words)) (number_of word)

-- 1 to 32 letters, digits or `_`
abbrev pub is_name : List ℕ → Bool
is_name word = nat_lt 0 (length word) && nat_le (length word) MOST_NAME && list_all is_name_byte word

-- the name that a word is
unfoldable pub name_of : List ℕ → Option (List ℕ)
name_of word = if is_name word then Some word else None

-- words as they are lent, as their bytes
abbrev pub texts_of : List (Bor (List ℕ)) → List (List ℕ)
texts_of words = map (λ word. word.now) words
