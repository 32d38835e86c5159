-- Elements of 8, 16 and 32 bits in lists of words: byte n of a list is byte n mod 4, from the low
-- end, of word n div 4. Places are byte places; that an element's place is a multiple of its size is
-- this project's own.
use Rattle.std.specs.Prelude.{ℕ, ◌+◌, ◌*◌, ◌/◌, ◌%◌, ◌^◌, ◌==◌, Bool, List, length, slice_index, slice_set, Option, Some, None, nat_lt, take, drop, ◌++◌, if◌then◌else◌}
use Rattle.qpu_bytes.specs.declared.size.Size.{Size}
use Rattle.qpu_bytes.specs.declared.size.Size.TheVariants.{Byte, Half, Word}

-- the bytes of an element
abbrev pub bytes_in : Size → ℕ
bytes_in Byte = 1
bytes_in Half = 2
bytes_in Word = 4

-- the elements of a word
abbrev pub in_word : Size → ℕ
in_word Byte = 4
in_word Half = 2
in_word Word = 1

-- a place at which an element may stand
abbrev pub is_place : ℕ → Size → Bool
is_place at size = at % bytes_in size == 0

-- the so many bytes from byte `low` of a word on, extended with zeros
unfoldable pub word_part : ℕ → ℕ → ℕ → ℕ
word_part word low bytes = word / 256 ^ low % 256 ^ bytes

-- the word with these bytes replaced by the low bytes of a value
unfoldable pub with_word_part : ℕ → ℕ → ℕ → ℕ → ℕ
with_word_part word low bytes value =
    word % 256 ^ low + 256 ^ low * (value % 256 ^ bytes) + 256 ^ (low + bytes) * (word / 256 ^ (low + bytes))

-- the element at a byte place of a list of words
abbrev pub part : List ℕ → ℕ → Size → ℕ
part words at size = word_part (slice_index words (at / 4)) (at % 4) (bytes_in size)

-- the words with the element at a byte place replaced by the low bytes of a value
abbrev pub with_part : List ℕ → ℕ → Size → ℕ → List ℕ
with_part words at size value =
    slice_set words (at / 4) (with_word_part (slice_index words (at / 4)) (at % 4) (bytes_in size) value)

-- the element at a byte place; none where no word of the list has it
abbrev pub element : List ℕ → ℕ → Size → Option ℕ
element words at size = if nat_lt (at / 4) (length words) then Some (part words at size) else None

-- byte n of a list of words
abbrev pub byte_at : List ℕ → ℕ → ℕ
byte_at words n = part words n Byte

-- the byte place in the VPM of a byte of the word in a row and a column
abbrev pub byte_place : ℕ → ℕ → ℕ → ℕ
byte_place row column byte = 64 * row + 4 * column + byte

-- the words with those from an index on replaced by others
abbrev pub with_words : List ℕ → ℕ → List ℕ → List ℕ
with_words words at values = take at words ++ (values ++ drop (at + length values) words)

-- so many words from an index on
abbrev pub words_from : List ℕ → ℕ → ℕ → List ℕ
words_from words at count = take count (drop at words)
