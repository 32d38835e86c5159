-- What holds of elements read and written in lists of words. This project's own.
use Rattle.std.specs.Prelude.{◌≡◌, ℕ, ◌+◌, ◌-◌, ◌/◌, ◌%◌, ◌^◌, ◌<◌, Bool, ◌&&◌, nat_le, nat_lt, IsTrue, List, length, slice_index, if◌then◌else◌}
use Rattle.qpu_bytes.specs.declared.size.Size.{Size}
use Rattle.qpu_bytes.specs.Elements.{bytes_in, is_place, part, with_part, byte_at}

-- numbers of 32 bits
abbrev pub AreWords : List ℕ → Type 0
AreWords words = (i : ℕ) → slice_index words i < 2 ^ 32

-- whether byte n is one of the element at a place
abbrev pub is_in : ℕ → Size → ℕ → Bool
is_in at size n = nat_le at n && nat_lt n (at + bytes_in size)

-- the low bytes of what is written are read back
abbrev pub ReadsBack : Type 0
ReadsBack =
    (words : List ℕ) (at : ℕ) (size : Size) (value : ℕ) → IsTrue (is_place at size) → at / 4 < length words
    → part (with_part words at size value) at size ≡ value % 256 ^ bytes_in size

-- after an element is written its bytes are the value's, and each other byte is as it was
abbrev pub BytesAfter : Type 0
BytesAfter =
    (words : List ℕ) (at : ℕ) (size : Size) (value n : ℕ) → IsTrue (is_place at size) → at / 4 < length words
    → byte_at (with_part words at size value) n ≡ (if is_in at size n then value / 256 ^ (n - at) % 256 else byte_at words n)

-- numbers of 32 bits stay so
abbrev pub WordsStay : Type 0
WordsStay =
    (words : List ℕ) (at : ℕ) (size : Size) (value : ℕ) → IsTrue (is_place at size) → AreWords words
    → AreWords (with_part words at size value)

-- as many words with the same bytes are the same
abbrev pub SameBytes : Type 0
SameBytes =
    (xs ys : List ℕ) → length xs ≡ length ys → AreWords xs → AreWords ys → ((n : ℕ) → byte_at xs n ≡ byte_at ys n) → xs ≡ ys
