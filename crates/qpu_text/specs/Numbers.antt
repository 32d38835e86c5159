-- Numbers, as digits write them. This project's own.
use Rattle.std.specs.Prelude.{ℕ, ◌+◌, ◌-◌, ◌*◌, ◌==◌, ◌&&◌, ◌||◌, Bool, false, nat_eq, nat_le, List, [], ◌∷◌, fold, drop, codes, Option, Some, None, if◌then◌else◌}
use Rattle.std.specs.List.{list_all, prefix_len, starts_with}
use Rattle.qpu_text.specs.Bytes.{byte_between, is_digit, is_hex_digit}

-- runs of digits

abbrev pub digits_length : List ℕ → ℕ
digits_length text = prefix_len is_digit text

abbrev pub hex_length : List ℕ → ℕ
hex_length text = prefix_len is_hex_digit text

-- a first byte that passes a test, and others that pass another
abbrev pub is_run : (ℕ → Bool) → (ℕ → Bool) → List ℕ → Bool
is_run first others [] = false
is_run first others (byte ∷ rest) = first byte && list_all others rest

-- `0x` and hexadecimal digits
abbrev pub is_hexadecimal : List ℕ → Bool
is_hexadecimal [] = false
is_hexadecimal (a ∷ []) = false
is_hexadecimal (a ∷ b ∷ digits) = (a == 48) && (b == 120) && is_run is_hex_digit is_hex_digit digits

-- decimal digits, or `0x` and hexadecimal digits, at least one
abbrev pub is_number : List ℕ → Bool
is_number word = is_run is_digit is_digit word || is_hexadecimal word

-- values

-- the value of a digit
abbrev pub digit_of : ℕ → ℕ
digit_of byte = if is_digit byte then byte - 48 else if byte_between 97 102 byte then byte - 87 else byte - 55

-- the number that digits write in a base
abbrev pub value_in : ℕ → List ℕ → ℕ
value_in base digits = fold (λ value digit. value * base + digit_of digit) 0 digits

-- the number that a word writes
abbrev pub number_value : List ℕ → ℕ
number_value word = if starts_with nat_eq word (codes "0x") then value_in 16 (drop 2 word) else value_in 10 word

-- a number where it is no larger than the most
abbrev pub within : ℕ → ℕ → Option ℕ
within most n = if nat_le n most then Some n else None

abbrev pub value_within : ℕ → ℕ → List ℕ → Option ℕ
value_within most base digits = within most (value_in base digits)

abbrev pub number_within : ℕ → List ℕ → Option ℕ
number_within most word = within most (number_value word)
