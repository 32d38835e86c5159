-- Kinds of bytes of a text. This project's own.
use Rattle.std.specs.Prelude.{ℕ, ◌==◌, ◌&&◌, ◌||◌, Bool, nat_le}

-- line feed, carriage return and space
abbrev pub LF : ℕ
LF = 10

abbrev pub CR : ℕ
CR = 13

abbrev pub SPACE : ℕ
SPACE = 32

abbrev pub is_lf : ℕ → Bool
is_lf byte = byte == LF

-- space and tab
abbrev pub is_blank : ℕ → Bool
is_blank byte = (byte == SPACE) || (byte == 9)

-- a `#`
abbrev pub is_hash : ℕ → Bool
is_hash byte = byte == 35

abbrev pub byte_between : ℕ → ℕ → ℕ → Bool
byte_between low high byte = nat_le low byte && nat_le byte high

-- `A` to `Z`, `a` to `z`, `_`
abbrev pub is_letter : ℕ → Bool
is_letter byte = byte_between 65 90 byte || byte_between 97 122 byte || (byte == 95)

-- `0` to `9`
abbrev pub is_digit : ℕ → Bool
is_digit byte = byte_between 48 57 byte

-- `0` to `9`, `a` to `f`, `A` to `F`
abbrev pub is_hex_digit : ℕ → Bool
is_hex_digit byte = is_digit byte || byte_between 97 102 byte || byte_between 65 70 byte

abbrev pub is_name_byte : ℕ → Bool
is_name_byte byte = is_letter byte || is_digit byte
