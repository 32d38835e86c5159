-- What the words of assembly text look like. This project's own.
use Rattle.std.specs.Prelude.{ℕ, ◌==◌, ◌&&◌, ◌||◌, Bool, false, not, List, [], ◌∷◌, if◌then◌else◌}
use Rattle.qpu_text.specs.Bytes.{is_lf, is_hash, byte_between, is_letter, is_name_byte, is_blank}
use Rattle.qpu_text.specs.Numbers.{is_run, is_number}
use Rattle.qpu_token.specs.declared.piece.Shape.{Shape}
use Rattle.qpu_token.specs.declared.piece.Shape.TheVariants.{Blank, Comment, Name, Number, Sign, LineEnd}

-- bytes

-- the signs of one byte: `%` `&`, `(` to `/`, `:` `;` `^` `|` `~`
abbrev pub is_sign_byte : ℕ → Bool
is_sign_byte byte =
    (byte == 37) || (byte == 38) || byte_between 40 47 byte || (byte == 58) || (byte == 59) || (byte == 94) || (byte == 124) || (byte == 126)

-- any byte but LF
abbrev pub stays_in_line : ℕ → Bool
stays_in_line byte = not (is_lf byte)

-- words

-- a sign of one byte, `<<` or `>>`
abbrev pub is_sign : List ℕ → Bool
is_sign [] = false
is_sign (a ∷ []) = is_sign_byte a
is_sign (a ∷ b ∷ []) = ((a == 60) && (b == 60)) || ((a == 62) && (b == 62))
is_sign (a ∷ b ∷ c ∷ rest) = false

-- LF, or CR and LF
abbrev pub is_line_end : List ℕ → Bool
is_line_end [] = false
is_line_end (a ∷ []) = a == 10
is_line_end (a ∷ b ∷ []) = (a == 13) && (b == 10)
is_line_end (a ∷ b ∷ c ∷ rest) = false

abbrev pub is_one_blank : List ℕ → Bool
is_one_blank [] = false
is_one_blank (a ∷ []) = is_blank a
is_one_blank (a ∷ b ∷ rest) = false

-- the words of each shape; directly after a sign `.` a name may begin with a digit, and a number can't
-- stand
abbrev pub is_word : Bool → Shape → List ℕ → Bool
is_word dotted Blank word = is_one_blank word
is_word dotted Comment word = is_run is_hash stays_in_line word
is_word dotted Name word = is_run (if dotted then is_name_byte else is_letter) is_name_byte word
is_word dotted Number word = not dotted && is_number word
is_word dotted Sign word = is_sign word
is_word dotted LineEnd word = is_line_end word
