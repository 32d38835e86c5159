-- The words of a text that has one in a line, as `0x` and hexadecimal digits. This project's own.
use Rattle.std.specs.Prelude.{◌≡◌, ◌⊎◌, ℕ, ◌+◌, ◌==◌, ◌&&◌, ◌||◌, Bool, nat_lt, nat_le, List, [], ◌∷◌, ◌++◌, take, drop, Result, Ok, Err, if◌then◌else◌}
use Rattle.std.specs.List.{list_all, prefix_len}
use Rattle.qpu_word.specs.declared.word.Word.{Word}
use Rattle.qpu_word.specs.Words.{numbers_of}
use Rattle.qpu_token.specs.declared.fault.AsmKind.TheVariants.{Shape}
use Rattle.qpu_token.specs.declared.fault.AsmFault.{AsmFault}
use Rattle.qpu_text.specs.Bytes.{CR, is_lf, is_blank}
use Rattle.qpu_text.specs.Numbers.{hex_length, value_in}
use Rattle.qpu_text.specs.Lines.{lines, before_comment}
use Rattle.qpu_asm.specs.declared.hex.HexLine.{HexLine}
use Rattle.qpu_asm.specs.declared.hex.HexLine.TheVariants.{Nothing, Number, Invalid}
use Rattle.qpu_token.specs.Stops.{no_memory}
use Rattle.qpu_asm.specs.Assembly.{and_then}

-- one line

-- space, tab, and what a line may end with
abbrev pub is_space : ℕ → Bool
is_space byte = is_blank byte || is_lf byte || (byte == CR)

-- a line without the blanks at its beginning

abbrev pub spaces_length : List ℕ → ℕ
spaces_length line = prefix_len is_space line

abbrev pub behind_spaces : List ℕ → List ℕ
behind_spaces line = drop (spaces_length line) line

-- 1 to 16 digits, and blanks alone behind them
unfoldable pub number_in : ℕ → List ℕ → HexLine
number_in n rest =
    if nat_lt 0 n && nat_le n 16 && list_all is_space (drop n rest) then Number (value_in 16 (take n rest)) else Invalid

-- `0x` and a number, or nothing
abbrev pub hex_in : List ℕ → HexLine
hex_in [] = Nothing
hex_in (a ∷ []) = Invalid
hex_in (a ∷ b ∷ rest) = if (a == 48) && (b == 120) then number_in (hex_length rest) rest else Invalid

unfoldable pub hex_line : List ℕ → HexLine
hex_line line = hex_in (behind_spaces (before_comment line))

-- all lines

-- the words with that of a line behind them
abbrev pub with_hex : ℕ → List ℕ → HexLine → Result (List ℕ) AsmFault
with_hex number words Nothing = Ok words
with_hex number words (Number n) = Ok (words ++ n ∷ [])
with_hex number words Invalid = Err (record { kind = Shape; line = number; column = 1 })

-- the words of lines behind others; the first line has a number
abbrev pub words_behind : ℕ → List ℕ → List (List ℕ) → Result (List ℕ) AsmFault
words_behind number words [] = Ok words
words_behind number words (line ∷ more) =
    and_then (with_hex number words (hex_line line)) (λ words. words_behind (number + 1) words more)

-- the words of a text, or the place of the first line that is none
unfoldable pub hex_words : List ℕ → Result (List ℕ) AsmFault
hex_words text = words_behind 1 [] (lines text)

-- the words are due, or the fault is; want of memory, which has no place, is free
abbrev pub AreHexWords : List ℕ → List Word → Type 0
AreHexWords text words = hex_words text ≡ Ok (numbers_of words)

abbrev pub IsHexFault : List ℕ → AsmFault → Type 0
IsHexFault text fault = (fault ≡ no_memory) ⊎ (hex_words text ≡ Err fault)
