-- The longest word that begins a text, told from its first bytes. That it is one, and that no longer
-- one is there, is proved (`piece_here` of proofs/PieceLaw).
use Rattle.std.specs.Prelude.{ℕ, ◌+◌, ◌==◌, ◌&&◌, ◌||◌, Bool, nat_eq, nat_lt, List, [], ◌∷◌, Option, Some, None, codes, slice_index, if◌then◌else◌}
use Rattle.std.specs.List.{prefix_len, starts_with}
use Rattle.qpu_token.specs.declared.piece.Shape.{Shape}
use Rattle.qpu_token.specs.declared.piece.Shape.TheVariants.{Blank, Comment, Name, Number, Sign, LineEnd}
use Rattle.qpu_token.specs.declared.piece.Piece.{Piece}
use Rattle.qpu_text.specs.Bytes.{is_letter, is_digit, is_name_byte, is_blank}
use Rattle.qpu_text.specs.Numbers.{digits_length, hex_length}
use Rattle.qpu_token.specs.Words.{is_sign_byte, stays_in_line}

abbrev pub name_length : List ℕ → ℕ
name_length rest = prefix_len is_name_byte rest

abbrev pub comment_length : List ℕ → ℕ
comment_length rest = prefix_len stays_in_line rest

abbrev pub number_length : List ℕ → ℕ
number_length [] = 0
number_length (a ∷ []) = digits_length (a ∷ [])
number_length (a ∷ b ∷ rest) =
    if (a == 48) && (b == 120) && nat_lt 0 (hex_length rest) then 2 + hex_length rest
    else digits_length (a ∷ b ∷ rest)

abbrev pub some_piece : Shape → ℕ → Option Piece
some_piece shape length = Some (record { shape = shape; length = length })

unfoldable pub short_piece : List ℕ → Option Piece
short_piece rest =
    if slice_index rest 0 == 10 then some_piece LineEnd 1
    else if starts_with nat_eq rest (codes "\r\n") then some_piece LineEnd 2
    else if starts_with nat_eq rest (codes "<<") || starts_with nat_eq rest (codes ">>") then some_piece Sign 2
    else if is_sign_byte (slice_index rest 0) then some_piece Sign 1
    else None

unfoldable pub piece_of : Bool → List ℕ → Option Piece
piece_of dotted rest =
    if is_letter (slice_index rest 0) || (dotted && is_digit (slice_index rest 0)) then some_piece Name (name_length rest)
    else if is_digit (slice_index rest 0) then some_piece Number (number_length rest)
    else if slice_index rest 0 == 35 then some_piece Comment (comment_length rest)
    else if is_blank (slice_index rest 0) then some_piece Blank 1
    else short_piece rest
