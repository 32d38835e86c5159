-- Texts as lists of bytes, put together from pieces.
use Rattle.std.specs.Prelude.{ℕ, ◌+◌, List, [], ◌∷◌, ◌++◌, flat_map, decimal}
use Rattle.qpu_text.specs.Digits.{hex_digits}
use Rattle.qpu_io.specs.declared.pieces.Piece.{Piece}
use Rattle.qpu_io.specs.declared.pieces.Piece.TheVariants.{Text, Decimal, Mask, Word, Instruction, Lanes}

-- the pieces of one line, one behind the other
abbrev pub joined : List (List ℕ) → List ℕ
joined [] = []
joined (piece ∷ pieces) = piece ++ joined pieces

-- the parts of a text that several calls write, one behind the other
unfoldable pub in_turn : List (List ℕ) → List ℕ
in_turn [] = []
in_turn (part ∷ parts) = part ++ in_turn parts

-- the texts of items that are told their number, from n on
abbrev pub numbered : {A : Type 0} → (ℕ → A → List ℕ) → ℕ → List A → List ℕ
numbered text n [] = []
numbered text n (item ∷ items) = text n item ++ numbered text (n + 1) items

-- a lane: a space and its eight digits
abbrev pub lane_text : ℕ → List ℕ
lane_text n = 32 ∷ hex_digits 8 n

-- the lanes, one behind the other
abbrev pub lanes_text : List ℕ → List ℕ
lanes_text lanes = flat_map lane_text lanes

-- what a piece stands for: its own bytes, a number in decimal, a mask, word or instruction word in
-- hexadecimal, or lanes
abbrev pub piece_text : Piece → List ℕ
piece_text (Text bytes) = bytes.now
piece_text (Decimal n) = decimal n
piece_text (Mask n) = hex_digits 4 n
piece_text (Word n) = hex_digits 8 n
piece_text (Instruction n) = hex_digits 16 n
piece_text (Lanes lanes) = lanes_text lanes.now

-- the text of pieces in a row
abbrev pub pieces_text : List Piece → List ℕ
pieces_text pieces = flat_map piece_text pieces
