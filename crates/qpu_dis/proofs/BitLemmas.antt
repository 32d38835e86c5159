-- The bits of a line as the words that are written: their text, their tokens, and that each ends before
-- the next begins.
use Rattle.std.proofs.Common.{◌≡◌, ℕ, ◌^◌, ◌<◌, Bool, true, false, List, [], ◌∷◌, ◌++◌, map, refl, ap, ◌∙◌, append-nil, arith}
use Rattle.std.specs.Prelude.{decimal, codes, flat_map, if◌then◌else◌}
use Rattle.std.proofs.lemmas.List.{map-append}
use Rattle.std.proofs.lemmas.List.Concat.{flat_map-append}
use Rattle.qpu_text.specs.Bytes.{is_letter, is_name_byte}
use Rattle.qpu_text.specs.Numbers.{is_run, number_value}
use Rattle.qpu_token.specs.Tokens.{after_text, bound}
use Rattle.qpu_token.specs.Written.{Item, Name, Number as NumberItem, Sign, Space as SpaceItem, item_text, items_text, Told, item_told, items_told, Ends, Stage, CanStand}
use Rattle.qpu_token.proofs.WrittenLaw.{small_fits}
use Rattle.qpu_text.specs.Digits.{hex_digits}
use Rattle.qpu_line.specs.declared.symbol.Symbol.{Symbol}
use Rattle.qpu_line.specs.declared.symbol.Symbol.TheVariants as symbol
use Rattle.qpu_line.specs.declared.name.Name.{Name as NameOf}
use Rattle.qpu_line.specs.Spellings.{spelling}
use Rattle.qpu_line.specs.Names.{IsNameOfLanguage}
use Rattle.qpu_line.specs.Lines.{Figure, Decimal, Negative, Hexadecimal, Bit, Word, Number, Comma, Semicolon, Dot, Dash, Space}
use Rattle.qpu_line.proofs.NameLaw.{names_back}
use Rattle.qpu_dis.specs.Text.{bit_text, bits_text}
use Rattle.qpu_dis.specs.Tokens.{symbol_by, bit_written, bits_written}
use Rattle.qpu_dis.proofs.NameFacts.{is_packed, name_text, plain_text}
use Rattle.qpu_dis.proofs.NumberLemmas.{decimal_run, decimal_value, hex_run, hex_number}

-- the words of bits

abbrev pub figure_items : Figure → List Item
figure_items (Decimal n) = NumberItem (decimal n) ∷ []
figure_items (Negative n) = Sign 45 ∷ NumberItem (decimal n) ∷ []
figure_items (Hexadecimal n) = NumberItem (codes "0x" ++ hex_digits 8 n) ∷ []

abbrev pub bit_items : Bit → List Item
bit_items (Word n) = Name (spelling n) ∷ []
bit_items (Number figure) = figure_items figure
bit_items Comma = Sign 44 ∷ []
bit_items Semicolon = Sign 59 ∷ []
bit_items Dot = Sign 46 ∷ []
bit_items Dash = Sign 45 ∷ []
bit_items Space = SpaceItem ∷ []

abbrev pub bits_items : List Bit → List Item
bits_items bits = flat_map bit_items bits

-- their text

pub items_append : (xs ys : List Item) → items_text (xs ++ ys) ≡ items_text xs ++ items_text ys
unfolding items_text
items_append xs ys = flat_map-append item_text xs ys

bit_same : (bit : Bit) → items_text (bit_items bit) ≡ bit_text bit
unfolding items_text
bit_same (Word n) = append-nil (spelling n)
bit_same (Number (Decimal n)) = append-nil (decimal n)
bit_same (Number (Negative n)) = ap (λ z. 45 ∷ z) (append-nil (decimal n))
bit_same (Number (Hexadecimal n)) = append-nil (codes "0x" ++ hex_digits 8 n)
bit_same Comma = refl
bit_same Semicolon = refl
bit_same Dot = refl
bit_same Dash = refl
bit_same Space = refl

pub bits_same : (bits : List Bit) → items_text (bits_items bits) ≡ bits_text bits
unfolding bits_text items_text
bits_same [] = refl
bits_same (bit ∷ bits) = rw (items_append (bit_items bit) (bits_items bits), bit_same bit, bits_same bits) refl

-- their tokens

abbrev pub told_symbol : Told → Symbol
told_symbol told = symbol_by told.0 told.1

abbrev pub told_symbols : List Item → List Symbol
told_symbols items = map told_symbol (items_told items)

pub symbols_append : (xs ys : List Item) → told_symbols (xs ++ ys) ≡ told_symbols xs ++ told_symbols ys
unfolding items_told
symbols_append xs ys = ap (map told_symbol) (flat_map-append item_told xs ys) ∙ map-append told_symbol (flat_map item_told xs) (flat_map item_told ys)

-- numbers of 32 bits
abbrev pub IsNumber : Figure → Type 0
IsNumber (Decimal n) = n < 2 ^ 32
IsNumber (Negative n) = n < 2 ^ 32
IsNumber (Hexadecimal n) = n < 2 ^ 32

-- no name or number follows
abbrev pub BitEnds : List Bit → Type 0
BitEnds [] = Unit {0}
BitEnds (Word n ∷ bits) = ⊥
BitEnds (Number figure ∷ bits) = ⊥
BitEnds (_ ∷ bits) = Unit {0}

-- bits that can stand one behind the other, behind a sign `.` or not
abbrev pub Stands : Bool → List Bit → Type 0
Stands dotted [] = Unit {0}
Stands dotted (Word n ∷ bits) = IsNameOfLanguage n × (dotted ≡ false → is_packed n ≡ false) × BitEnds bits × Stands false bits
Stands dotted (Number figure ∷ bits) = (dotted ≡ false) × IsNumber figure × BitEnds bits × Stands false bits
Stands dotted (Comma ∷ bits) = Stands false bits
Stands dotted (Semicolon ∷ bits) = Stands false bits
Stands dotted (Dot ∷ bits) = Stands true bits
Stands dotted (Dash ∷ bits) = Stands false bits
Stands dotted (Space ∷ bits) = Stands false bits

small : (n : ℕ) → n < 2 ^ 32 → n < 2 ^ 64
small n low = omega arith

figure_told : (figure : Figure) → IsNumber figure → told_symbols (figure_items figure) ≡ bit_written (Number figure)
unfolding items_told
figure_told (Decimal n) low = rw (decimal_value n (small n low)) refl
figure_told (Negative n) low = rw (decimal_value n (small n low)) refl
figure_told (Hexadecimal n) low = rw (hex_number 8 n low) refl

word_told : (n : NameOf) → IsNameOfLanguage n → told_symbols (Name (spelling n) ∷ []) ≡ symbol.Name n ∷ []
unfolding items_told
word_told n is = rw (names_back n is) refl

bit_told : (dotted : Bool) (bit : Bit) (bits : List Bit) → Stands dotted (bit ∷ bits) → told_symbols (bit_items bit) ≡ bit_written bit
unfolding items_told
bit_told dotted (Word n) bits stand = word_told n stand.0
bit_told dotted (Number figure) bits stand = figure_told figure stand.1
bit_told dotted Comma bits stand = refl
bit_told dotted Semicolon bits stand = refl
bit_told dotted Dot bits stand = refl
bit_told dotted Dash bits stand = refl
bit_told dotted Space bits stand = refl

-- what is behind a bit that can stand
abbrev is_dot : Bit → Bool
is_dot Dot = true
is_dot _ = false

rest_stands : (dotted : Bool) (bit : Bit) (bits : List Bit) → Stands dotted (bit ∷ bits) → Stands (is_dot bit) bits
rest_stands dotted (Word n) bits stand = stand.3
rest_stands dotted (Number figure) bits stand = stand.3
rest_stands dotted Comma bits stand = stand
rest_stands dotted Semicolon bits stand = stand
rest_stands dotted Dot bits stand = stand
rest_stands dotted Dash bits stand = stand
rest_stands dotted Space bits stand = stand

pub bits_told : (dotted : Bool) (bits : List Bit) → Stands dotted bits → told_symbols (bits_items bits) ≡ bits_written bits
unfolding bits_written items_told
bits_told dotted [] stand = refl
bits_told dotted (bit ∷ bits) stand =
    symbols_append (bit_items bit) (bits_items bits)
    ∙ rw (bit_told dotted bit bits stand, bits_told (is_dot bit) bits (rest_stands dotted bit bits stand)) refl

-- they can stand

ends_too : (bits : List Bit) (rest : List Item) → BitEnds bits → Ends rest → Ends (bits_items bits ++ rest)
ends_too [] rest ends more = more
ends_too (Word n ∷ bits) rest ends more = absurd ends
ends_too (Number figure ∷ bits) rest ends more = absurd ends
ends_too (Comma ∷ bits) rest ends more = tt
ends_too (Semicolon ∷ bits) rest ends more = tt
ends_too (Dot ∷ bits) rest ends more = tt
ends_too (Dash ∷ bits) rest ends more = tt
ends_too (Space ∷ bits) rest ends more = tt

name_run : (dotted : Bool) (n : NameOf) → IsNameOfLanguage n → (dotted ≡ false → is_packed n ≡ false)
    → is_run (if dotted then is_name_byte else is_letter) is_name_byte (spelling n) ≡ true
name_run true n is plain = name_text n is
name_run false n is plain = plain_text n is (plain refl)

pub bits_stand : (dotted : Bool) (bits : List Bit) (b : Stage) (rest : List Item) → Stands dotted bits → Ends rest
    → ((d : Bool) (c : Stage) → CanStand d c rest) → CanStand dotted b (bits_items bits ++ rest)
bits_stand dotted [] b rest stand ends more = more dotted b
bits_stand dotted (Word n ∷ bits) b rest stand ends more =
    (name_run dotted n stand.0 stand.1, ends_too bits rest stand.2 ends, bits_stand false bits (after_text b (spelling n)) rest stand.3 ends more)
bits_stand dotted (Number (Decimal n) ∷ bits) b rest stand ends more =
    let value : number_value (decimal n) < bound b = rw (decimal_value n (small n stand.1)) (small_fits b n stand.1) in
    (stand.0, decimal_run n (small n stand.1), value, ends_too bits rest stand.2 ends, bits_stand false bits (after_text b (decimal n)) rest stand.3 ends more)
bits_stand dotted (Number (Negative n) ∷ bits) b rest stand ends more =
    let value : number_value (decimal n) < bound (after_text b (codes "-")) = rw (decimal_value n (small n stand.1)) (small_fits (after_text b (codes "-")) n stand.1) in
    (refl, (refl, decimal_run n (small n stand.1), value, ends_too bits rest stand.2 ends, bits_stand false bits (after_text (after_text b (codes "-")) (decimal n)) rest stand.3 ends more))
bits_stand dotted (Number (Hexadecimal n) ∷ bits) b rest stand ends more =
    let value : number_value (codes "0x" ++ hex_digits 8 n) < bound b = rw (hex_number 8 n stand.1) (small_fits b n stand.1) in
    (stand.0, hex_run 8 n (omega arith), value, ends_too bits rest stand.2 ends, bits_stand false bits (after_text b (codes "0x" ++ hex_digits 8 n)) rest stand.3 ends more)
bits_stand dotted (Comma ∷ bits) b rest stand ends more = (refl, bits_stand false bits (after_text b (codes ",")) rest stand ends more)
bits_stand dotted (Semicolon ∷ bits) b rest stand ends more = (refl, bits_stand false bits (after_text b (codes ";")) rest stand ends more)
bits_stand dotted (Dot ∷ bits) b rest stand ends more = (refl, bits_stand true bits (after_text b (codes ".")) rest stand ends more)
bits_stand dotted (Dash ∷ bits) b rest stand ends more = (refl, bits_stand false bits (after_text b (codes "-")) rest stand ends more)
bits_stand dotted (Space ∷ bits) b rest stand ends more = bits_stand false bits b rest stand ends more
