-- The text of words is ASCII and not long.
use Rattle.std.proofs.Common.{◌≡◌, ℕ, zero, suc, ◌+◌, ◌*◌, ◌/◌, ◌%◌, ◌^◌, ◌≤◌, ◌<◌, inl, inr, Bool, true, false, List, [], ◌∷◌, ◌++◌, length, Option, Some, None, refl, arith}
use Rattle.std.specs.Prelude.{nat_lt, nat_le, decimal, codes, flat_map, if◌then◌else◌}
use Rattle.std.specs.List.{list_all}
use Rattle.std.specs.Str.{IsAscii, IsUtf8}
use Rattle.std.proofs.lemmas.Bool.Decides.{nat_tests}
use Rattle.std.proofs.lemmas.Fmt.{length-decimal-le, IsAscii-decimal}
use Rattle.std.proofs.lemmas.List.{length-append}
use Rattle.std.proofs.lemmas.List.Elements.{All-contains}
use Rattle.std.proofs.lemmas.List.Sums.{AllPass-from_list_all}
use Rattle.std.proofs.lemmas.Str.{IsAscii-append, IsUtf8-from_ascii}
use Rattle.std.proofs.lemmas.Str.Ascii.{IsAscii-nil}
use Rattle.qpu_text.specs.Bytes.{is_name_byte}
use Rattle.qpu_text.specs.Numbers.{is_run}
use Rattle.qpu_text.specs.Digits.{hex_digit, hex_digits}
use Rattle.qpu_text.proofs.DigitLemmas.{digits_long, digits_pass}
use Rattle.qpu_word.specs.declared.code.TheConstants.{ROWS}
use Rattle.qpu_word.specs.Names.{two_digits, row_name, read_name, write_name}
use Rattle.qpu_line.specs.declared.name.Name.{Name}
use Rattle.qpu_line.specs.declared.name.Name.TheVariants as name
use Rattle.qpu_line.specs.declared.name.Register.TheVariants.{RowA, RowB}
use Rattle.qpu_line.specs.declared.instruction.Instruction.{Instruction}
use Rattle.qpu_line.specs.Canonical.{canonical_instruction}
use Rattle.qpu_line.specs.Spellings.{spelling, register_spelling}
use Rattle.qpu_line.specs.Names.{other_names, IsRowName, IsNameOfLanguage}
use Rattle.qpu_line.specs.Lines.{Figure, Decimal, Negative, Hexadecimal, Bit, Word, Number, Comma, Semicolon, Dot, Dash, Space, line_bits}
use Rattle.qpu_dis.specs.Text.{figure_text, bit_text, bits_text, plain_text, line_or_word, canonical_line, ended_line, disassembly}
use Rattle.qpu_dis.proofs.NameFacts.{name_text}
use Rattle.qpu_dis.proofs.BitLemmas.{IsNumber, Stands}
use Rattle.qpu_dis.proofs.LineLemmas.{line_can_stand}
use Rattle.qpu_inverse.proofs.Lengths.{few_bits}

-- bytes of ASCII, at most so many
pub record IsPlain (most : ℕ) (bytes : List ℕ) : Type 0 where
  pub ascii : IsAscii bytes
  pub few : length bytes ≤ most

both : (m n : ℕ) (xs ys : List ℕ) → IsPlain m xs → IsPlain n ys → IsPlain (m + n) (xs ++ ys)
both m n xs ys p q =
    let few = p.few in
    let more = q.few in
    record { ascii = IsAscii-append xs ys p.ascii q.ascii; few = omega (arith, length-append xs ys) }

at_most : (m n : ℕ) (bytes : List ℕ) → m ≤ n → IsPlain m bytes → IsPlain n bytes
at_most m n bytes less p = let few = p.few in record { ascii = p.ascii; few = omega arith }

-- bytes that pass a test
ascii_behind : (byte : ℕ) (bytes : List ℕ) → byte < 128 → IsAscii bytes → IsAscii (byte ∷ bytes)
ascii_behind byte bytes low rest zero = low
ascii_behind byte bytes low rest (suc i) = rest i

passed_ascii : (test : ℕ → Bool) → ((byte : ℕ) → test byte ≡ true → byte < 128) → (bytes : List ℕ) → list_all test bytes ≡ true → IsAscii bytes
passed_ascii test low [] all = IsAscii-nil
passed_ascii test low (byte ∷ bytes) all =
    let first : test byte ≡ true = grind (arith, all) in
    let rest : list_all test bytes ≡ true = grind (arith, all) in
    ascii_behind byte bytes (low byte first) (passed_ascii test low bytes rest)

is_low : ℕ → Bool
is_low byte = nat_lt byte 128

low_by : (byte : ℕ) → is_low byte ≡ true → byte < 128
unfolding is_low
low_by byte e = grind (arith, nat_tests, e)

-- names

name_low : (byte : ℕ) → is_name_byte byte ≡ true → byte < 128
name_low byte e = grind (arith, nat_tests, e)

run_ascii : (bytes : List ℕ) → is_run is_name_byte is_name_byte bytes ≡ true → IsAscii bytes
run_ascii [] run = IsAscii-nil
run_ascii (byte ∷ bytes) run = passed_ascii is_name_byte name_low (byte ∷ bytes) run

abbrev is_short : Name → Bool
is_short n = nat_le (length (spelling n)) 16

words_are_short : list_all is_short other_names ≡ true
unfolding spelling register_spelling read_name write_name row_name
words_are_short = refl

digits_few : (n : ℕ) → length (two_digits n) ≤ 2
digits_few n = by_size (nat_lt n 10)
  where
    by_size : (b : Bool) → length (if b then (48 + n) ∷ [] else (48 + n / 10) ∷ (48 + n % 10) ∷ []) ≤ 2
    by_size true = omega arith
    by_size false = omega arith

row_short : (n : Name) → IsRowName n → length (spelling n) ≤ 16
unfolding spelling register_spelling read_name row_name
row_short (name.Register (RowA n)) low =
    let row : nat_lt n ROWS ≡ true = grind (arith, nat_tests, low) in let few = digits_few n in rw row (omega arith)
row_short (name.Register (RowB n)) low =
    let row : nat_lt n ROWS ≡ true = grind (arith, nat_tests, low) in let few = digits_few n in rw row (omega arith)
row_short _ never = absurd never

short_by : (k : ℕ) → nat_le k 16 ≡ true → k ≤ 16
short_by k e = grind (arith, nat_tests, e)

name_short : (n : Name) → IsNameOfLanguage n → length (spelling n) ≤ 16
name_short n (inl row) = row_short n row
name_short n (inr among) =
    short_by (length (spelling n)) (All-contains (λ m. is_short m ≡ true) other_names n (AllPass-from_list_all is_short other_names words_are_short) among)

name_plain : (n : Name) → IsNameOfLanguage n → IsPlain 16 (spelling n)
name_plain n is = record { ascii = run_ascii (spelling n) (name_text n is); few = name_short n is }

-- numbers

digit_low : (d : ℕ) → d < 16 → is_low (hex_digit d) ≡ true
unfolding is_low
digit_low d low = grind (arith, nat_tests, low)

hex_plain : (k n : ℕ) → IsPlain k (hex_digits k n)
hex_plain k n =
    let long = digits_long k n in
    record { ascii = passed_ascii is_low low_by (hex_digits k n) (digits_pass is_low digit_low k n); few = omega arith }

of_text : (bytes : List ℕ) → list_all (λ byte. nat_lt byte 128) bytes ≡ true → IsPlain (length bytes) bytes
unfolding is_low
of_text bytes all = record { ascii = passed_ascii is_low low_by bytes all; few = omega arith }

decimal_plain : (n : ℕ) → n < 2 ^ 32 → IsPlain 10 (decimal n)
decimal_plain n low = record { ascii = IsAscii-decimal n (omega arith); few = length-decimal-le 10 n (omega arith) (omega arith) (omega arith) }

figure_plain : (figure : Figure) → IsNumber figure → IsPlain 16 (figure_text figure)
figure_plain (Decimal n) low = at_most 10 16 (decimal n) (omega arith) (decimal_plain n low)
figure_plain (Negative n) low = at_most 11 16 _ (omega arith) (both 1 10 (codes "-") (decimal n) (of_text (codes "-") refl) (decimal_plain n low))
figure_plain (Hexadecimal n) low = at_most 10 16 _ (omega arith) (both 2 8 (codes "0x") (hex_digits 8 n) (of_text (codes "0x") refl) (hex_plain 8 n))

-- bits

bit_plain : (dotted : Bool) (bit : Bit) (bits : List Bit) → Stands dotted (bit ∷ bits) → IsPlain 16 (bit_text bit)
bit_plain dotted (Word n) bits stand = name_plain n stand.0
bit_plain dotted (Number figure) bits stand = figure_plain figure stand.1
bit_plain dotted Comma bits stand = at_most 1 16 (codes ",") (omega arith) (of_text (codes ",") refl)
bit_plain dotted Semicolon bits stand = at_most 1 16 (codes ";") (omega arith) (of_text (codes ";") refl)
bit_plain dotted Dot bits stand = at_most 1 16 (codes ".") (omega arith) (of_text (codes ".") refl)
bit_plain dotted Dash bits stand = at_most 1 16 (codes "-") (omega arith) (of_text (codes "-") refl)
bit_plain dotted Space bits stand = at_most 1 16 (codes " ") (omega arith) (of_text (codes " ") refl)

no_bytes : (most : ℕ) → IsPlain most []
no_bytes most = record { ascii = IsAscii-nil; few = omega arith }

more_bytes : (k n : ℕ) (xs ys : List ℕ) → IsPlain k xs → IsPlain (k * n) ys → IsPlain (k * suc n) (xs ++ ys)
more_bytes k n xs ys p q = at_most (k + k * n) (k * suc n) (xs ++ ys) (omega arith) (both k (k * n) xs ys p q)

-- what stands behind a bit that can stand
abbrev is_dot : Bit → Bool
is_dot Dot = true
is_dot _ = false

rest_stands : (dotted : Bool) (bit : Bit) (bits : List Bit) → Stands dotted (bit ∷ bits) → Stands (is_dot bit) bits
rest_stands dotted (Word n) bits stand = stand.3
rest_stands dotted (Number figure) bits stand = stand.3
rest_stands dotted Comma bits stand = stand
rest_stands dotted Semicolon bits stand = stand
rest_stands dotted Dot bits stand = stand
rest_stands dotted Dash bits stand = stand
rest_stands dotted Space bits stand = stand

bits_plain : (dotted : Bool) (bits : List Bit) → Stands dotted bits → IsPlain (16 * length bits) (bits_text bits)
unfolding bits_text
bits_plain dotted [] stand = no_bytes (16 * 0)
bits_plain dotted (bit ∷ bits) stand =
    more_bytes 16 (length bits) (bit_text bit) (flat_map bit_text bits) (bit_plain dotted bit bits stand) (bits_plain (is_dot bit) bits (rest_stands dotted bit bits stand))

-- lines

line_plain : (w : ℕ) (o : Option Instruction) → canonical_instruction w ≡ o → IsPlain 1024 (line_or_word w o)
line_plain w None is =
    at_most 24 1024 (plain_text w) (omega arith)
    (both 8 16 (codes ".word 0x") (hex_digits 16 w) (of_text (codes ".word 0x") refl) (hex_plain 16 w))
line_plain w (Some i) is =
    let few = few_bits i in
    at_most (16 * length (line_bits i)) 1024 _ (omega arith) (bits_plain false (line_bits i) (line_can_stand w i is))

ended_plain : (w : ℕ) → IsPlain 1025 (ended_line w)
unfolding canonical_line
ended_plain w = both 1024 1 (line_or_word w (canonical_instruction w)) (codes "\n") (line_plain w (canonical_instruction w) refl) (of_text (codes "\n") refl)

text_plain : (words : List ℕ) → IsPlain (1025 * length words) (disassembly words)
unfolding disassembly
text_plain [] = no_bytes (1025 * 0)
text_plain (w ∷ words) = more_bytes 1025 (length words) (ended_line w) (flat_map ended_line words) (ended_plain w) (text_plain words)

pub text_utf8 : (words : List ℕ) → IsUtf8 (disassembly words)
text_utf8 words = IsUtf8-from_ascii (disassembly words) (text_plain words).ascii

-- each line has at most 1,024 bytes and its end
pub text_short : (words : List ℕ) → length (disassembly words) ≤ 1025 * length words
text_short words = (text_plain words).few
