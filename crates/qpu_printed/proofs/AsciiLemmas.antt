-- Texts of ASCII, put together from pieces.
use Rattle.std.proofs.Common.{◌≡◌, ◌<◌, ◌+◌, ◌/◌, ◌%◌, ℕ, zero, suc, Bool, true, false, List, [], ◌∷◌, ◌++◌, refl, arith}
use Rattle.std.specs.Prelude.{◌&&◌, ◌==◌, nat_lt, flat_map, decimal, All, if◌then◌else◌}
use Rattle.std.specs.List.{list_all, AllByRecursion}
use Rattle.std.specs.Fmt.{digits, digits_onto, digit_glyph}
use Rattle.std.proofs.lemmas.Bool.Decides.{nat_tests}
use Rattle.std.proofs.lemmas.List.Elements.{All-nil, All-cons, All-head, All-tail}
use Rattle.std.proofs.lemmas.List.Folds.{list_all-append}
use Rattle.qpu_text.specs.Digits.{hex_digit, hex_digits}
use Rattle.qpu_text.proofs.DigitLemmas.{digits_pass}
use Rattle.qpu_io.specs.Text.{joined, in_turn, numbered, lane_text, lanes_text}

-- whether each byte is ASCII
abbrev pub is_low : ℕ → Bool
is_low byte = nat_lt byte 128

abbrev pub IsLow : List ℕ → Type 0
IsLow text = list_all is_low text ≡ true

-- to and from `All`

head_low : (a b : Bool) → (a && b) ≡ true → a ≡ true
head_low true b is = refl
head_low false b is = absurd (cc)

tail_low : (a b : Bool) → (a && b) ≡ true → b ≡ true
tail_low true b is = is
tail_low false b is = absurd (cc)

low_less : (byte : ℕ) → is_low byte ≡ true → byte < 128
low_less byte is = grind (arith, nat_tests)

less_low : (byte : ℕ) → byte < 128 → is_low byte ≡ true
less_low byte less = grind (arith, nat_tests)

pub all_low : (text : List ℕ) → IsLow text → All (λ (byte : ℕ). byte < 128) text
all_low [] low = All-nil (λ (byte : ℕ). byte < 128)
all_low (byte ∷ text) low =
    All-cons (λ (byte : ℕ). byte < 128) byte text (low_less byte (head_low (is_low byte) (list_all is_low text) low))
    (all_low text (tail_low (is_low byte) (list_all is_low text) low))

-- pieces

pub low_cons : (byte : ℕ) (text : List ℕ) → is_low byte ≡ true → IsLow text → IsLow (byte ∷ text)
low_cons byte text first rest = rw (first, rest) refl

pub low_all : (text : List ℕ) → All (λ (byte : ℕ). byte < 128) text → IsLow text
low_all [] all = refl
low_all (byte ∷ text) all =
    low_cons byte text (less_low byte (All-head (λ (byte : ℕ). byte < 128) byte text all)) (low_all text (All-tail (λ (byte : ℕ). byte < 128) byte text all))

pub low_append : (xs ys : List ℕ) → IsLow xs → IsLow ys → IsLow (xs ++ ys)
low_append xs ys first rest = rw (list_all-append is_low xs ys, first, rest) refl

pub low_joined : (pieces : List (List ℕ)) → AllByRecursion IsLow pieces → IsLow (joined pieces)
low_joined [] all = refl
low_joined (piece ∷ pieces) all = low_append piece (joined pieces) all.0 (low_joined pieces all.1)

pub low_in_turn : (parts : List (List ℕ)) → AllByRecursion IsLow parts → IsLow (in_turn parts)
unfolding in_turn
low_in_turn [] all = refl
low_in_turn (part ∷ parts) all = low_append part (in_turn parts) all.0 (low_in_turn parts all.1)

pub low_numbered : {A : Type 0} (text : ℕ → A → List ℕ) (n : ℕ) (items : List A) → ((k : ℕ) (item : A) → IsLow (text k item)) → IsLow (numbered text n items)
low_numbered text n [] each = refl
low_numbered text n (item ∷ items) each = low_append (text n item) (numbered text (n + 1) items) (each n item) (low_numbered text (n + 1) items each)

pub low_flat_map : {A : Type 0} (text : A → List ℕ) (items : List A) → ((item : A) → IsLow (text item)) → IsLow (flat_map text items)
low_flat_map text [] each = refl
low_flat_map text (item ∷ items) each = low_append (text item) (flat_map text items) (each item) (low_flat_map text items each)

-- nothing, or a text
pub low_unless : (none : Bool) (text : List ℕ) → IsLow text → IsLow (if none then [] else text)
low_unless true text low = refl
low_unless false text low = low

-- numbers

glyph_low : (n : ℕ) → n < 10 → is_low (digit_glyph false n) ≡ true
glyph_low n less = grind (arith, nat_tests)

last_low : (n : ℕ) → is_low (digit_glyph false (n % 10)) ≡ true
last_low n = glyph_low (n % 10) (omega arith)

either_low : (b : Bool) (xs ys : List ℕ) → IsLow xs → IsLow ys → IsLow (if b then xs else ys)
either_low true xs ys first rest = first
either_low false xs ys first rest = rest

digits_low : (k n : ℕ) (behind : List ℕ) → IsLow behind → IsLow (digits_onto k 10 false n behind)
digits_low zero n behind low = low
digits_low (suc k) n behind low =
    let more = low_cons (digit_glyph false (n % 10)) behind (last_low n) low in
    either_low (n / 10 == 0) (digit_glyph false (n % 10) ∷ behind) (digits_onto k 10 false (n / 10) (digit_glyph false (n % 10) ∷ behind)) more
    (digits_low k (n / 10) (digit_glyph false (n % 10) ∷ behind) more)

pub low_decimal : (n : ℕ) → IsLow (decimal n)
unfolding digits
low_decimal n = digits_low 64 n [] refl

hex_low : (n : ℕ) → n < 16 → is_low (hex_digit n) ≡ true
hex_low n less = grind (arith, nat_tests)

pub low_hex : (k n : ℕ) → IsLow (hex_digits k n)
low_hex k n = digits_pass is_low hex_low k n

pub low_lanes : (lanes : List ℕ) → IsLow (lanes_text lanes)
low_lanes lanes = low_flat_map lane_text lanes (λ n. low_cons 32 (hex_digits 8 n) refl (low_hex 8 n))
