-- What a write of an element leaves, byte by byte.
use Rattle.std.proofs.Common.{◌≡◌, ◌≢◌, ℕ, ◌+◌, ◌*◌, ◌/◌, ◌%◌, ◌^◌, ◌-◌, ◌<◌, ◌≤◌, length-set, false, IsTrue, List, length, get_or, refl, ap, sym, ◌⊎◌, inl, inr, ◌∙◌, arith, if◌then◌else◌}
use Rattle.std.proofs.lemmas.Bool.Decides.{nat_tests}
use Rattle.std.proofs.lemmas.Bool.{cases_eq, cases_lt}
use Rattle.std.proofs.lemmas.List.{ext_get_or, get_or-set_same, get_or-set_other, get_or_past}
use Rattle.qpu_bytes.specs.declared.size.Size.{Size}
use Rattle.qpu_bytes.specs.declared.size.Size.TheVariants.{Byte, Half, Word}
use Rattle.qpu_bytes.specs.Elements.{bytes_in, is_place, word_part, with_word_part, with_part, byte_at}
use Rattle.qpu_bytes.specs.Laws.{AreWords, is_in, ReadsBack, BytesAfter, WordsStay, SameBytes}
use Rattle.qpu_bytes.proofs.Shapes.{Shape, byte0, byte1, byte2, byte3, half0, half2, whole, shape_of_low, place_low}
use Rattle.qpu_bytes.proofs.ByteLemmas.{reads_back, word_kept}

-- what is written is read back
pub part_back : ReadsBack
part_back words at size value even low =
    ap (λ (word : ℕ). word_part word (at % 4) (bytes_in size)) (get_or-set_same words (at / 4) _ 0 low)
    ∙ reads_back (get_or words (at / 4) 0) (at % 4) value size (omega arith) (place_low at size even)

byte_by : {low byte : ℕ} {size : Size} (word value : ℕ) → Shape low size → Shape byte Byte
    → word_part (with_word_part word low (bytes_in size) value) byte 1 ≡ (if is_in low size byte then value / 256 ^ (byte - low) % 256 else word_part word byte 1)
unfolding word_part with_word_part
byte_by word value byte0 byte0 = omega arith
byte_by word value byte0 byte1 = omega arith
byte_by word value byte0 byte2 = omega arith
byte_by word value byte0 byte3 = omega arith
byte_by word value byte1 byte0 = omega arith
byte_by word value byte1 byte1 = omega arith
byte_by word value byte1 byte2 = omega arith
byte_by word value byte1 byte3 = omega arith
byte_by word value byte2 byte0 = omega arith
byte_by word value byte2 byte1 = omega arith
byte_by word value byte2 byte2 = omega arith
byte_by word value byte2 byte3 = omega arith
byte_by word value byte3 byte0 = omega arith
byte_by word value byte3 byte1 = omega arith
byte_by word value byte3 byte2 = omega arith
byte_by word value byte3 byte3 = omega arith
byte_by word value half0 byte0 = omega arith
byte_by word value half0 byte1 = omega arith
byte_by word value half0 byte2 = omega arith
byte_by word value half0 byte3 = omega arith
byte_by word value half2 byte0 = omega arith
byte_by word value half2 byte1 = omega arith
byte_by word value half2 byte2 = omega arith
byte_by word value half2 byte3 = omega arith
byte_by word value whole byte0 = omega arith
byte_by word value whole byte1 = omega arith
byte_by word value whole byte2 = omega arith
byte_by word value whole byte3 = omega arith

-- a byte of a word in which an element is replaced
word_byte : (word low value byte : ℕ) (size : Size) → low < 4 → byte < 4 → IsTrue (is_place low size)
    → word_part (with_word_part word low (bytes_in size) value) byte 1 ≡ (if is_in low size byte then value / 256 ^ (byte - low) % 256 else word_part word byte 1)
word_byte word low value byte size small narrow even =
    byte_by word value (shape_of_low low size small even) (shape_of_low byte Byte narrow (grind (arith, nat_tests)))

-- whether a byte of the element's word is one of the element
in_low : (at n : ℕ) (size : Size) → n / 4 ≡ at / 4 → is_in at size n ≡ is_in (at % 4) size (n % 4)
in_low at n Byte same = grind (arith, nat_tests, same)
in_low at n Half same = grind (arith, nat_tests, same)
in_low at n Word same = grind (arith, nat_tests, same)

-- an element has no byte in another word
not_in : (at n : ℕ) (size : Size) → IsTrue (is_place at size) → n / 4 ≢ at / 4 → is_in at size n ≡ false
not_in at n Byte even differ = grind (arith, nat_tests, differ)
not_in at n Half even differ = grind (arith, nat_tests, differ)
not_in at n Word even differ = grind (arith, nat_tests, differ)

after_by : (words : List ℕ) (at : ℕ) (size : Size) (value n : ℕ) → IsTrue (is_place at size) → at / 4 < length words → (n / 4 ≡ at / 4) ⊎ (n / 4 ≢ at / 4)
    → byte_at (with_part words at size value) n ≡ (if is_in at size n then value / 256 ^ (n - at) % 256 else byte_at words n)
after_by words at size value n even low (inl same) =
    let e : n % 4 - at % 4 ≡ n - at = omega (arith, same) in
    rw (same, get_or-set_same words (at / 4) (with_word_part (get_or words (at / 4) 0) (at % 4) (bytes_in size) value) 0 low, in_low at n size same, ← e)
    (word_byte (get_or words (at / 4) 0) (at % 4) value (n % 4) size (omega arith) (omega arith) (place_low at size even))
after_by words at size value n even low (inr differ) =
    rw (get_or-set_other words (at / 4) (n / 4) (with_word_part (get_or words (at / 4) 0) (at % 4) (bytes_in size) value) 0 differ, not_in at n size even differ) refl

-- each byte after an element is written
pub bytes_after : BytesAfter
bytes_after words at size value n even low = after_by words at size value n even low (cases_eq (n / 4) (at / 4))

stay_at : (words : List ℕ) (at : ℕ) (size : Size) (value : ℕ) → IsTrue (is_place at size) → AreWords words → (at / 4 < length words) ⊎ (length words ≤ at / 4)
    → get_or (with_part words at size value) (at / 4) 0 < 2 ^ 32
stay_at words at size value even fits (inl low) =
    rw (get_or-set_same words (at / 4) (with_word_part (get_or words (at / 4) 0) (at % 4) (bytes_in size) value) 0 low)
    (word_kept (get_or words (at / 4) 0) (at % 4) value size (fits (at / 4)) (omega arith) (place_low at size even))
stay_at words at size value even fits (inr past) =
    let long = length-set words (at / 4) (with_word_part (get_or words (at / 4) 0) (at % 4) (bytes_in size) value) in
    rw (get_or_past (with_part words at size value) (at / 4) 0 (omega (arith, past, long))) (omega arith)

stay_by : (words : List ℕ) (at : ℕ) (size : Size) (value i : ℕ) → IsTrue (is_place at size) → AreWords words → (i ≡ at / 4) ⊎ (i ≢ at / 4)
    → get_or (with_part words at size value) i 0 < 2 ^ 32
stay_by words at size value i even fits (inl same) =
    rw same (stay_at words at size value even fits (cases_lt (at / 4) (length words)))
stay_by words at size value i even fits (inr differ) =
    rw (get_or-set_other words (at / 4) i (with_word_part (get_or words (at / 4) 0) (at % 4) (bytes_in size) value) 0 differ) (fits i)

-- words of 32 bits stay so
pub words_stay : WordsStay
words_stay words at size value even fits i = stay_by words at size value i even fits (cases_eq i (at / 4))

-- words of 32 bits with the same bytes
same_word : (x y : ℕ) → x < 2 ^ 32 → y < 2 ^ 32 → word_part x 0 1 ≡ word_part y 0 1 → word_part x 1 1 ≡ word_part y 1 1 → word_part x 2 1 ≡ word_part y 2 1 → word_part x 3 1 ≡ word_part y 3 1 → x ≡ y
unfolding word_part
same_word x y low small first second third fourth = omega arith

-- byte b of word i
byte_of : (words : List ℕ) (i b : ℕ) → b < 4 → byte_at words (4 * i + b) ≡ word_part (get_or words i 0) b 1
byte_of words i b small =
    let e : (4 * i + b) / 4 ≡ i = omega arith in
    let r : (4 * i + b) % 4 ≡ b = omega arith in
    rw (e, r) refl

same_by : (xs ys : List ℕ) (i b : ℕ) → b < 4 → ((n : ℕ) → byte_at xs n ≡ byte_at ys n) → word_part (get_or xs i 0) b 1 ≡ word_part (get_or ys i 0) b 1
same_by xs ys i b small same = sym (byte_of xs i b small) ∙ (same (4 * i + b) ∙ byte_of ys i b small)

-- words of 32 bits are known by their bytes
pub same_bytes : SameBytes
same_bytes xs ys long low small same =
    ext_get_or 0 xs ys long (λ i within. same_word (get_or xs i 0) (get_or ys i 0) (low i) (small i) (same_by xs ys i 0 (omega arith) same) (same_by xs ys i 1 (omega arith) same) (same_by xs ys i 2 (omega arith) same) (same_by xs ys i 3 (omega arith) same))
