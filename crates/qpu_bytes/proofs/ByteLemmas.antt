-- Elements in words: what is read and written, in byteorder's own words.
use Rattle.std.proofs.Common.{◌≡◌, ℕ, ◌*◌, ◌/◌, ◌%◌, ◌^◌, ◌-◌, ◌<◌, List, ◌++◌, take, drop, refl, sym, arith, IsTrue}
use Rattle.std.specs.Prelude.{slice_index, slice_set}
use Rattle.std.proofs.lemmas.Bool.Decides.{nat_tests}
use Rattle.byteorder.specs.Endian.{little_bytes, little_number}
use borrow.Rule.Slice.PartMut.{put_mid}
use Rattle.qpu_bytes.specs.declared.size.Size.{Size}
use Rattle.qpu_bytes.specs.declared.size.Size.TheVariants.{Byte, Half, Word}
use Rattle.qpu_bytes.specs.Elements.{bytes_in, is_place, word_part, with_word_part, part}
use Rattle.qpu_bytes.proofs.Shapes.{Shape, byte0, byte1, byte2, byte3, half0, half2, whole, shape_of_low}

byte_by : {low : ℕ} (word : ℕ) → Shape low Byte → slice_index (little_bytes 4 word) low ≡ word_part word low 1
unfolding word_part
byte_by word byte0 = omega arith
byte_by word byte1 = omega arith
byte_by word byte2 = omega arith
byte_by word byte3 = omega arith

-- a byte of a word
pub byte_read : (word low : ℕ) → low < 4 → slice_index (little_bytes 4 word) low ≡ word_part word low 1
byte_read word low small = byte_by word (shape_of_low low Byte small (grind (arith, nat_tests)))

half_by : {low : ℕ} (word : ℕ) → Shape low Half → little_number 2 (take (4 - low) (drop low (little_bytes 4 word))) ≡ word_part word low 2
unfolding word_part
half_by word half0 = omega arith
half_by word half2 = omega arith

-- a half word of a word
pub half_read : (word low : ℕ) → low < 4 → IsTrue (is_place low Half) → little_number 2 (take (4 - low) (drop low (little_bytes 4 word))) ≡ word_part word low 2
half_read word low small even = half_by word (shape_of_low low Half small even)

byte_put_by : {low : ℕ} (word value : ℕ) → word < 2 ^ 32 → Shape low Byte → little_number 4 (slice_set (little_bytes 4 word) low (value % 256)) ≡ with_word_part word low 1 value
unfolding with_word_part
byte_put_by word value fits byte0 = omega arith
byte_put_by word value fits byte1 = omega arith
byte_put_by word value fits byte2 = omega arith
byte_put_by word value fits byte3 = omega arith

-- a byte of a word replaced
pub byte_put : (word low value : ℕ) → word < 2 ^ 32 → low < 4 → little_number 4 (slice_set (little_bytes 4 word) low (value % 256)) ≡ with_word_part word low 1 value
byte_put word low value fits small = byte_put_by word value fits (shape_of_low low Byte small (grind (arith, nat_tests)))

half_put_by : {low : ℕ} (word value : ℕ) → word < 2 ^ 32 → Shape low Half → little_number 4 (put_mid low (4 - low) (little_bytes 4 word) (little_bytes 2 (value % 65536) ++ drop 2 (take (4 - low) (drop low (little_bytes 4 word))))) ≡ with_word_part word low 2 value
unfolding with_word_part
half_put_by word value fits half0 = omega arith
half_put_by word value fits half2 = omega arith

-- a half word of a word replaced
pub half_put : (word low value : ℕ) → word < 2 ^ 32 → low < 4 → IsTrue (is_place low Half) → little_number 4 (put_mid low (4 - low) (little_bytes 4 word) (little_bytes 2 (value % 65536) ++ drop 2 (take (4 - low) (drop low (little_bytes 4 word))))) ≡ with_word_part word low 2 value
half_put word low value fits small even = half_put_by word value fits (shape_of_low low Half small even)

word_by : {low : ℕ} (word : ℕ) → word < 2 ^ 32 → Shape low Word → word ≡ word_part word low 4
unfolding word_part
word_by word small whole = omega arith

-- a whole word
pub word_read : (word low : ℕ) → word < 2 ^ 32 → low < 4 → IsTrue (is_place low Word) → word ≡ word_part word low 4
word_read word low fits small even = word_by word fits (shape_of_low low Word small even)

word_put_by : {low : ℕ} (word value : ℕ) → word < 2 ^ 32 → value < 2 ^ 32 → Shape low Word → value ≡ with_word_part word low 4 value
unfolding with_word_part
word_put_by word value fits small whole = omega arith

-- a whole word replaced
pub word_put : (word low value : ℕ) → word < 2 ^ 32 → value < 2 ^ 32 → low < 4 → IsTrue (is_place low Word) → value ≡ with_word_part word low 4 value
word_put word low value fits narrow small even = word_put_by word value fits narrow (shape_of_low low Word small even)

-- an element has no more than its bytes
pub part_small : (word low : ℕ) (size : Size) → word_part word low (bytes_in size) < 2 ^ 32
unfolding word_part
part_small word low Byte = omega arith
part_small word low Half = omega arith
part_small word low Word = omega arith

back_by : {low : ℕ} {size : Size} (word value : ℕ) → Shape low size → word_part (with_word_part word low (bytes_in size) value) low (bytes_in size) ≡ value % 256 ^ bytes_in size
unfolding word_part with_word_part
back_by word value byte0 = omega arith
back_by word value byte1 = omega arith
back_by word value byte2 = omega arith
back_by word value byte3 = omega arith
back_by word value half0 = omega arith
back_by word value half2 = omega arith
back_by word value whole = omega arith

-- what is written is read back
pub reads_back : (word low value : ℕ) (size : Size) → low < 4 → IsTrue (is_place low size) → word_part (with_word_part word low (bytes_in size) value) low (bytes_in size) ≡ value % 256 ^ bytes_in size
reads_back word low value size small even = back_by word value (shape_of_low low size small even)

kept_by : {low : ℕ} {size : Size} (word value : ℕ) → word < 2 ^ 32 → Shape low size → with_word_part word low (bytes_in size) value < 2 ^ 32
unfolding with_word_part
kept_by word value fits byte0 = omega arith
kept_by word value fits byte1 = omega arith
kept_by word value fits byte2 = omega arith
kept_by word value fits byte3 = omega arith
kept_by word value fits half0 = omega arith
kept_by word value fits half2 = omega arith
kept_by word value fits whole = omega arith

-- a word with an element replaced is a word
pub word_kept : (word low value : ℕ) (size : Size) → word < 2 ^ 32 → low < 4 → IsTrue (is_place low size) → with_word_part word low (bytes_in size) value < 2 ^ 32
word_kept word low value size fits small even = kept_by word value fits (shape_of_low low size small even)

-- an element of 32 bits is a word of the list
pub word_part_whole : (words : List ℕ) (i : ℕ) → slice_index words i < 2 ^ 32 → part words (4 * i) Word ≡ slice_index words i
word_part_whole words i fits =
    let e : 4 * i / 4 ≡ i = omega arith in
    let z : 4 * i % 4 ≡ 0 = omega arith in
    rw (e, z) (sym (word_read (slice_index words i) 0 fits (omega arith) refl))
