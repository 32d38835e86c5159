-- The seven places in a word at which an element may stand.
use Rattle.std.proofs.Common.{ℕ, zero, suc, ◌%◌, ◌<◌, IsTrue, arith}
use Rattle.std.proofs.lemmas.Bool.Decides.{nat_tests}
use Rattle.qpu_bytes.specs.declared.size.Size.{Size}
use Rattle.qpu_bytes.specs.declared.size.Size.TheVariants.{Byte, Half, Word}
use Rattle.qpu_bytes.specs.Elements.{is_place}

-- an element of a size at a byte of a word
pub data Shape : ℕ → Size → Type 0 where
  byte0 : Shape 0 Byte
  byte1 : Shape 1 Byte
  byte2 : Shape 2 Byte
  byte3 : Shape 3 Byte
  half0 : Shape 0 Half
  half2 : Shape 2 Half
  whole : Shape 0 Word

-- the shape of a byte of a word
pub shape_of_low : (low : ℕ) (size : Size) → low < 4 → IsTrue (is_place low size) → Shape low size
shape_of_low zero Byte small even = byte0
shape_of_low (suc zero) Byte small even = byte1
shape_of_low (suc (suc zero)) Byte small even = byte2
shape_of_low (suc (suc (suc zero))) Byte small even = byte3
shape_of_low (suc (suc (suc (suc n)))) Byte small even = absurd (omega arith)
shape_of_low zero Half small even = half0
shape_of_low (suc zero) Half small even = absurd (grind (arith, even))
shape_of_low (suc (suc zero)) Half small even = half2
shape_of_low (suc (suc (suc zero))) Half small even = absurd (grind (arith, even))
shape_of_low (suc (suc (suc (suc n)))) Half small even = absurd (omega arith)
shape_of_low zero Word small even = whole
shape_of_low (suc zero) Word small even = absurd (grind (arith, even))
shape_of_low (suc (suc zero)) Word small even = absurd (grind (arith, even))
shape_of_low (suc (suc (suc zero))) Word small even = absurd (grind (arith, even))
shape_of_low (suc (suc (suc (suc n)))) Word small even = absurd (omega arith)

-- an element's place in its word
pub place_low : (at : ℕ) (size : Size) → IsTrue (is_place at size) → IsTrue (is_place (at % 4) size)
place_low at Byte even = grind (arith, nat_tests)
place_low at Half even = grind (arith, nat_tests)
place_low at Word even = grind (arith, nat_tests)
