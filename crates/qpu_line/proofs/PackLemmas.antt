-- The fields of a word give the word back.
use Rattle.std.proofs.Common.{◌≡◌, ℕ, ◌/◌, ◌%◌, ◌^◌, ◌<◌, arith}
use Rattle.qpu_word.specs.Words.{field, fields_of}
use Rattle.qpu_line.specs.Slots.{unit_fields, units_word, unit_high, units_low}

-- the lower and the upper half
pub low_back : (w : ℕ) → units_low (unit_fields (fields_of w)) ≡ w % 2 ^ 32
low_back w = omega arith

pub high_back : (w : ℕ) → w < 2 ^ 64 → field w 56 1 ≡ 0 → unit_high (unit_fields (fields_of w)) ≡ w / 2 ^ 32
high_back w below pm = omega arith

pub unit_word_back : (w : ℕ) → w < 2 ^ 64 → field w 56 1 ≡ 0 → units_word (unit_fields (fields_of w)) ≡ w
unfolding units_word
unit_word_back w below pm = let low : units_low (unit_fields (fields_of w)) ≡ w % 2 ^ 32 = low_back w in let high : unit_high (unit_fields (fields_of w)) ≡ w / 2 ^ 32 = high_back w below pm in rw (low, high) (omega arith)
