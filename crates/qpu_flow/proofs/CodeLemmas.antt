-- The numbers of words, place by place, and link points among them.
use Rattle.std.proofs.Common.{◌≡◌, ℕ, ◌-◌, ◌<◌, ◌≤◌, List, length, get_or, ap, sym, ◌∙◌, false, arith}
use Rattle.std.specs.Prelude.{filter}
use Rattle.std.specs.List.{range_with_len}
use Rattle.std.proofs.lemmas.List.{get_or-map, length-map}
use Rattle.std.proofs.lemmas.Bool.Decides.{nat_tests}
use Rattle.qpu_word.specs.declared.word.Word.{Word}
use Rattle.qpu_word.specs.Words.{writes_link, numbers_of}
use Rattle.qpu_word.specs.Instruction.{is_link_point}
use Rattle.qpu_decoded.specs.declared.decoded.Decoded.{Decoded}
use Rattle.qpu_decoded.specs.Units.{decoded_of}
use Rattle.qpu_flow.specs.Code.{fields_at, all_decoded}
use Rattle.qpu_flow.specs.Control.{link_points}

pub length_numbers : (words : List Word) → length (numbers_of words) ≡ length words
unfolding numbers_of
length_numbers words = length-map words (λ (word : Word). word.0)

-- the number of the word at a place
pub number_at : (words : List Word) (at : ℕ) (d : Word) → at < length words → get_or (numbers_of words) at 0 ≡ (get_or words at d).0
unfolding numbers_of
number_at words at d there = get_or-map (λ (word : Word). word.0) words at d 0 there

-- the word at a place, decoded
pub decoded_at : (words : List Word) (at : ℕ) (d : Decoded) → at < length words → get_or (all_decoded words) at d ≡ decoded_of (get_or (numbers_of words) at 0)
decoded_at words at d there =
    get_or-map (λ (word : Word). decoded_of word.0) words at (record { 0 = 0 }) d there ∙ ap decoded_of (sym (number_at words at (record { 0 = 0 }) there))

pub length_decoded : (words : List Word) → length (all_decoded words) ≡ length words
length_decoded words = length-map words (λ (word : Word). decoded_of word.0)

pub word_at : (words : List Word) (at : ℕ) (word : Word) → at < length words → word ≡ get_or words at word → word ≡ record { 0 = get_or (numbers_of words) at 0 }
word_at words at word there is =
    let number : word.0 ≡ get_or (numbers_of words) at 0 = ap (λ (w : Word). w.0) is ∙ sym (number_at words at word there) in
    λ i. record { 0 = number i }

-- a place of the program behind the first slots is a link point where the branch before links
pub link_point_at : (code : List ℕ) (at : ℕ) → at < length code → 4 ≤ at → is_link_point code at ≡ writes_link (fields_at code (at - 4))
unfolding is_link_point fields_at
link_point_at code at low high = grind (arith, nat_tests)

pub no_link_past : (code : List ℕ) (at : ℕ) → length code ≤ at → is_link_point code at ≡ false
unfolding is_link_point
no_link_past code at past = grind (arith, nat_tests)

pub no_link_before : (code : List ℕ) (at : ℕ) → at < 4 → is_link_point code at ≡ false
unfolding is_link_point
no_link_before code at low = grind (arith, nat_tests)

-- the link points by the count of words
pub links_below_all : (words : List Word) (count : ℕ) → count ≡ length words → filter (is_link_point (numbers_of words)) (range_with_len 0 count) ≡ link_points (numbers_of words)
unfolding link_points
links_below_all words count counts =
    ap (λ n. filter (is_link_point (numbers_of words)) (range_with_len 0 n)) (counts ∙ sym (length_numbers words))
