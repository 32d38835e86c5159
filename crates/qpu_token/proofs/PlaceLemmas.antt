-- How the place moves along a word.
use Rattle.std.proofs.Common.{◌≡◌, ℕ, ◌+◌, ◌≤◌, Bool, true, false, not, ◌&&◌, ◌||◌, List, [], ◌∷◌, length, take, drop, refl, ap, arith}
use Rattle.std.specs.Prelude.{◌==◌, fold, if◌then◌else◌}
use Rattle.std.specs.List.{list_all}
use Rattle.std.proofs.Math.Seq.{take-add}
use Rattle.std.proofs.lemmas.List.{length-take-le}
use Rattle.std.proofs.lemmas.List.Sums.{fold-append}
use Rattle.std.proofs.lemmas.Bool.Decides.{nat_tests}
use Rattle.qpu_token.specs.declared.piece.Shape.{Shape}
use Rattle.qpu_token.specs.declared.piece.Shape.TheVariants.{Blank, Comment, Name, Number, Sign, LineEnd}
use Rattle.qpu_token.specs.declared.place.Place.{Place}
use Rattle.qpu_text.specs.Bytes.{is_letter, is_digit, is_hex_digit, is_name_byte}
use Rattle.qpu_text.specs.Numbers.{is_run, is_hexadecimal}
use Rattle.qpu_token.specs.Words.{stays_in_line, is_sign, is_line_end, is_one_blank, is_word}
use Rattle.qpu_token.specs.Places.{next_place, first_place, place_at}
use Rattle.qpu_token.specs.Reading.{place_behind}

-- bytes that stay in the line
along : (place : Place) (word : List ℕ) → list_all stays_in_line word ≡ true → fold next_place place word ≡ record { line = place.line; column = place.column + length word }
along place [] stays = ap (λ c. record { line = place.line; column = c }) (omega arith)
along place (byte ∷ rest) stays =
    let here : (byte == 10) ≡ false = grind (arith, stays) in
    let later : list_all stays_in_line rest ≡ true = grind (arith, stays) in
    rw (here, along (record { line = place.line; column = place.column + 1 }) rest later)
    (ap (λ c. record { line = place.line; column = c }) (omega arith))

weaker : (p q : ℕ → Bool) (xs : List ℕ) → ((x : ℕ) → p x ≡ true → q x ≡ true) → list_all p xs ≡ true → list_all q xs ≡ true
weaker p q [] each all = refl
weaker p q (x ∷ xs) each all =
    let here : p x ≡ true = grind (arith, all) in
    let later : list_all p xs ≡ true = grind (arith, all) in
    rw (each x here, weaker p q xs each later) refl

run_stays : (first others : ℕ → Bool) (word : List ℕ) → ((b : ℕ) → first b ≡ true → stays_in_line b ≡ true) → ((b : ℕ) → others b ≡ true → stays_in_line b ≡ true) → is_run first others word ≡ true → list_all stays_in_line word ≡ true
run_stays first others [] head among run = refl
run_stays first others (byte ∷ rest) head among run =
    let here : first byte ≡ true = grind (arith, run) in
    let later : list_all others rest ≡ true = grind (arith, run) in
    rw (head byte here, weaker others stays_in_line rest among later) refl

name_stays : (b : ℕ) → is_name_byte b ≡ true → stays_in_line b ≡ true
name_stays b t = grind (arith, nat_tests, t)

letter_stays : (b : ℕ) → is_letter b ≡ true → stays_in_line b ≡ true
letter_stays b t = grind (arith, nat_tests, t)

digit_stays : (b : ℕ) → is_digit b ≡ true → stays_in_line b ≡ true
digit_stays b t = grind (arith, nat_tests, t)

hex_stays : (b : ℕ) → is_hex_digit b ≡ true → stays_in_line b ≡ true
hex_stays b t = grind (arith, nat_tests, t)

hexadecimal_stays : (word : List ℕ) → is_hexadecimal word ≡ true → list_all stays_in_line word ≡ true
hexadecimal_stays [] t = refl
hexadecimal_stays (a ∷ []) t = cc
hexadecimal_stays (a ∷ b ∷ digits) t =
    let zero_is : (a == 48) ≡ true = grind (arith, t) in
    let x_is : (b == 120) ≡ true = grind (arith, t) in
    let run : is_run is_hex_digit is_hex_digit digits ≡ true = grind (arith, t) in
    let p : stays_in_line a ≡ true = grind (arith, nat_tests, zero_is) in
    let q : stays_in_line b ≡ true = grind (arith, nat_tests, x_is) in
    rw (p, q) (run_stays is_hex_digit is_hex_digit digits hex_stays hex_stays run)

number_stays : (dotted : Bool) (word : List ℕ) (a b : Bool) → is_run is_digit is_digit word ≡ a → is_hexadecimal word ≡ b → (not dotted && (a || b)) ≡ true → list_all stays_in_line word ≡ true
number_stays dotted word true b d h t = run_stays is_digit is_digit word digit_stays digit_stays d
number_stays dotted word false true d h t = hexadecimal_stays word h
number_stays true word false false d h t = cc
number_stays false word false false d h t = cc

sign_stays : (word : List ℕ) → is_sign word ≡ true → list_all stays_in_line word ≡ true
sign_stays [] t = refl
sign_stays (a ∷ []) t = grind (arith, nat_tests, t)
sign_stays (a ∷ b ∷ []) t = grind (arith, nat_tests, t)
sign_stays (a ∷ b ∷ c ∷ rest) t = cc

blank_stays : (word : List ℕ) → is_one_blank word ≡ true → list_all stays_in_line word ≡ true
blank_stays [] t = refl
blank_stays (a ∷ []) t = grind (arith, nat_tests, t)
blank_stays (a ∷ b ∷ rest) t = cc

end_moves : (place : Place) (word : List ℕ) → is_line_end word ≡ true → fold next_place place word ≡ record { line = place.line + 1; column = 1 }
end_moves place [] t = cc
end_moves place (a ∷ []) t = rw t refl
end_moves place (a ∷ b ∷ []) t =
    let cr : (a == 10) ≡ false = grind (arith, nat_tests, t) in
    let lf : (b == 10) ≡ true = grind (arith, t) in
    rw (cr, lf) refl
end_moves place (a ∷ b ∷ c ∷ rest) t = cc

-- the place behind a word
word_moves : (dotted : Bool) (place : Place) (shape : Shape) (word : List ℕ) → is_word dotted shape word ≡ true → fold next_place place word ≡ place_behind place shape word
word_moves dotted place Blank word t = along place word (blank_stays word t)
word_moves dotted place Comment word t =
    along place word (run_stays (λ byte. byte == 35) stays_in_line word (λ b e. grind (arith, nat_tests, e)) (λ b e. e) t)
word_moves true place Name word t = along place word (run_stays is_name_byte is_name_byte word name_stays name_stays t)
word_moves false place Name word t = along place word (run_stays is_letter is_name_byte word letter_stays name_stays t)
word_moves dotted place Number word t = along place word (number_stays dotted word (is_run is_digit is_digit word) (is_hexadecimal word) refl refl t)
word_moves dotted place Sign word t = along place word (sign_stays word t)
word_moves dotted place LineEnd word t = end_moves place word t

-- the place behind a word of the text
pub place_on : (text : List ℕ) (dotted : Bool) (at n : ℕ) (shape : Shape) → is_word dotted shape (take n (drop at text)) ≡ true → place_at text (at + n) ≡ place_behind (place_at text at) shape (take n (drop at text))
unfolding place_at
place_on text dotted at n shape t =
    rw (take-add at n text, fold-append next_place first_place (take at text) (take n (drop at text)))
    (word_moves dotted (fold next_place first_place (take at text)) shape (take n (drop at text)) t)

-- lines and columns are no more than bytes
small_from : (place : Place) (word : List ℕ) → ((fold next_place place word).line ≤ place.line + length word) × ((fold next_place place word).column ≤ place.column + length word + 1)
small_from place [] = (omega arith, omega arith)
small_from place (byte ∷ rest) = by_byte (byte == 10) (λ next. small_from next rest)
  where
    by_byte : (b : Bool) → ((next : Place) → ((fold next_place next rest).line ≤ next.line + length rest) × ((fold next_place next rest).column ≤ next.column + length rest + 1)) → ((fold next_place (if b then record { line = place.line + 1; column = 1 } else record { line = place.line; column = place.column + 1 }) rest).line ≤ place.line + length (byte ∷ rest)) × ((fold next_place (if b then record { line = place.line + 1; column = 1 } else record { line = place.line; column = place.column + 1 }) rest).column ≤ place.column + length (byte ∷ rest) + 1)
    by_byte true later = let h = later (record { line = place.line + 1; column = 1 }) in (omega arith, omega arith)
    by_byte false later = let h = later (record { line = place.line; column = place.column + 1 }) in (omega arith, omega arith)

pub place_small : (text : List ℕ) (at : ℕ) → at ≤ length text → ((place_at text at).line ≤ at + 1) × ((place_at text at).column ≤ at + 2)
unfolding place_at
place_small text at inside =
    let h = small_from first_place (take at text) in
    let long : length (take at text) ≡ at = length-take-le at text inside in
    (omega arith, omega arith)
