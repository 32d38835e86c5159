-- Numbers are read back from what is written of them.
use Rattle.std.proofs.Common.{◌≡◌, ℕ, zero, suc, ◌+◌, ◌*◌, ◌/◌, ◌%◌, ◌^◌, ◌<◌, ◌≤◌, Bool, true, false, ◌||◌, List, [], ◌∷◌, ◌++◌, length, refl, ◌∙◌, arith}
use Rattle.std.specs.Prelude.{nat_eq, nat_lt, decimal, codes, if◌then◌else◌}
use Rattle.std.specs.List.{list_all, starts_with}
use Rattle.std.proofs.lemmas.Bool.Decides.{nat_tests}
use Rattle.std.proofs.Math.Nat.{pow-suc}
use Rattle.std.proofs.lemmas.Fmt.{decimal_by_steps}
use Rattle.std.proofs.lemmas.List.Sums.{fold-append}
use Rattle.std.proofs.lemmas.List.Folds.{list_all-append}
use Rattle.qpu_text.specs.Bytes.{is_digit, is_hex_digit}
use Rattle.qpu_text.specs.Numbers.{is_run, is_hexadecimal, digit_of, value_in, number_value}
use Rattle.qpu_text.specs.Digits.{hex_digit, hex_digits}
use Rattle.qpu_text.proofs.DigitLemmas.{digits_long, digits_pass}

-- decimals

-- what holds of the digits of a number
record IsDecimal (n : ℕ) (ds : List ℕ) : Type 0 where
  run : is_run is_digit is_digit ds ≡ true
  value : value_in 10 ds ≡ n

one_digit : (n : ℕ) → n < 10 → IsDecimal n ((48 + n) ∷ [])
one_digit n low =
    let digit : is_digit (48 + n) ≡ true = grind (arith, nat_tests) in
    record { run = rw digit refl; value = rw digit (omega arith) }

run_more : (ds : List ℕ) (d : ℕ) → is_run is_digit is_digit ds ≡ true → is_digit d ≡ true → is_run is_digit is_digit (ds ++ d ∷ []) ≡ true
run_more [] d run digit = cc
run_more (x ∷ xs) d run digit =
    let first : is_digit x ≡ true = grind (arith, run) in
    let others : list_all is_digit xs ≡ true = grind (arith, run) in
    rw (first, list_all-append is_digit xs (d ∷ []), others, digit) refl

digit_more : (n : ℕ) (ds : List ℕ) → 10 ≤ n → IsDecimal (n / 10) ds → IsDecimal n (ds ++ (48 + n % 10) ∷ [])
digit_more n ds high h =
    let digit : is_digit (48 + n % 10) ≡ true = grind (arith, nat_tests) in
    record {
      run = run_more ds (48 + n % 10) h.run digit;
      value = rw (fold-append (λ value digit. value * 10 + digit_of digit) 0 ds ((48 + n % 10) ∷ []), h.value, digit) (omega arith);
    }

is_decimal : (n : ℕ) → n < 2 ^ 64 → IsDecimal n (decimal n)
is_decimal = decimal_by_steps IsDecimal one_digit digit_more

pub decimal_run : (n : ℕ) → n < 2 ^ 64 → (is_run is_digit is_digit (decimal n) || is_hexadecimal (decimal n)) ≡ true
decimal_run n low = rw (is_decimal n low).run refl

no_prefix : (ds : List ℕ) → is_run is_digit is_digit ds ≡ true → starts_with nat_eq ds (codes "0x") ≡ false
no_prefix [] run = cc
no_prefix (a ∷ []) run = grind (arith, nat_tests)
no_prefix (a ∷ b ∷ ds) run = grind (arith, nat_tests, run)

pub decimal_value : (n : ℕ) → n < 2 ^ 64 → number_value (decimal n) ≡ n
decimal_value n low = rw (no_prefix (decimal n) (is_decimal n low).run) (is_decimal n low).value

-- hexadecimal numbers

hex_is_digit : (d : ℕ) → d < 16 → is_hex_digit (hex_digit d) ≡ true
hex_is_digit d low = by_size (nat_lt d 10) refl
  where
    by_size : (b : Bool) → nat_lt d 10 ≡ b → is_hex_digit (if b then d + 48 else d + 87) ≡ true
    by_size true e = grind (arith, nat_tests, e)
    by_size false e = grind (arith, nat_tests, e)

digit_value : (d : ℕ) → d < 16 → digit_of (hex_digit d) ≡ d
digit_value d low = by_size (nat_lt d 10) refl
  where
    by_size : (b : Bool) → nat_lt d 10 ≡ b → digit_of (if b then d + 48 else d + 87) ≡ d
    by_size true e = grind (arith, nat_tests, e)
    by_size false e = grind (arith, nat_tests, e)

pub hex_value : (k n : ℕ) → n < 16 ^ k → value_in 16 (hex_digits k n) ≡ n
unfolding hex_digits
hex_value zero n low = omega arith
hex_value (suc k) n low =
    let more : 16 ^ suc k ≡ 16 ^ k * 16 = pow-suc 16 k in
    let front : value_in 16 (hex_digits k (n / 16)) ≡ n / 16 = hex_value k (n / 16) (omega arith) in
    fold-append (λ value digit. value * 16 + digit_of digit) 0 (hex_digits k (n / 16)) (hex_digit (n % 16) ∷ [])
    ∙ rw (front, digit_value (n % 16) (omega arith)) (omega arith)

-- digits that aren't none
some_digits : (ds : List ℕ) → list_all is_hex_digit ds ≡ true → 0 < length ds → is_run is_hex_digit is_hex_digit ds ≡ true
some_digits [] all some = absurd (omega arith)
some_digits (d ∷ ds) all some = all

hexadecimal_run : (ds : List ℕ) → list_all is_hex_digit ds ≡ true → 0 < length ds → is_hexadecimal (48 ∷ 120 ∷ ds) ≡ true
hexadecimal_run ds all some = some_digits ds all some

either : (a b : Bool) → b ≡ true → (a || b) ≡ true
either true b t = refl
either false b t = t

pub hex_run : (k n : ℕ) → 0 < k
    → (is_run is_digit is_digit (codes "0x" ++ hex_digits k n) || is_hexadecimal (codes "0x" ++ hex_digits k n)) ≡ true
hex_run k n some =
    let long = digits_long k n in
    either (is_run is_digit is_digit (codes "0x" ++ hex_digits k n)) (is_hexadecimal (codes "0x" ++ hex_digits k n))
    (hexadecimal_run (hex_digits k n) (digits_pass is_hex_digit hex_is_digit k n) (omega arith))

pub hex_number : (k n : ℕ) → n < 16 ^ k → number_value (codes "0x" ++ hex_digits k n) ≡ n
hex_number k n low = hex_value k n low
