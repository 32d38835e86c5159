-- Numbers that are cut off above a bound, digit by digit, and how large so many digits can be.
use Rattle.std.proofs.Common.{◌≡◌, ◌≢◌, ℕ, zero, suc, ◌+◌, ◌*◌, ◌^◌, ◌<◌, ◌≤◌, Bool, true, false, List, [], ◌∷◌, length, get_or, take, min, Some, None, refl, sym, ap, ◌∙◌, arith, pow-suc, mul_assoc, one-add}
use Rattle.std.specs.Prelude.{fold, nat_le, if◌then◌else◌}
use Rattle.std.specs.List.{list_all, prefix_len}
use Rattle.std.proofs.lemmas.Bool.{and_parts}
use Rattle.std.proofs.lemmas.Bool.Decides.{nat_tests}
use Rattle.std.proofs.lemmas.List.Sums.{fold_more}
use Rattle.std.proofs.lemmas.Nat.{mul-le}
use Rattle.qpu_text.specs.Bytes.{is_hex_digit}
use Rattle.qpu_text.specs.Numbers.{digit_of, value_in, within}

-- what is cut off stays cut off, whatever the base
large_step : (a b d most : ℕ) → most + 1 ≤ a → min ((most + 1) * b + d) (most + 1) ≡ min (a * b + d) (most + 1)
large_step a zero d most large = omega arith
large_step a (suc b) d most large =
    let one = mul-le (most + 1) 1 (most + 1) (suc b) (omega arith) (omega arith) in
    let other = mul-le (most + 1) (suc b) a (suc b) large (omega arith) in
    omega (arith, one, other)

cut_step : (a b d most : ℕ) → min (min a (most + 1) * b + d) (most + 1) ≡ min (a * b + d) (most + 1)
cut_step a b d most = by_order (nat_le a (most + 1)) refl
  where
    by_order : (small : Bool) → nat_le a (most + 1) ≡ small → min (min a (most + 1) * b + d) (most + 1) ≡ min (a * b + d) (most + 1)
    by_order true is = let same : min a (most + 1) ≡ a = grind (arith, nat_tests, is) in rw same refl
    by_order false is =
        let large : most + 1 ≤ a = grind (arith, nat_tests, is) in
        let cut : min a (most + 1) ≡ most + 1 = omega (arith, large) in
        rw cut (large_step a b d most large)

pub value_more : (most base : ℕ) (digits : List ℕ) (i : ℕ) → i < length digits
    → min (min (value_in base (take i digits)) (most + 1) * base + digit_of (get_or digits i 0)) (most + 1) ≡ min (value_in base (take (i + 1) digits)) (most + 1)
value_more most base digits i inside =
    let more = fold_more (λ value digit. value * base + digit_of digit) 0 digits i 0 inside in
    cut_step (value_in base (take i digits)) base (digit_of (get_or digits i 0)) most ∙ ap (λ v. min v (most + 1)) (sym more)

-- what is cut off is above the most, and all else within

pub is_above : (most v cut : ℕ) → cut ≡ min v (most + 1) → cut ≡ most + 1 → None ≡ within most v
is_above most v cut is end =
    let large : nat_le v most ≡ false = grind (arith, nat_tests) in
    rw large refl

pub is_within : (most v cut : ℕ) → cut ≡ min v (most + 1) → cut ≢ most + 1 → Some cut ≡ within most v
is_within most v cut is other =
    let small : v ≤ most = omega (arith, is, other) in
    let same : cut ≡ v = omega (arith, is, small) in
    let test : nat_le v most ≡ true = grind (arith, nat_tests, small) in
    rw (test, same) refl

-- where none is told, the number is above the most

above_by : (most v : ℕ) (small : Bool) → nat_le v most ≡ small → None ≡ (if small then Some v else None) → most < v
above_by most v true is e = absurd (cc)
above_by most v false is e = grind (arith, nat_tests, is)

pub within_none : (most v : ℕ) → None ≡ within most v → most < v
within_none most v e = above_by most v (nat_le v most) refl e

-- the longest run of bytes that pass a test is one

all_step : (p : ℕ → Bool) (x : ℕ) (xs : List ℕ) (b : Bool) → p x ≡ b → list_all p (take (prefix_len p xs) xs) ≡ true → list_all p (take (prefix_len p (x ∷ xs)) (x ∷ xs)) ≡ true
all_step p x xs true e rest = rw (e, one-add, e) rest
all_step p x xs false e rest = rw e refl

pub all_in_run : (p : ℕ → Bool) (xs : List ℕ) → list_all p (take (prefix_len p xs) xs) ≡ true
all_in_run p [] = refl
all_in_run p (x ∷ xs) = all_step p x xs (p x) refl (all_in_run p xs)

-- a hexadecimal digit is below 16
hex_small : (byte : ℕ) → is_hex_digit byte ≡ true → digit_of byte < 16
hex_small byte digit = grind (arith, nat_tests, digit)

digits_below : (v : ℕ) (digits : List ℕ) → list_all is_hex_digit digits ≡ true
    → fold (λ value digit. value * 16 + digit_of digit) v digits < 16 ^ length digits * (v + 1)
digits_below v [] all = omega arith
digits_below v (byte ∷ digits) all =
    let parts = and_parts (is_hex_digit byte) (list_all is_hex_digit digits) all in
    let small = hex_small byte parts.0 in
    let rest = digits_below (v * 16 + digit_of byte) digits parts.1 in
    let wide = mul-le (16 ^ length digits) (v * 16 + digit_of byte + 1) (16 ^ length digits) (16 * (v + 1)) (omega arith) (omega (arith, small)) in
    let same = mul_assoc (16 ^ length digits) 16 (v + 1) in
    rw (pow-suc 16 (length digits)) (omega (arith, rest, wide, same))

-- so many hexadecimal digits write no larger number
pub hex_value_below : (digits : List ℕ) → list_all is_hex_digit digits ≡ true → value_in 16 digits < 16 ^ length digits
hex_value_below digits all = omega (arith, digits_below 0 digits all)
