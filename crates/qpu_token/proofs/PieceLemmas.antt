-- The piece that the first bytes tell is the longest word that begins there; where they tell none, no
-- word begins.
use Rattle.std.proofs.Common.{◌≡◌, ℕ, zero, suc, ◌+◌, ◌<◌, ◌≤◌, Bool, true, false, ◌&&◌, ◌||◌, List, [], ◌∷◌, length, take, refl, sym, arith}
use Rattle.std.specs.Prelude.{◌==◌, nat_eq, nat_lt, codes, if◌then◌else◌}
use Rattle.std.specs.List.{prefix_len, list_all, starts_with}
use Rattle.std.proofs.lemmas.List.{length-take-le}
use Rattle.std.proofs.lemmas.List.Sums.{prefix_len-le-length}
use Rattle.std.proofs.lemmas.Bool.Decides.{nat_tests}
use Rattle.qpu_token.specs.declared.piece.Shape.TheVariants.{Blank, Comment, Name, Number, Sign, LineEnd}
use Rattle.qpu_text.specs.Bytes.{is_letter, is_digit, is_hex_digit, is_name_byte, is_blank}
use Rattle.qpu_text.specs.Numbers.{is_run, is_hexadecimal, digits_length, hex_length}
use Rattle.qpu_token.specs.Words.{is_sign_byte, stays_in_line, is_sign, is_line_end, is_one_blank, is_word}
use Rattle.qpu_token.specs.Pieces.{comment_length, name_length, number_length}
use Rattle.qpu_token.specs.Tokens.{Begins}
use Rattle.qpu_text.proofs.NumberLemmas.{all_in_run}
use Rattle.qpu_token.proofs.RunLemmas.{none_longer, run_word, run_longest, run_begins}

-- names

pub name_begins : (dotted : Bool) (byte : ℕ) (more : List ℕ) → (is_letter byte || (dotted && is_digit byte)) ≡ true → Begins dotted Name (name_length (byte ∷ more)) (byte ∷ more)
name_begins true byte more t = run_begins true Name is_name_byte is_name_byte byte more (λ word. refl) t t
name_begins false byte more t =
    let letter : is_letter byte ≡ true = grind (arith, t) in
    let among : is_name_byte byte ≡ true = grind (arith, letter) in
    run_begins false Name is_letter is_name_byte byte more (λ word. refl) letter among

-- comments

pub comment_begins : (dotted : Bool) (byte : ℕ) (more : List ℕ) → (byte == 35) ≡ true → Begins dotted Comment (comment_length (byte ∷ more)) (byte ∷ more)
comment_begins dotted byte more t =
    run_begins dotted Comment (λ b. b == 35) stays_in_line byte more (λ word. refl) t (grind (arith, nat_tests))

-- numbers

decimal_begins : (byte : ℕ) (more : List ℕ) → is_digit byte ≡ true → ((m : ℕ) → is_hexadecimal (take m (byte ∷ more)) ≡ false) → Begins false Number (digits_length (byte ∷ more)) (byte ∷ more)
decimal_begins byte more digit no_hex = record {
  inside = prefix_len-le-length is_digit (byte ∷ more);
  word = rw (run_word is_digit is_digit byte more digit digit) refl;
  longest = λ m past inside. rw (run_longest is_digit is_digit byte more digit m past inside, no_hex m) refl;
}

run_same : (p : ℕ → Bool) (xs : List ℕ) → 0 < length xs → is_run p p xs ≡ list_all p xs
run_same p [] some = absurd (omega arith)
run_same p (x ∷ xs) some = refl

suc_suc : (k : ℕ) → 2 + k ≡ suc (suc k)
suc_suc k = omega arith

hex_word : (rest : List ℕ) (k : ℕ) → 0 < k → k ≤ length rest → k ≡ hex_length rest → is_word false Number (take (suc (suc k)) (48 ∷ 120 ∷ rest)) ≡ true
hex_word rest k some inside is =
    let long : 0 < length (take k rest) = omega (arith, length-take-le k rest inside) in
    rw (run_same is_hex_digit (take k rest) long, is) (all_in_run is_hex_digit rest)

hex_longest : (rest : List ℕ) → 0 < hex_length rest → (m : ℕ) → suc (suc (hex_length rest)) < m → m ≤ length (48 ∷ 120 ∷ rest) → is_word false Number (take m (48 ∷ 120 ∷ rest)) ≡ false
hex_longest rest some zero past inside = absurd (omega arith)
hex_longest rest some (suc zero) past inside = absurd (omega arith)
hex_longest rest some (suc (suc m)) past inside =
    let low : m ≤ length rest = omega arith in
    let long : 0 < length (take m rest) = omega (arith, length-take-le m rest low) in
    rw (run_same is_hex_digit (take m rest) long) (none_longer is_hex_digit rest m (omega arith) low)

hex_begins : (rest : List ℕ) → 0 < hex_length rest → Begins false Number (2 + hex_length rest) (48 ∷ 120 ∷ rest)
hex_begins rest some =
    let most = prefix_len-le-length is_hex_digit rest in
    rw suc_suc
    (record {
      inside = omega arith;
      word = hex_word rest (hex_length rest) some most refl;
      longest = hex_longest rest some;
    })

-- where no hexadecimal digit begins, no run of them does
no_run : (p : ℕ → Bool) (xs : List ℕ) (k : ℕ) → prefix_len p xs ≡ 0 → is_run p p (take k xs) ≡ false
no_run p xs zero none = refl
no_run p [] (suc k) none = refl
no_run p (x ∷ xs) (suc k) none = rw (head_fails p x xs none) refl
  where
    head_fails : (p : ℕ → Bool) (x : ℕ) (xs : List ℕ) → prefix_len p (x ∷ xs) ≡ 0 → p x ≡ false
    head_fails p x xs none = grind (arith, none)

no_hex : (a b : ℕ) (rest : List ℕ) → ((a == 48) && (b == 120) && nat_lt 0 (hex_length rest)) ≡ false → (m : ℕ) → is_hexadecimal (take m (a ∷ b ∷ rest)) ≡ false
no_hex a b rest t zero = refl
no_hex a b rest t (suc zero) = refl
no_hex a b rest t (suc (suc k)) = by_front ((a == 48) && (b == 120)) (hex_length rest) refl t
  where
    by_front : (front : Bool) (n : ℕ) → n ≡ hex_length rest → (front && nat_lt 0 n) ≡ false → (front && is_run is_hex_digit is_hex_digit (take k rest)) ≡ false
    by_front false n is t = refl
    by_front true zero is t = no_run is_hex_digit rest k (sym is)
    by_front true (suc n) is t = let some : nat_lt 0 (suc n) ≡ true = grind (arith, nat_tests) in cc

pub number_begins : (byte : ℕ) (more : List ℕ) → is_digit byte ≡ true → Begins false Number (number_length (byte ∷ more)) (byte ∷ more)
number_begins byte [] digit = decimal_begins byte [] digit one
  where
    one : (m : ℕ) → is_hexadecimal (take m (byte ∷ [])) ≡ false
    one zero = refl
    one (suc zero) = refl
    one (suc (suc m)) = refl
number_begins byte (b ∷ rest) digit = by_test ((byte == 48) && (b == 120) && nat_lt 0 (hex_length rest)) refl
  where
    as_zero : byte ≡ 48 → b ≡ 120 → 0 < hex_length rest → Begins false Number (2 + hex_length rest) (byte ∷ b ∷ rest)
    as_zero p q some = rw (p, q) (hex_begins rest some)

    by_test : (t : Bool) → ((byte == 48) && (b == 120) && nat_lt 0 (hex_length rest)) ≡ t → Begins false Number (if t then 2 + hex_length rest else digits_length (byte ∷ b ∷ rest)) (byte ∷ b ∷ rest)
    by_test true e = as_zero (grind (arith, nat_tests, e)) (grind (arith, nat_tests, e)) (grind (arith, nat_tests, e))
    by_test false e = decimal_begins byte (b ∷ rest) digit (no_hex byte b rest e)

-- blanks

pub blank_begins : (dotted : Bool) (byte : ℕ) (more : List ℕ) → is_blank byte ≡ true → Begins dotted Blank 1 (byte ∷ more)
blank_begins dotted byte more t = record {
  inside = omega arith;
  word = t;
  longest = λ m past inside. longer m more past inside;
}
  where
    longer : (m : ℕ) (more : List ℕ) → 1 < m → m ≤ length (byte ∷ more) → is_one_blank (take m (byte ∷ more)) ≡ false
    longer zero more past inside = absurd (omega arith)
    longer (suc zero) more past inside = absurd (omega arith)
    longer (suc (suc m)) [] past inside = absurd (omega arith)
    longer (suc (suc m)) (b ∷ more) past inside = refl

-- line ends and signs

pub feed_begins : (dotted : Bool) (byte : ℕ) (more : List ℕ) → (byte == 10) ≡ true → Begins dotted LineEnd 1 (byte ∷ more)
feed_begins dotted byte more t = record {
  inside = omega arith;
  word = t;
  longest = λ m past inside. longer m more past inside;
}
  where
    longer : (m : ℕ) (more : List ℕ) → 1 < m → m ≤ length (byte ∷ more) → is_line_end (take m (byte ∷ more)) ≡ false
    longer zero more past inside = absurd (omega arith)
    longer (suc zero) more past inside = absurd (omega arith)
    longer (suc (suc m)) [] past inside = absurd (omega arith)
    longer (suc (suc zero)) (b ∷ more) past inside = grind (arith, nat_tests, t)
    longer (suc (suc (suc m))) (b ∷ []) past inside = absurd (omega arith)
    longer (suc (suc (suc m))) (b ∷ c ∷ more) past inside = refl

-- no word of these shapes has three bytes
no_three_ends : (m : ℕ) (rest : List ℕ) → 2 < m → m ≤ length rest → is_line_end (take m rest) ≡ false
no_three_ends m [] past inside = absurd (omega arith)
no_three_ends m (a ∷ []) past inside = absurd (omega arith)
no_three_ends m (a ∷ b ∷ []) past inside = absurd (omega arith)
no_three_ends zero (a ∷ b ∷ c ∷ rest) past inside = absurd (omega arith)
no_three_ends (suc zero) (a ∷ b ∷ c ∷ rest) past inside = absurd (omega arith)
no_three_ends (suc (suc zero)) (a ∷ b ∷ c ∷ rest) past inside = absurd (omega arith)
no_three_ends (suc (suc (suc m))) (a ∷ b ∷ c ∷ rest) past inside = refl

no_three_signs : (m : ℕ) (rest : List ℕ) → 2 < m → m ≤ length rest → is_sign (take m rest) ≡ false
no_three_signs m [] past inside = absurd (omega arith)
no_three_signs m (a ∷ []) past inside = absurd (omega arith)
no_three_signs m (a ∷ b ∷ []) past inside = absurd (omega arith)
no_three_signs zero (a ∷ b ∷ c ∷ rest) past inside = absurd (omega arith)
no_three_signs (suc zero) (a ∷ b ∷ c ∷ rest) past inside = absurd (omega arith)
no_three_signs (suc (suc zero)) (a ∷ b ∷ c ∷ rest) past inside = absurd (omega arith)
no_three_signs (suc (suc (suc m))) (a ∷ b ∷ c ∷ rest) past inside = refl

pub pair_ends : (dotted : Bool) (rest : List ℕ) → starts_with nat_eq rest (codes "\r\n") ≡ true → Begins dotted LineEnd 2 rest
pair_ends dotted [] t = cc
pair_ends dotted (a ∷ []) t = grind (arith, t)
pair_ends dotted (a ∷ b ∷ rest) t = record {
  inside = omega arith;
  word = grind (arith, nat_tests, t);
  longest = λ m past inside. no_three_ends m (a ∷ b ∷ rest) past inside;
}

pub pair_signs : (dotted : Bool) (rest : List ℕ) → (starts_with nat_eq rest (codes "<<") || starts_with nat_eq rest (codes ">>")) ≡ true → Begins dotted Sign 2 rest
pair_signs dotted [] t = cc
pair_signs dotted (a ∷ []) t = grind (arith, t)
pair_signs dotted (a ∷ b ∷ rest) t = record {
  inside = omega arith;
  word = grind (arith, nat_tests, t);
  longest = λ m past inside. no_three_signs m (a ∷ b ∷ rest) past inside;
}

pub sign_begins : (dotted : Bool) (byte : ℕ) (more : List ℕ) → is_sign_byte byte ≡ true → Begins dotted Sign 1 (byte ∷ more)
sign_begins dotted byte more t = record {
  inside = omega arith;
  word = t;
  longest = λ m past inside. longer m more past inside;
}
  where
    longer : (m : ℕ) (more : List ℕ) → 1 < m → m ≤ length (byte ∷ more) → is_sign (take m (byte ∷ more)) ≡ false
    longer zero more past inside = absurd (omega arith)
    longer (suc zero) more past inside = absurd (omega arith)
    longer (suc (suc m)) [] past inside = absurd (omega arith)
    longer (suc (suc zero)) (b ∷ more) past inside = grind (arith, nat_tests, t)
    longer (suc (suc (suc m))) (b ∷ []) past inside = absurd (omega arith)
    longer (suc (suc (suc m))) (b ∷ c ∷ more) past inside = refl
