-- What is spelled by a name of the language is a name in the text.
use Rattle.std.proofs.Common.{◌≡◌, ℕ, ◌+◌, ◌/◌, ◌%◌, ◌<◌, inl, inr, Bool, true, false, ◌||◌, List, [], ◌∷◌, refl, arith}
use Rattle.std.specs.Prelude.{nat_lt, if◌then◌else◌}
use Rattle.std.specs.List.{list_all}
use Rattle.std.proofs.lemmas.Bool.Decides.{nat_tests}
use Rattle.std.proofs.lemmas.List.Elements.{All-contains}
use Rattle.std.proofs.lemmas.List.Sums.{AllPass-from_list_all}
use Rattle.qpu_text.specs.Bytes.{is_letter, is_name_byte}
use Rattle.qpu_text.specs.Numbers.{is_run}
use Rattle.qpu_word.specs.declared.code.TheConstants.{ROWS}
use Rattle.qpu_word.specs.Names.{two_digits, row_name, read_name, write_name}
use Rattle.qpu_line.specs.declared.name.Name.{Name}
use Rattle.qpu_line.specs.declared.name.Name.TheVariants as name
use Rattle.qpu_line.specs.declared.name.Register.TheVariants.{RowA, RowB}
use Rattle.qpu_line.specs.Spellings.{spelling, register_spelling}
use Rattle.qpu_line.specs.Names.{other_names, IsRowName, IsNameOfLanguage}

-- names of pack and unpack modes, which begin with digits
abbrev pub is_packed : Name → Bool
is_packed (name.Pack n) = true
is_packed name.Replicate = true
is_packed _ = false

abbrev is_text : Name → Bool
is_text n = is_run is_name_byte is_name_byte (spelling n)

abbrev is_plain_text : Name → Bool
is_plain_text n = is_packed n || is_run is_letter is_name_byte (spelling n)

words_are_text : list_all is_text other_names ≡ true
unfolding spelling register_spelling read_name write_name row_name
words_are_text = refl

words_are_plain : list_all is_plain_text other_names ≡ true
unfolding spelling register_spelling read_name write_name row_name
words_are_plain = refl

digits_are_text : (n : ℕ) → n < 32 → list_all is_name_byte (two_digits n) ≡ true
digits_are_text n low = by_size (nat_lt n 10) refl
  where
    by_size : (b : Bool) → nat_lt n 10 ≡ b → list_all is_name_byte (if b then (48 + n) ∷ [] else (48 + n / 10) ∷ (48 + n % 10) ∷ []) ≡ true
    by_size true e = let one : is_name_byte (48 + n) ≡ true = grind (arith, nat_tests, e) in rw one refl
    by_size false e =
        let few : n / 10 < 4 = omega arith in
        let ones : n % 10 < 10 = omega arith in
        let ten : is_name_byte (48 + n / 10) ≡ true = grind (arith, nat_tests, few) in
        let one : is_name_byte (48 + n % 10) ≡ true = grind (arith, nat_tests, ones) in
        rw (ten, one) refl

row_is_plain : (n : Name) → IsRowName n → is_run is_letter is_name_byte (spelling n) ≡ true
unfolding spelling register_spelling read_name row_name
row_is_plain (name.Register (RowA n)) low =
    let row : nat_lt n ROWS ≡ true = grind (arith, nat_tests, low) in rw row (digits_are_text n low)
row_is_plain (name.Register (RowB n)) low =
    let row : nat_lt n ROWS ≡ true = grind (arith, nat_tests, low) in rw row (digits_are_text n low)
row_is_plain _ never = absurd never

weaker : (word : List ℕ) → is_run is_letter is_name_byte word ≡ true → is_run is_name_byte is_name_byte word ≡ true
weaker [] run = run
weaker (x ∷ xs) run = grind (arith, run)

pub name_text : (n : Name) → IsNameOfLanguage n → is_run is_name_byte is_name_byte (spelling n) ≡ true
name_text n (inl row) = weaker (spelling n) (row_is_plain n row)
name_text n (inr among) = All-contains (λ m. is_text m ≡ true) other_names n (AllPass-from_list_all is_text other_names words_are_text) among

by_or : (a b : Bool) → a ≡ false → (a || b) ≡ true → b ≡ true
by_or true b p t = cc
by_or false b p t = t

pub plain_text : (n : Name) → IsNameOfLanguage n → is_packed n ≡ false → is_run is_letter is_name_byte (spelling n) ≡ true
plain_text n (inl row) plain = row_is_plain n row
plain_text n (inr among) plain =
    by_or (is_packed n) (is_run is_letter is_name_byte (spelling n)) plain
    (All-contains (λ m. is_plain_text m ≡ true) other_names n (AllPass-from_list_all is_plain_text other_names words_are_plain) among)
