-- Every name of the language is read back from its spelling.
use Rattle.std.proofs.Common.{◌≡◌, ℕ, ◌+◌, ◌*◌, ◌/◌, ◌%◌, ◌<◌, inl, inr, Bool, true, false, not, ◌&&◌, List, [], ◌∷◌, get_or, Option, Some, None, refl, ap, sym, arith}
use Rattle.std.specs.Prelude.{nat_eq, nat_lt, Contains, All, is_some}
use Rattle.std.specs.List.{list_all}
use Rattle.std.specs.Cmp.Lexicographic.{pointwise}
use Rattle.std.proofs.lemmas.Cmp.{nat_list_eq_equiv}
use Rattle.std.proofs.lemmas.Bool.Decides.{nat_tests}
use Rattle.std.proofs.lemmas.List.Elements.{All-cons, All-contains}
use Rattle.std.proofs.lemmas.List.Sums.{AllPass-from_list_all}
use Rattle.qpu_word.specs.declared.code.TheConstants.{ROWS}
use Rattle.qpu_word.specs.Names.{two_digits, row_name, read_name, write_name}
use Rattle.qpu_line.specs.declared.name.Name.{Name}
use Rattle.qpu_line.specs.declared.name.Name.TheVariants.{Register as RegisterName}
use Rattle.qpu_line.specs.declared.name.Register.{Register}
use Rattle.qpu_line.specs.declared.name.Register.TheVariants.{RowA, RowB}
use Rattle.qpu_line.specs.declared.name.TheConstants.{WORDS}
use Rattle.qpu_line.specs.Spellings.{spelling, register_spelling}
use Rattle.qpu_line.specs.Names.{row_number, register_of, found_in, name_of, IsNameOfLanguage}

-- rows

digits_back : (n : ℕ) → n < 32 → row_number (two_digits n) ≡ Some n
digits_back n low = by_size (nat_lt n 10) refl
  where
    by_size : (b : Bool) → nat_lt n 10 ≡ b → row_number (two_digits n) ≡ Some n
    by_size true e = rw e (grind (arith, nat_tests, e))
    by_size false e =
        let tens : n ≡ 10 * (n / 10) + n % 10 = omega arith in
        let ones : n % 10 < 10 = omega arith in
        rw e (grind (arith, nat_tests, e, tens, ones))

row_a : (n : ℕ) → n < 32 → register_of (spelling (RegisterName (RowA n))) ≡ Some (RowA n)
unfolding register_of spelling register_spelling read_name row_name
row_a n low =
    let row : nat_lt n ROWS ≡ true = grind (arith, nat_tests) in
    rw (row, digits_back n low) refl

row_b : (n : ℕ) → n < 32 → register_of (spelling (RegisterName (RowB n))) ≡ Some (RowB n)
unfolding register_of spelling register_spelling read_name row_name
row_b n low =
    let row : nat_lt n ROWS ≡ true = grind (arith, nat_tests) in
    rw (row, digits_back n low) refl

row_back : (n : Name) (r : Register) → register_of (spelling n) ≡ Some r → n ≡ RegisterName r → name_of (spelling n) ≡ Some n
unfolding name_of
row_back n r is same = rw is (ap Some (sym same))

-- other names

abbrev is_spelled_as : Name → Name → Bool
is_spelled_as a b = pointwise nat_eq (spelling a) (spelling b)

-- no two names of a list have one spelling
is_distinct : List Name → Bool
is_distinct [] = true
is_distinct (n ∷ ns) = list_all (λ other. not (is_spelled_as n other)) ns && is_distinct ns

-- then each is the first that has its own
abbrev IsFoundIn : List Name → Name → Type 0
IsFoundIn ns n = found_in ns (spelling n) ≡ Some n

both : (a b : Bool) → (a && b) ≡ true → (a ≡ true) × (b ≡ true)
both true b t = (refl, t)
both false b t = cc

fails : (b : Bool) → not b ≡ true → b ≡ false
fails true t = cc
fails false t = refl

-- what is found is found behind a name with another spelling
found_behind : (n : Name) (ns : List Name) → list_all (λ other. not (is_spelled_as n other)) ns ≡ true → All (IsFoundIn ns) ns
    → All (IsFoundIn (n ∷ ns)) ns
found_behind n ns others all k d low =
    let other : is_spelled_as n (get_or ns k d) ≡ false =
    fails _ (AllPass-from_list_all (λ other. not (is_spelled_as n other)) ns others k d low) in
    rw other (all k d low)

found_all : (ns : List Name) → is_distinct ns ≡ true → All (IsFoundIn ns) ns
unfolding is_distinct
found_all [] t = λ k d low. absurd (omega arith)
found_all (n ∷ ns) t =
    let parts = both (list_all (λ other. not (is_spelled_as n other)) ns) (is_distinct ns) t in
    All-cons (IsFoundIn (n ∷ ns)) n ns (rw (nat_list_eq_equiv.refl (spelling n)) refl)
    (found_behind n ns parts.0 (found_all ns parts.1))

words_distinct : is_distinct WORDS ≡ true
unfolding is_distinct spelling register_spelling read_name write_name row_name
words_distinct = refl

-- none of them is read as a row
abbrev is_no_row : Name → Bool
is_no_row n = not (is_some (register_of (spelling n)))

words_no_rows : list_all is_no_row WORDS ≡ true
unfolding register_of spelling register_spelling read_name write_name row_name
words_no_rows = refl

no_row : (n : Name) → Contains WORDS n → register_of (spelling n) ≡ None
no_row n among =
    none (register_of (spelling n))
    (All-contains (λ m. is_no_row m ≡ true) WORDS n (AllPass-from_list_all is_no_row WORDS words_no_rows) among)
  where
    none : {X : Type 0} (o : Option X) → not (is_some o) ≡ true → o ≡ None
    none None t = refl
    none (Some x) t = cc

word_back : (n : Name) → Contains WORDS n → name_of (spelling n) ≡ Some n
unfolding name_of
word_back n among = rw (no_row n among) (All-contains (IsFoundIn WORDS) WORDS n (found_all WORDS words_distinct) among)

pub names_back : (n : Name) → IsNameOfLanguage n → name_of (spelling n) ≡ Some n
names_back n (inr among) = word_back n among
names_back (RegisterName (RowA n)) (inl low) = row_back (RegisterName (RowA n)) (RowA n) (row_a n low) refl
names_back (RegisterName (RowB n)) (inl low) = row_back (RegisterName (RowB n)) (RowB n) (row_b n low) refl
names_back _ (inl never) = absurd never
