-- The longest word at a place is the one that was written there, where what is behind it ends it.
use Rattle.std.proofs.Common.{◌≡◌, ℕ, ◌+◌, Bool, true, false, ◌&&◌, ◌||◌, List, [], ◌∷◌, ◌++◌, length, get_or, refl, subst, ◌∙◌, arith}
use Rattle.std.specs.Prelude.{◌==◌, nat_lt, if◌then◌else◌}
use Rattle.std.specs.List.{prefix_len, list_all}
use Rattle.std.proofs.lemmas.Bool.Decides.{nat_tests}
use Rattle.qpu_token.specs.declared.piece.Shape.TheVariants.{Name as NameShape, Number as NumberShape}
use Rattle.qpu_token.specs.declared.before.Before.{Before}
use Rattle.qpu_text.specs.Bytes.{is_letter, is_digit, is_hex_digit, is_name_byte}
use Rattle.qpu_text.specs.Numbers.{is_run, is_hexadecimal, digits_length, hex_length}
use Rattle.qpu_token.specs.Pieces.{number_length}
use Rattle.qpu_token.specs.Tokens.{Begins}
use Rattle.qpu_token.specs.Written.{Item, Name, Number, Sign, Space, LineFeed, items_text, Ends, CanStand}
use Rattle.qpu_token.proofs.PieceLemmas.{name_begins, number_begins}

-- a run that what is behind it ends
prefix_whole : (p : ℕ → Bool) (xs ys : List ℕ) → list_all p xs ≡ true → prefix_len p ys ≡ 0 → prefix_len p (xs ++ ys) ≡ length xs
prefix_whole p [] ys all stops = stops
prefix_whole p (x ∷ xs) ys all stops =
    let here : p x ≡ true = grind (arith, all) in
    let later : list_all p xs ≡ true = grind (arith, all) in
    rw (here, prefix_whole p xs ys later stops) (omega arith)

-- what ends names ends runs of fewer bytes
stops_fewer : (p : ℕ → Bool) (xs : List ℕ) → ((b : ℕ) → p b ≡ true → is_name_byte b ≡ true) → prefix_len is_name_byte xs ≡ 0
    → prefix_len p xs ≡ 0
stops_fewer p [] fewer stops = refl
stops_fewer p (x ∷ xs) fewer stops = by_first (p x) refl
  where
    by_first : (b : Bool) → p x ≡ b → prefix_len p (x ∷ xs) ≡ 0
    by_first false e = rw e refl
    by_first true e = let longer : 1 + prefix_len is_name_byte xs ≡ 0 = rw (fewer x e) at stops in absurd (omega arith)

digits_are_fewer : (b : ℕ) → is_digit b ≡ true → is_name_byte b ≡ true
digits_are_fewer b t = grind (arith, nat_tests, t)

hex_digits_are_fewer : (b : ℕ) → is_hex_digit b ≡ true → is_name_byte b ≡ true
hex_digits_are_fewer b t = grind (arith, nat_tests, t)

pub item_stops : (items : List Item) (dotted : Bool) (b : Before) → Ends items → CanStand dotted b items
    → prefix_len is_name_byte (items_text items) ≡ 0
unfolding items_text
item_stops [] dotted b ends stand = refl
item_stops (Name word ∷ items) dotted b ends stand = absurd ends
item_stops (Number word ∷ items) dotted b ends stand = absurd ends
item_stops (Sign byte ∷ items) dotted b ends stand =
    let t = stand.0 in
    let other : is_name_byte byte ≡ false = grind (arith, nat_tests, t) in
    rw other refl
item_stops (Space ∷ items) dotted b ends stand = refl
item_stops (LineFeed ∷ items) dotted b ends stand = refl

-- names

name_letter : (dotted : Bool) (x : ℕ) (xs : List ℕ) → is_run (if dotted then is_name_byte else is_letter) is_name_byte (x ∷ xs) ≡ true
    → (is_letter x || (dotted && is_digit x)) ≡ true
name_letter true x xs run = grind (arith, run)
name_letter false x xs run = grind (arith, run)

name_bytes : (dotted : Bool) (x : ℕ) (xs : List ℕ) → is_run (if dotted then is_name_byte else is_letter) is_name_byte (x ∷ xs) ≡ true
    → list_all is_name_byte (x ∷ xs) ≡ true
name_bytes true x xs run = run
name_bytes false x xs run = grind (arith, run)

pub name_here : (dotted : Bool) (word rest : List ℕ) → is_run (if dotted then is_name_byte else is_letter) is_name_byte word ≡ true
    → prefix_len is_name_byte rest ≡ 0 → Begins dotted NameShape (length word) (word ++ rest)
name_here dotted [] rest run stops = cc
name_here dotted (x ∷ xs) rest run stops =
    subst (λ n. Begins dotted NameShape n (x ∷ (xs ++ rest))) (prefix_whole is_name_byte (x ∷ xs) rest (name_bytes dotted x xs run) stops)
    (name_begins dotted x (xs ++ rest) (name_letter dotted x xs run))

-- numbers

second_byte : (xs rest : List ℕ) → list_all is_digit xs ≡ true → prefix_len is_name_byte rest ≡ 0 → (get_or (xs ++ rest) 0 0 == 120) ≡ false
second_byte [] [] all stops = refl
second_byte [] (y ∷ ys) all stops = by_first (is_name_byte y) refl
  where
    by_first : (b : Bool) → is_name_byte y ≡ b → (y == 120) ≡ false
    by_first false e = grind (arith, nat_tests, e)
    by_first true e = let longer : 1 + prefix_len is_name_byte ys ≡ 0 = rw e at stops in absurd (omega arith)
second_byte (x ∷ xs) rest all stops = grind (arith, nat_tests, all)

digits_alone : (x : ℕ) (more : List ℕ) → (get_or more 0 0 == 120) ≡ false → number_length (x ∷ more) ≡ digits_length (x ∷ more)
digits_alone x [] t = refl
digits_alone x (b ∷ more) t =
    let no : ((x == 48) && (b == 120) && nat_lt 0 (hex_length more)) ≡ false = grind (arith, nat_tests, t) in
    rw no refl

decimal_here : (word rest : List ℕ) → is_run is_digit is_digit word ≡ true → prefix_len is_name_byte rest ≡ 0
    → Begins false NumberShape (length word) (word ++ rest)
decimal_here [] rest run stops = cc
decimal_here (x ∷ xs) rest run stops =
    let first : is_digit x ≡ true = grind (arith, run) in
    let others : list_all is_digit xs ≡ true = grind (arith, run) in
    let long : number_length (x ∷ (xs ++ rest)) ≡ length (x ∷ xs) =
    digits_alone x (xs ++ rest) (second_byte xs rest others stops)
    ∙ prefix_whole is_digit (x ∷ xs) rest run (stops_fewer is_digit rest digits_are_fewer stops) in
    subst (λ n. Begins false NumberShape n (x ∷ (xs ++ rest))) long (number_begins x (xs ++ rest) first)

hex_long : (digits rest : List ℕ) → is_run is_hex_digit is_hex_digit digits ≡ true → prefix_len is_name_byte rest ≡ 0
    → number_length (48 ∷ 120 ∷ (digits ++ rest)) ≡ length (48 ∷ 120 ∷ digits)
hex_long [] rest run stops = cc
hex_long (d ∷ ds) rest run stops =
    let long : hex_length (d ∷ (ds ++ rest)) ≡ length (d ∷ ds) =
    prefix_whole is_hex_digit (d ∷ ds) rest run (stops_fewer is_hex_digit rest hex_digits_are_fewer stops) in
    let some : nat_lt 0 (hex_length (d ∷ (ds ++ rest))) ≡ true = grind (arith, nat_tests, long) in
    rw some (omega (arith, long))

hex_here : (word rest : List ℕ) → is_hexadecimal word ≡ true → prefix_len is_name_byte rest ≡ 0
    → Begins false NumberShape (length word) (word ++ rest)
hex_here [] rest run stops = cc
hex_here (a ∷ []) rest run stops = cc
hex_here (a ∷ b ∷ digits) rest run stops =
    let p : a ≡ 48 = grind (arith, nat_tests, run) in
    let q : b ≡ 120 = grind (arith, nat_tests, run) in
    let digits_run : is_run is_hex_digit is_hex_digit digits ≡ true = grind (arith, run) in
    rw (p, q)
    (subst (λ n. Begins false NumberShape n (48 ∷ 120 ∷ (digits ++ rest))) (hex_long digits rest digits_run stops)
    (number_begins 48 (120 ∷ (digits ++ rest)) refl))

pub number_here : (word rest : List ℕ) → (is_run is_digit is_digit word || is_hexadecimal word) ≡ true → prefix_len is_name_byte rest ≡ 0
    → Begins false NumberShape (length word) (word ++ rest)
number_here word rest run stops = by_form (is_run is_digit is_digit word) refl run
  where
    by_form : (b : Bool) → is_run is_digit is_digit word ≡ b → (b || is_hexadecimal word) ≡ true → Begins false NumberShape (length word) (word ++ rest)
    by_form true e t = decimal_here word rest e stops
    by_form false e t = hex_here word rest t stops
