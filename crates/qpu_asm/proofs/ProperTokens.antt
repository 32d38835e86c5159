-- The names among a text's tokens are names of the language.
use Rattle.std.proofs.Common.{◌≡◌, ℕ, suc, ◌<◌, inl, inr, Bool, true, false, List, [], ◌∷◌, Option, Some, None, refl, arith}
use Rattle.std.specs.Prelude.{◌==◌, ◌&&◌, nat_le, nat_eq, slice_index, Contains, find, ◌⊎◌, option_map, IfSome, if◌then◌else◌}
use Rattle.std.specs.Cmp.Lexicographic.{pointwise}
use Rattle.std.proofs.lemmas.Bool.Decides.{nat_tests}
use Rattle.qpu_token.specs.declared.token.TokenKind.{TokenKind}
use Rattle.qpu_token.specs.declared.token.TokenKind.TheVariants as kind
use Rattle.qpu_token.specs.declared.token.Token.{Token}
use Rattle.qpu_token.specs.Tokens.{text_of}
use Rattle.qpu_line.specs.declared.name.Name.{Name}
use Rattle.qpu_line.specs.declared.name.Name.TheVariants.{Register as RegisterName}
use Rattle.qpu_line.specs.declared.name.Register.{Register}
use Rattle.qpu_line.specs.declared.name.Register.TheVariants.{RowA, RowB}
use Rattle.qpu_line.specs.Spellings.{spelling}
use Rattle.qpu_line.specs.Names.{row_number, register_of, found_in, row_or, name_of, IsRowName, IsNameOfLanguage}
use Rattle.qpu_line.specs.Symbols.{sign_of, name_symbol}
use Rattle.qpu_asm.specs.Placed.{symbol_of, Labels, placed_token}
use Rattle.qpu_asm.specs.Laws.{IsProperSymbol, IsProper}

-- rows

low_row : (digits : List ℕ) → IfSome (row_number digits) (λ n. n < 32)
low_row [] = tt
low_row (a ∷ []) = one (nat_le 48 a && nat_le a 57) refl
  where
    one : (b : Bool) → (nat_le 48 a && nat_le a 57) ≡ b → IfSome (row_number (a ∷ [])) (λ n. n < 32)
    one true e = rw e (grind (arith, nat_tests, e))
    one false e = rw e tt
low_row (a ∷ b ∷ []) = two (nat_le 49 a && nat_le a 50 && (nat_le 48 b && nat_le b 57)) ((a == 51) && (nat_le 48 b && nat_le b 49)) refl refl
  where
    two : (p q : Bool) → (nat_le 49 a && nat_le a 50 && (nat_le 48 b && nat_le b 57)) ≡ p → ((a == 51) && (nat_le 48 b && nat_le b 49)) ≡ q
        → IfSome (row_number (a ∷ b ∷ [])) (λ n. n < 32)
    two true q e f = rw e (grind (arith, nat_tests, e))
    two false true e f = rw (e, f) (grind (arith, nat_tests, f))
    two false false e f = rw (e, f) tt
low_row (a ∷ b ∷ c ∷ rest) = tt

-- a row that there is
abbrev IsRow : Register → Type 0
IsRow r = IsRowName (RegisterName r)

row_a : (o : Option ℕ) → IfSome o (λ n. n < 32) → IfSome (option_map RowA o) IsRow
row_a None low = tt
row_a (Some n) low = low

row_b : (o : Option ℕ) → IfSome o (λ n. n < 32) → IfSome (option_map RowB o) IsRow
row_b None low = tt
row_b (Some n) low = low

row_of : (text : List ℕ) → IfSome (register_of text) IsRow
unfolding register_of
row_of [] = tt
row_of (a ∷ []) = tt
row_of (a ∷ b ∷ digits) = by_first ((a == 114) && (b == 97)) ((a == 114) && (b == 98)) refl refl
  where
    by_first : (p q : Bool) → ((a == 114) && (b == 97)) ≡ p → ((a == 114) && (b == 98)) ≡ q
        → IfSome (if (a == 114) && (b == 97) then option_map RowA (row_number digits) else if (a == 114) && (b == 98) then option_map RowB (row_number digits) else None) IsRow
    by_first true q e f = rw e (row_a (row_number digits) (low_row digits))
    by_first false true e f = rw (e, f) (row_b (row_number digits) (low_row digits))
    by_first false false e f = rw (e, f) tt

-- other names

behind : (x n : Name) (xs : List Name) → Contains xs n → Contains (x ∷ xs) n
behind x n xs (k, low, is) = (suc k, omega arith, is)

more : (x : Name) (xs : List Name) (o : Option Name) → IfSome o (Contains xs) → IfSome o (Contains (x ∷ xs))
more x xs None among = tt
more x xs (Some n) among = behind x n xs among

among_by : (x : Name) (xs : List Name) (b : Bool) (o : Option Name) → IfSome o (Contains xs) → IfSome (if b then Some x else o) (Contains (x ∷ xs))
among_by x xs true o among = (0, omega arith, refl)
among_by x xs false o among = more x xs o among

found_among : (test : Name → Bool) (xs : List Name) → IfSome (find test xs) (Contains xs)
found_among test [] = tt
found_among test (x ∷ xs) = among_by x xs (test x) (find test xs) (found_among test xs)

row_first : (P : Name → Type 0) (r : Option Register) (other : Option Name) → ((n : Name) → IsRowName n → P n) → IfSome r IsRow → IfSome other P → IfSome (row_or r other) P
row_first P (Some r) other as_row row among = as_row (RegisterName r) row
row_first P None other as_row row among = among

each_some : (P Q : Name → Type 0) (o : Option Name) → ((n : Name) → P n → Q n) → IfSome o P → IfSome o Q
each_some P Q None as_one holds = tt
each_some P Q (Some n) as_one holds = as_one n holds

named : (words : List Name) (text : List ℕ) → IfSome (row_or (register_of text) (found_in words text)) (λ n. IsRowName n ⊎ Contains words n)
named words text =
    row_first _ (register_of text) (found_in words text) (λ n row. inl row) (row_of text)
    (each_some (Contains words) _ (found_in words text) (λ n among. inr among) (found_among (λ n. pointwise nat_eq (spelling n) text) words))

name_found : (text : List ℕ) → IfSome (name_of text) IsNameOfLanguage
unfolding name_of
name_found text = search named

-- tokens

name_proper : (o : Option Name) → IfSome o IsNameOfLanguage → IsProperSymbol (name_symbol o)
name_proper None found = tt
name_proper (Some n) found = found

sign_proper : (byte : ℕ) → IsProperSymbol (sign_of byte)
sign_proper byte = by_byte (byte == 44) (byte == 59) (byte == 58) (byte == 46) (byte == 45) (byte == 40) (byte == 41) (byte == 126) refl refl refl refl refl refl refl refl
  where
    by_byte : (a b c d e f g h : Bool) → (byte == 44) ≡ a → (byte == 59) ≡ b → (byte == 58) ≡ c → (byte == 46) ≡ d → (byte == 45) ≡ e → (byte == 40) ≡ f → (byte == 41) ≡ g → (byte == 126) ≡ h
        → IsProperSymbol (sign_of byte)
    by_byte true b c d e f g h is _ _ _ _ _ _ _ = rw is tt
    by_byte false true c d e f g h o1 is _ _ _ _ _ _ = rw (o1, is) tt
    by_byte false false true d e f g h o1 o2 is _ _ _ _ _ = rw (o1, o2, is) tt
    by_byte false false false true e f g h o1 o2 o3 is _ _ _ _ = rw (o1, o2, o3, is) tt
    by_byte false false false false true f g h o1 o2 o3 o4 is _ _ _ = rw (o1, o2, o3, o4, is) tt
    by_byte false false false false false true g h o1 o2 o3 o4 o5 is _ _ = rw (o1, o2, o3, o4, o5, is) tt
    by_byte false false false false false false true h o1 o2 o3 o4 o5 o6 is _ = rw (o1, o2, o3, o4, o5, o6, is) tt
    by_byte false false false false false false false true o1 o2 o3 o4 o5 o6 o7 is = rw (o1, o2, o3, o4, o5, o6, o7, is) tt
    by_byte false false false false false false false false o1 o2 o3 o4 o5 o6 o7 o8 = rw (o1, o2, o3, o4, o5, o6, o7, o8) tt

symbol_proper : (text : List ℕ) (k : TokenKind) (token : Token) → token.kind ≡ k → IsProperSymbol (symbol_of text token)
unfolding symbol_of
symbol_proper text kind.Name token e = rw e (name_proper (name_of (text_of text token)) (name_found (text_of text token)))
symbol_proper text (kind.Number value) token e = rw e tt
symbol_proper text kind.Punct token e = rw e (sign_proper (slice_index (text_of text token) 0))
symbol_proper text kind.LineEnd token e = rw e tt

pub placed_proper : (text : List ℕ) (labels : Labels) (token : Token) → IsProper (placed_token text labels token)
unfolding placed_token
placed_proper text labels token = symbol_proper text token.kind token refl
