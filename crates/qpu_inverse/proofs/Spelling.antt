-- Tokens that spell symbols.
use Rattle.std.proofs.Common.{◌≡◌, ℕ, List, [], ◌∷◌, ◌++◌, length, map, refl, ap, arith}
use Rattle.qpu_token.specs.declared.token.Token.{Token}
use Rattle.qpu_line.specs.declared.symbol.Symbol.{Symbol}
use Rattle.qpu_dis.specs.Tokens.{symbol_of}

abbrev pub Spells : List ℕ → List Symbol → List Token → Type 0
Spells text [] [] = Unit {0}
Spells text [] (t ∷ ts) = ⊥
Spells text (s ∷ ss) [] = ⊥
Spells text (s ∷ ss) (t ∷ ts) = (symbol_of text t ≡ s) × Spells text ss ts

pub spells_of : (text : List ℕ) (ss : List Symbol) (ts : List Token) → map (symbol_of text) ts ≡ ss → Spells text ss ts
spells_of text [] [] e = tt
spells_of text [] (t ∷ ts) e = absurd (cc)
spells_of text (s ∷ ss) [] e = absurd (cc)
spells_of text (s ∷ ss) (t ∷ ts) e =
    let first : symbol_of text t ≡ s = cc in
    let later : map (symbol_of text) ts ≡ ss = cc in
    (first, spells_of text ss ts later)

pub spelled : (text : List ℕ) (ss : List Symbol) (ts : List Token) → Spells text ss ts → map (symbol_of text) ts ≡ ss
spelled text [] [] h = refl
spelled text [] (t ∷ ts) h = absurd h
spelled text (s ∷ ss) [] h = absurd h
spelled text (s ∷ ss) (t ∷ ts) h = let later = spelled text ss ts h.1 in let first = h.0 in cc

pub spells_length : (text : List ℕ) (ss : List Symbol) (ts : List Token) → Spells text ss ts → length ts ≡ length ss
spells_length text [] [] h = refl
spells_length text [] (t ∷ ts) h = absurd h
spells_length text (s ∷ ss) [] h = absurd h
spells_length text (s ∷ ss) (t ∷ ts) h = let later = spells_length text ss ts h.1 in omega arith

-- tokens of which the first ones spell the first symbols
pub record Parts (text : List ℕ) (xs ys : List Symbol) (ts : List Token) : Type 0 where
  pub front : List Token
  pub back : List Token
  pub same : ts ≡ front ++ back
  pub front_spells : Spells text xs front
  pub back_spells : Spells text ys back

pub parts_of : (text : List ℕ) (xs ys : List Symbol) (ts : List Token) → Spells text (xs ++ ys) ts → Parts text xs ys ts
parts_of text [] ys ts h = record { front = []; back = ts; same = refl; front_spells = tt; back_spells = h }
parts_of text (x ∷ xs) ys [] h = absurd h
parts_of text (x ∷ xs) ys (t ∷ ts) h =
    let p = parts_of text xs ys ts h.1 in
    record { front = t ∷ p.front; back = p.back; same = ap (λ z. t ∷ z) p.same; front_spells = (h.0, p.front_spells); back_spells = p.back_spells }

pub spells_both : (text : List ℕ) (xs ys : List Symbol) (a b : List Token) → Spells text xs a → Spells text ys b → Spells text (xs ++ ys) (a ++ b)
spells_both text [] ys [] b p q = q
spells_both text [] ys (t ∷ a) b p q = absurd p
spells_both text (x ∷ xs) ys [] b p q = absurd p
spells_both text (x ∷ xs) ys (t ∷ a) b p q = (p.0, spells_both text xs ys a b p.1 q)
