-- A name of the language stands for a target that is somewhere.
use Rattle.std.proofs.Common.{◌≡◌, inl, inr, suc, Bool, true, false, List, [], ◌∷◌, ◌++◌, Option, Some, None, refl, sym, subst, ◌∙◌, arith}
use Rattle.std.specs.Prelude.{not, All, Contains, ◌⊎◌}
use Rattle.std.specs.List.{list_all}
use Rattle.std.proofs.lemmas.Bool.Decides.{nat_tests}
use Rattle.std.proofs.lemmas.List.Elements.{All-contains}
use Rattle.std.proofs.lemmas.List.Sums.{AllPass-from_list_all}
use Rattle.qpu_word.specs.declared.name.Place.{Place}
use Rattle.qpu_word.specs.declared.name.Place.TheVariants as place
use Rattle.qpu_line.specs.declared.name.Name.{Name}
use Rattle.qpu_line.specs.declared.name.Name.TheVariants as name
use Rattle.qpu_line.specs.declared.name.Register.TheVariants as register
use Rattle.qpu_line.specs.declared.symbol.Symbol.{Symbol}
use Rattle.qpu_line.specs.declared.symbol.Symbol.TheVariants as symbol
use Rattle.qpu_line.specs.Names.{IsRowName, IsNameOfLanguage}
use Rattle.qpu_asm.specs.declared.placed.Placed.{Placed}
use Rattle.qpu_asm.specs.Roles.{target_meant}
use Rattle.qpu_asm.specs.Laws.{IsProperSymbol, IsProper, symbols_of}
use Rattle.qpu_asm.specs.SpelledPieces.{SpellsTarget, is_nowhere}
use Rattle.qpu_asm.specs.SpelledPieces.SpellsTarget.{nowhere, named as target_named}
use Rattle.qpu_asm.specs.Spells.{behind_first, joined}
use Rattle.qpu_asm.proofs.ProperParts.{Each}

abbrev there : Option Place → Bool
there None = true
there (Some to) = not (is_nowhere to)

abbrev pub is_somewhere : Name → Bool
is_somewhere n = there (target_meant n)

row_somewhere : (n : Name) → IsRowName n → is_somewhere n ≡ true
row_somewhere (name.Register (register.RowA n)) low = grind (arith, nat_tests, low)
row_somewhere (name.Register (register.RowB n)) low = grind (arith, nat_tests, low)
row_somewhere _ never = absurd never

somewhere_by : (words : List Name) (n : Name) → list_all is_somewhere words ≡ true → IsRowName n ⊎ Contains words n → is_somewhere n ≡ true
somewhere_by words n all (inl row) = row_somewhere n row
somewhere_by words n all (inr among) = All-contains (λ m. is_somewhere m ≡ true) words n (AllPass-from_list_all is_somewhere words all) among

name_somewhere : (n : Name) → IsNameOfLanguage n → is_somewhere n ≡ true
name_somewhere n proper = search (somewhere_by, proper)

-- symbols whose names are so

abbrev pub IsThere : Symbol → Type 0
IsThere (symbol.Name n) = is_somewhere n ≡ true
IsThere _ = Unit {0}

abbrev pub AreThere : List Symbol → Type 0
AreThere ss = Each IsThere ss

symbol_there : (s : Symbol) → IsProperSymbol s → IsThere s
symbol_there (symbol.Name n) proper = name_somewhere n proper
symbol_there _ proper = tt

pub all_there : (xs : List Placed) → All IsProper xs → AreThere (symbols_of xs)
all_there [] proper = tt
all_there (x ∷ xs) proper = (symbol_there x.symbol (proper 0 x (omega arith)), all_there xs (λ k d low. proper (suc k) d (omega arith)))

pub there_left : (a b : List Symbol) → AreThere (a ++ b) → AreThere a
there_left [] b h = tt
there_left (s ∷ a) b h = (h.0, there_left a b h.1)

pub there_right : (a b : List Symbol) → AreThere (a ++ b) → AreThere b
there_right [] b h = h
there_right (s ∷ a) b h = there_right a b h.1

-- all symbols of all parts
abbrev pub PartsThere : List (List Symbol) → Type 0
PartsThere xs = Each AreThere xs

behind_there : (xs : List (List Symbol)) → AreThere (behind_first xs) → PartsThere xs
behind_there [] h = tt
behind_there (x ∷ xs) h = (there_left x (behind_first xs) h.1, behind_there xs (there_right x (behind_first xs) h.1))

pub parts_there : (xs : List (List Symbol)) → AreThere (joined xs) → PartsThere xs
parts_there [] h = tt
parts_there (x ∷ xs) h = (there_left x (behind_first xs) h, behind_there xs (there_right x (behind_first xs) h))

-- so a target that is dropped is none

not_not : (b : Bool) → not b ≡ true → b ≡ false
not_not true h = absurd (grind (arith, h))
not_not false h = refl

pub named_there : (n : Name) (to : Place) → is_somewhere n ≡ true → target_meant n ≡ Some to → is_nowhere to ≡ false
named_there n to h e = by_there (target_meant n) h e
  where
    by_there : (o : Option Place) → there o ≡ true → o ≡ Some to → is_nowhere to ≡ false
    by_there None h e = absurd (grind (arith, e))
    by_there (Some p) h e = let same : p ≡ to = cc in let q : not (is_nowhere to) ≡ true = subst (λ (z : Place). not (is_nowhere z) ≡ true) same h in not_not (is_nowhere to) q

pub target_there : (t : List Symbol) (to : Place) → AreThere t → SpellsTarget t to → is_nowhere to ≡ true → to ≡ place.Both 39
target_there t to h nowhere e = refl
target_there t to h (target_named {n = n} is) e = absurd (let f : true ≡ false = sym e ∙ named_there n to h.0 is in grind (arith, f))
