-- Parts of a line that can stand one behind the other. A first part begins with a name, a number or the
-- sign of no target; a later part begins with another sign or a space, or is nothing.
use Rattle.std.proofs.Common.{◌≡◌, Bool, true, false, List, [], ◌∷◌, ◌++◌, refl, subst, sym, append-nil, append_assoc}
use Rattle.std.specs.Prelude.{if◌then◌else◌}
use Rattle.qpu_line.specs.declared.name.Name.{Name}
use Rattle.qpu_line.specs.Names.{IsNameOfLanguage}
use Rattle.qpu_line.specs.Lines.{Figure, Bit, Word, Number, Dash, Space, suffix, and_then, behind}
use Rattle.qpu_dis.proofs.NameFacts.{is_packed}
use Rattle.qpu_dis.proofs.BitLemmas.{IsNumber, BitEnds, Stands}

-- what may stand behind a part
abbrev pub IsRest : List Bit → Type 0
IsRest rest = BitEnds rest × Stands false rest

pub record IsFirst (bits : List Bit) : Type 0 where
  pub before : (rest : List Bit) → IsRest rest → Stands false (bits ++ rest)

pub record IsLater (bits : List Bit) : Type 0 where
  pub before : (rest : List Bit) → IsRest rest → IsRest (bits ++ rest)

pub nothing : IsLater []
nothing = record { before = λ rest more. more }

pub two_later : (xs ys : List Bit) → IsLater xs → IsLater ys → IsLater (xs ++ ys)
two_later xs ys p q = record {
  before = λ rest more. subst IsRest (sym (append_assoc xs ys rest)) (p.before (ys ++ rest) (q.before rest more));
}

pub first_then : (xs ys : List Bit) → IsFirst xs → IsLater ys → IsFirst (xs ++ ys)
first_then xs ys p q = record {
  before = λ rest more. subst (Stands false) (sym (append_assoc xs ys rest)) (p.before (ys ++ rest) (q.before rest more));
}

pub a_name : (n : Name) → IsNameOfLanguage n → is_packed n ≡ false → IsFirst (Word n ∷ [])
a_name n is plain = record { before = λ rest more. (is, λ undotted. plain, more.0, more.1) }

pub a_number : (figure : Figure) → IsNumber figure → IsFirst (Number figure ∷ [])
a_number figure is = record { before = λ rest more. (refl, is, more.0, more.1) }

pub no_target : IsFirst (Dash ∷ [])
no_target = record { before = λ rest more. more.1 }

absurd_dotted : (n : Name) → true ≡ false → is_packed n ≡ false
absurd_dotted n e = cc

pub a_suffix : (n : Name) → IsNameOfLanguage n → IsLater (suffix n)
a_suffix n is = record { before = λ rest more. (tt, (is, absurd_dotted n, more.0, more.1)) }

pub spaced : (bits : List Bit) → IsFirst bits → IsLater (Space ∷ bits)
spaced bits p = record { before = λ rest more. (tt, p.before rest more) }

pub after_comma : (bits : List Bit) → IsFirst bits → IsLater (and_then bits)
after_comma bits p = record { before = λ rest more. (tt, p.before rest more) }

pub after_semicolon : (bits : List Bit) → IsFirst bits → IsLater (behind bits)
after_semicolon bits p = record { before = λ rest more. (tt, p.before rest more) }

pub either_later : (b : Bool) (xs ys : List Bit) → (b ≡ true → IsLater xs) → (b ≡ false → IsLater ys) → IsLater (if b then xs else ys)
either_later true xs ys p q = p refl
either_later false xs ys p q = q refl

pub either_first : (b : Bool) (xs ys : List Bit) → (b ≡ true → IsFirst xs) → (b ≡ false → IsFirst ys) → IsFirst (if b then xs else ys)
either_first true xs ys p q = p refl
either_first false xs ys p q = q refl

-- a whole line
pub line_stands : (bits : List Bit) → IsFirst bits → Stands false bits
line_stands bits p = subst (Stands false) (append-nil bits) (p.before [] (tt, tt))
