-- Fields of a word that several operands share, where no two of them clash: each operand finds there what it names.
use Rattle.std.proofs.Common.{◌≡◌, ℕ, ◌<◌, inl, inr, Bool, true, false, List, Option, Some, None, refl, sym, subst, ◌∙◌, arith}
use Rattle.std.specs.Prelude.{◌==◌, ◌||◌, ◌⊎◌, IfSome, is_some}
use Rattle.std.proofs.lemmas.Bool.Decides.{nat_tests}
use Rattle.qpu_line.specs.declared.operand.Operand.{Operand}
use Rattle.qpu_line.specs.declared.operand.Operand.TheVariants as operand
use Rattle.qpu_line.specs.declared.part.Part.{Part as UnitDoes}
use Rattle.qpu_line.specs.declared.units.Units.{Units}
use Rattle.qpu_line.specs.Units.{mux_of, row_a, unpack_of, row_b, small_signal, over, fields_of_units}
use Rattle.qpu_line.specs.Both.{IsOperand}
use Rattle.qpu_line.specs.Named.{IsNamedOperand}
use Rattle.qpu_asm.specs.declared.mark.What.TheVariants as what
use Rattle.qpu_asm.specs.declared.mark.Mark.{Mark}
use Rattle.qpu_asm.specs.Roles.{code_of}
use Rattle.qpu_asm.specs.reader.Meanings.{address_a, address_b, reads_by}
use Rattle.qpu_asm.proofs.MarkLemmas.{Has, IsClear}
use Rattle.qpu_asm.proofs.OperandMarks.{Marked}
use Rattle.qpu_asm.proofs.TestLemmas.{either_false, either_by}

-- the operands of a unit that may be idle

abbrev pub EachOf : (Operand → Type 0) → Option UnitDoes → Type 0
EachOf P o = IfSome o (λ p. P p.a × P p.b)

abbrev pub SomeOf : (Operand → Type 0) → Option UnitDoes → Type 0
SomeOf P None = ⊥
SomeOf P (Some p) = P p.a ⊎ P p.b

pub each_of : (P Q : Operand → Type 0) (o : Option UnitDoes) → ((y : Operand) → P y → Q y) → EachOf P o → EachOf Q o
each_of P Q None f each = tt
each_of P Q (Some p) f each = (f p.a each.0, f p.b each.1)

some_of : (P Q : Operand → Type 0) (o : Option UnitDoes) → ((y : Operand) → P y → Q y) → SomeOf P o → SomeOf Q o
some_of P Q None f some = some
some_of P Q (Some p) f (inl is) = inl (f p.a is)
some_of P Q (Some p) f (inr is) = inr (f p.b is)

-- what no operand changes, and some operand gives

abbrev Keeps : (Operand → ℕ → ℕ) → (ℕ → Type 0) → Operand → Type 0
Keeps read Q y = (r : ℕ) → Q r → Q (read y r)

abbrev Gives : (Operand → ℕ → ℕ) → (ℕ → Type 0) → Operand → Type 0
Gives read Q y = (r : ℕ) → Q (read y r)

over_keeps : (read : Operand → ℕ → ℕ) (Q : ℕ → Type 0) (o : Option UnitDoes) (rest : ℕ) → EachOf (Keeps read Q) o → Q rest → Q (over read o rest)
over_keeps read Q None rest each is = is
over_keeps read Q (Some p) rest each is = each.0 (read p.b rest) (each.1 rest is)

over_gives : (read : Operand → ℕ → ℕ) (Q : ℕ → Type 0) (o : Option UnitDoes) (rest : ℕ) → EachOf (Keeps read Q) o → SomeOf (Gives read Q) o → Q (over read o rest)
over_gives read Q None rest each some = absurd some
over_gives read Q (Some p) rest each (inl gives) = gives (read p.b rest)
over_gives read Q (Some p) rest each (inr gives) = each.0 (read p.b rest) (gives rest)

pub both_keep : (read : Operand → ℕ → ℕ) (Q : ℕ → Type 0) (a b : Option UnitDoes) (rest : ℕ) → EachOf (Keeps read Q) a → EachOf (Keeps read Q) b → Q rest
    → Q (over read a (over read b rest))
both_keep read Q a b rest one other is = over_keeps read Q a (over read b rest) one (over_keeps read Q b rest other is)

-- an operand is one of either unit's
abbrev pub Among : Operand → Option UnitDoes → Option UnitDoes → Type 0
Among o a b = SomeOf (λ y. y ≡ o) a ⊎ SomeOf (λ y. y ≡ o) b

both_give : (read : Operand → ℕ → ℕ) (Q : ℕ → Type 0) (a b : Option UnitDoes) (rest : ℕ) (o : Operand) → EachOf (Keeps read Q) a → EachOf (Keeps read Q) b → Among o a b → Gives read Q o
    → Q (over read a (over read b rest))
both_give read Q a b rest o one other (inl some) gives =
    over_gives read Q a (over read b rest) one (some_of (λ y. y ≡ o) (Gives read Q) a (λ y e. let P : Operand → Type 0 = Gives read Q in subst P (sym e) gives) some)
both_give read Q a b rest o one other (inr some) gives =
    over_keeps read Q a (over read b rest) one
    (over_gives read Q b rest other (some_of (λ y. y ≡ o) (Gives read Q) b (λ y e. let P : Operand → Type 0 = Gives read Q in subst P (sym e) gives) some))

-- operands that don't clash

keep_a : (U : List Mark) (n : ℕ) → IsClear U → Has (what.ReadsA n) U → (y : Operand) → Marked U y → Keeps row_a (λ x. x ≡ n) y
keep_a U n clear has (operand.FileA m v) marked r e = clear.reads_a m n marked.0 has
keep_a U n clear has (operand.Accumulator m) marked r e = e
keep_a U n clear has (operand.FileB m) marked r e = e
keep_a U n clear has (operand.Small code) marked r e = e

keep_unpack : (U : List Mark) (n v : ℕ) → IsClear U → Has (what.ReadsA n) U → Has (what.Unpacks n v) U → (y : Operand) → Marked U y → Keeps unpack_of (λ x. x ≡ v) y
keep_unpack U n v clear has told (operand.FileA m w) marked r e =
    let same : m ≡ n = clear.reads_a m n marked.0 has in
    let P : ℕ → Type 0 = λ k. Has (what.Unpacks k w) U in
    clear.unpacks n w v (subst P same marked.1) told
keep_unpack U n v clear has told (operand.Accumulator m) marked r e = e
keep_unpack U n v clear has told (operand.FileB m) marked r e = e
keep_unpack U n v clear has told (operand.Small code) marked r e = e

keep_b : (U : List Mark) (n : ℕ) → IsClear U → Has (what.ReadsB n) U → (y : Operand) → Marked U y → Keeps row_b (λ x. x ≡ n) y
keep_b U n clear has (operand.FileB m) marked r e = clear.reads_b m n marked has
keep_b U n clear has (operand.Small code) marked r e = absurd (clear.mixed marked.0 n marked.1 has)
keep_b U n clear has (operand.Accumulator m) marked r e = e
keep_b U n clear has (operand.FileA m v) marked r e = e

keep_plain : (U : List Mark) (n : ℕ) → IsClear U → Has (what.ReadsB n) U → (y : Operand) → Marked U y → Keeps small_signal (λ x. (x == 13) ≡ false) y
keep_plain U n clear has (operand.Small code) marked r e = absurd (clear.mixed marked.0 n marked.1 has)
keep_plain U n clear has (operand.Accumulator m) marked r e = e
keep_plain U n clear has (operand.FileA m v) marked r e = e
keep_plain U n clear has (operand.FileB m) marked r e = e

same_code : (v w c d : ℕ) → v ≡ w → code_of v ≡ Some c → code_of w ≡ Some d → c ≡ d
same_code v w c d e one other = cc

keep_code : (U : List Mark) (v c : ℕ) → IsClear U → Has (what.Number v) U → code_of v ≡ Some c → (y : Operand) → Marked U y → Keeps row_b (λ x. x ≡ c) y
keep_code U v c clear has is (operand.FileB m) marked r e = absurd (clear.mixed v m has marked)
keep_code U v c clear has is (operand.Small d) marked r e = same_code marked.0 v d c (clear.numbers marked.0 v marked.1 has) marked.2 is
keep_code U v c clear has is (operand.Accumulator m) marked r e = e
keep_code U v c clear has is (operand.FileA m w) marked r e = e

pub keep_small : (y : Operand) → Keeps small_signal (λ x. (x == 13) ≡ true) y
keep_small (operand.Small code) r e = refl
keep_small (operand.Accumulator m) r e = e
keep_small (operand.FileA m v) r e = e
keep_small (operand.FileB m) r e = e

-- each operand finds what it names

pub record AreMarked (U : List Mark) (u : Units) : Type 0 where
  pub add : EachOf (Marked U) u.add
  pub mul : EachOf (Marked U) u.mul

pub operand_held : (U : List Mark) (u : Units) (o : Operand) → IsClear U → AreMarked U u → Among o u.add u.mul → IsNamedOperand o → Marked U o
    → ((n : ℕ) → Has (what.ReadsB n) U → ((fields_of_units u).sig == 13) ≡ false) → IsOperand (fields_of_units u) o
unfolding fields_of_units
operand_held U u (operand.Accumulator n) clear all among named marked plain = named
operand_held U u (operand.FileA n v) clear all among named marked plain =
    let keep : (y : Operand) → Marked U y → Keeps row_a (λ x. x ≡ n) y = keep_a U n clear marked.0 in
    let unpacks : (y : Operand) → Marked U y → Keeps unpack_of (λ x. x ≡ v) y = keep_unpack U n v clear marked.0 marked.1 in (
      both_give row_a (λ x. x ≡ n) u.add u.mul _ (operand.FileA n v) (each_of (Marked U) _ u.add keep all.add) (each_of (Marked U) _ u.mul keep all.mul) among (λ r. refl),
      both_give unpack_of (λ x. x ≡ v) u.add u.mul _ (operand.FileA n v) (each_of (Marked U) _ u.add unpacks all.add) (each_of (Marked U) _ u.mul unpacks all.mul) among (λ r. refl),
    )
operand_held U u (operand.FileB n) clear all among named marked plain =
    let keep : (y : Operand) → Marked U y → Keeps row_b (λ x. x ≡ n) y = keep_b U n clear marked in
    (both_give row_b (λ x. x ≡ n) u.add u.mul _ (operand.FileB n) (each_of (Marked U) _ u.add keep all.add) (each_of (Marked U) _ u.mul keep all.mul) among (λ r. refl), plain n marked)
operand_held U u (operand.Small c) clear all among named marked plain =
    let keep : (y : Operand) → Marked U y → Keeps row_b (λ x. x ≡ c) y = keep_code U marked.0 c clear marked.1 marked.2 in (
      both_give row_b (λ x. x ≡ c) u.add u.mul _ (operand.Small c) (each_of (Marked U) _ u.add keep all.add) (each_of (Marked U) _ u.mul keep all.mul) among (λ r. refl),
      both_give small_signal (λ x. (x == 13) ≡ true) u.add u.mul _ (operand.Small c) (each_of (Marked U) _ u.add (λ y _. keep_small y) all.add) (each_of (Marked U) _ u.mul (λ y _. keep_small y) all.mul) among (λ r. refl),
    )

-- where file B is read the signal stays
pub plain_signal : (U : List Mark) (a b : Option UnitDoes) (n sig : ℕ) → IsClear U → EachOf (Marked U) a → EachOf (Marked U) b → Has (what.ReadsB n) U → (sig == 13) ≡ false
    → (over small_signal a (over small_signal b sig) == 13) ≡ false
plain_signal U a b n sig clear one other has is =
    let keep : (y : Operand) → Marked U y → Keeps small_signal (λ x. (x == 13) ≡ false) y = keep_plain U n clear has in
    both_keep small_signal (λ x. (x == 13) ≡ false) a b sig (each_of (Marked U) _ a keep one) (each_of (Marked U) _ b keep other) is

-- fields that no operand names

abbrev IsNone : (Operand → ℕ → ℕ) → Operand → Type 0
IsNone read y = (r : ℕ) → read y r ≡ r

over_none : (read : Operand → ℕ → ℕ) (o : Option UnitDoes) (rest : ℕ) → EachOf (IsNone read) o → over read o rest ≡ rest
over_none read None rest none = refl
over_none read (Some p) rest none = none.0 (read p.b rest) ∙ none.1 rest

pub both_none : (read : Operand → ℕ → ℕ) (a b : Option UnitDoes) (rest : ℕ) → EachOf (IsNone read) a → EachOf (IsNone read) b → over read a (over read b rest) ≡ rest
both_none read a b rest one other = over_none read a (over read b rest) one ∙ over_none read b rest other

no_number : (U : List Mark) → ((v : ℕ) → Has (what.Number v) U → ⊥) → (y : Operand) → Marked U y → IsNone small_signal y
no_number U none (operand.Small code) marked r = absurd (none marked.0 marked.1)
no_number U none (operand.Accumulator m) marked r = refl
no_number U none (operand.FileA m v) marked r = refl
no_number U none (operand.FileB m) marked r = refl

pub signal_stays : (U : List Mark) (a b : Option UnitDoes) (sig : ℕ) → ((v : ℕ) → Has (what.Number v) U → ⊥) → EachOf (Marked U) a → EachOf (Marked U) b
    → over small_signal a (over small_signal b sig) ≡ sig
signal_stays U a b sig none one other =
    both_none small_signal a b sig (each_of (Marked U) (IsNone small_signal) a (no_number U none) one) (each_of (Marked U) (IsNone small_signal) b (no_number U none) other)

no_b : (U : List Mark) → ((v : ℕ) → Has (what.Number v) U → ⊥) → ((n : ℕ) → Has (what.ReadsB n) U → ⊥) → (y : Operand) → Marked U y → IsNone row_b y
no_b U none free (operand.Small code) marked r = absurd (none marked.0 marked.1)
no_b U none free (operand.FileB m) marked r = absurd (free m marked)
no_b U none free (operand.Accumulator m) marked r = refl
no_b U none free (operand.FileA m v) marked r = refl

pub row_b_stays : (U : List Mark) (a b : Option UnitDoes) (row : ℕ) → ((v : ℕ) → Has (what.Number v) U → ⊥) → ((n : ℕ) → Has (what.ReadsB n) U → ⊥)
    → EachOf (Marked U) a → EachOf (Marked U) b → over row_b a (over row_b b row) ≡ row
row_b_stays U a b row none free one other =
    both_none row_b a b row (each_of (Marked U) (IsNone row_b) a (no_b U none free) one) (each_of (Marked U) (IsNone row_b) b (no_b U none free) other)

-- a small immediate, or the signal as it is

abbrev pub SmallSays : ℕ → ℕ → Type 0
SmallSays sig row = (sig ≡ 13) × (row < 48)

small_or : (sig row : ℕ) (o : Operand) → IsNamedOperand o → ((code : ℕ) → o ≡ operand.Small code → (row ≡ code) × ((sig == 13) ≡ true)) → SmallSays sig row ⊎ IsNone small_signal o
small_or sig row (operand.Small code) named held =
    let is = held code refl in
    let small : sig ≡ 13 = grind (arith, nat_tests, is.1) in
    let low : row < 48 = rw is.0 named in
    inl (small, low)
small_or sig row (operand.Accumulator m) named held = inr (λ r. refl)
small_or sig row (operand.FileA m v) named held = inr (λ r. refl)
small_or sig row (operand.FileB m) named held = inr (λ r. refl)

held_small : (s : Units) (o : Operand) → IsOperand (fields_of_units s) o → (code : ℕ) → o ≡ operand.Small code → ((fields_of_units s).raddr_b ≡ code) × (((fields_of_units s).sig == 13) ≡ true)
held_small s o held code e = let P : Operand → Type 0 = IsOperand (fields_of_units s) in subst P e held

-- an operand is named, and the fields hold it
abbrev pub IsFound : Units → Operand → Type 0
IsFound u o = IsNamedOperand o × IsOperand (fields_of_units u) o

of_two : {A : Type 0} (P Q : Operand → Type 0) (a b : Operand) → A ⊎ P a → A ⊎ P b → A ⊎ (P a × P b)
of_two P Q a b (inl x) other = inl x
of_two P Q a b (inr x) (inl y) = inl y
of_two P Q a b (inr x) (inr y) = inr (x, y)

unit_small : (u : Units) (o : Option UnitDoes) → EachOf (IsFound u) o → SmallSays (fields_of_units u).sig (fields_of_units u).raddr_b ⊎ EachOf (IsNone small_signal) o
unit_small u None found = inr tt
unit_small u (Some p) found =
    of_two (IsNone small_signal) (IsNone small_signal) p.a p.b
    (small_or (fields_of_units u).sig (fields_of_units u).raddr_b p.a found.0.0 (held_small u p.a found.0.1))
    (small_or (fields_of_units u).sig (fields_of_units u).raddr_b p.b found.1.0 (held_small u p.b found.1.1))

pub small_signal_or : (u : Units) → EachOf (IsFound u) u.add → EachOf (IsFound u) u.mul
    → SmallSays (fields_of_units u).sig (fields_of_units u).raddr_b ⊎ ((sig : ℕ) → over small_signal u.add (over small_signal u.mul sig) ≡ sig)
small_signal_or u one other = by_units (unit_small u u.add one) (unit_small u u.mul other)
  where
    by_units : SmallSays (fields_of_units u).sig (fields_of_units u).raddr_b ⊎ EachOf (IsNone small_signal) u.add
        → SmallSays (fields_of_units u).sig (fields_of_units u).raddr_b ⊎ EachOf (IsNone small_signal) u.mul
        → SmallSays (fields_of_units u).sig (fields_of_units u).raddr_b ⊎ ((sig : ℕ) → over small_signal u.add (over small_signal u.mul sig) ≡ sig)
    by_units (inl x) b = inl x
    by_units (inr x) (inl y) = inl y
    by_units (inr x) (inr y) = inr (λ sig. both_none small_signal u.add u.mul sig x y)

-- a unit uses a mux

abbrev pub uses : Option UnitDoes → ℕ → Bool
uses None mux = false
uses (Some p) mux = (mux_of p.a == mux) || (mux_of p.b == mux)

unused_row_a : (y : Operand) → (mux_of y == 6) ≡ false → IsNone row_a y
unused_row_a (operand.FileA n v) other r = absurd (grind (arith, other))
unused_row_a (operand.Accumulator n) other r = refl
unused_row_a (operand.FileB n) other r = refl
unused_row_a (operand.Small code) other r = refl

unused_row_b : (y : Operand) → (mux_of y == 7) ≡ false → IsNone row_b y
unused_row_b (operand.FileB n) other r = absurd (grind (arith, other))
unused_row_b (operand.Small code) other r = absurd (grind (arith, other))
unused_row_b (operand.Accumulator n) other r = refl
unused_row_b (operand.FileA n v) other r = refl

unused : (read : Operand → ℕ → ℕ) (mux : ℕ) (o : Option UnitDoes) → ((y : Operand) → (mux_of y == mux) ≡ false → IsNone read y) → uses o mux ≡ false → EachOf (IsNone read) o
unused read mux None f none = tt
unused read mux (Some p) f none = let both = either_false (mux_of p.a == mux) (mux_of p.b == mux) none in (f p.a both.0, f p.b both.1)

pub unused_a : (a b : Option UnitDoes) (row : ℕ) → uses a 6 ≡ false → uses b 6 ≡ false → over row_a a (over row_a b row) ≡ row
unused_a a b row one other = both_none row_a a b row (unused row_a 6 a unused_row_a one) (unused row_a 6 b unused_row_a other)

pub unused_b : (a b : Option UnitDoes) (row : ℕ) → uses a 7 ≡ false → uses b 7 ≡ false → over row_b a (over row_b b row) ≡ row
unused_b a b row one other = both_none row_b a b row (unused row_b 7 a unused_row_b one) (unused row_b 7 b unused_row_b other)

-- reads of a file by the muxes

a_by_mux : (y : Operand) → IsNamedOperand y → is_some (address_a y) ≡ (mux_of y == 6)
a_by_mux (operand.Accumulator n) named = grind (arith, nat_tests)
a_by_mux (operand.FileA n v) named = refl
a_by_mux (operand.FileB n) named = refl
a_by_mux (operand.Small code) named = refl

pub reads_a_is : (o : Option UnitDoes) → EachOf IsNamedOperand o → reads_by address_a o ≡ uses o 6
reads_a_is None named = refl
reads_a_is (Some p) named = rw (a_by_mux p.a named.0, a_by_mux p.b named.1) refl

b_by_mux : (y : Operand) → is_some (address_b y) ≡ true → (mux_of y == 7) ≡ true
b_by_mux (operand.FileB n) some = refl
b_by_mux (operand.Accumulator n) some = absurd (grind (arith, some))
b_by_mux (operand.FileA n v) some = absurd (grind (arith, some))
b_by_mux (operand.Small code) some = refl

pub reads_b_uses : (o : Option UnitDoes) → reads_by address_b o ≡ true → uses o 7 ≡ true
reads_b_uses None some = some
reads_b_uses (Some p) some = either_by (is_some (address_b p.a)) (is_some (address_b p.b)) _ _ (b_by_mux p.a) (b_by_mux p.b) some
