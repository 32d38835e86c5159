-- Reads that no operand names are what the word's fields hold.
use Rattle.std.proofs.Common.{◌≡◌, ℕ, Bool, true, false, List, ◌++◌, Option, Some, None, refl, ap, sym, ◌∙◌, arith}
use Rattle.std.specs.Prelude.{◌==◌, ◌||◌, IfSome, is_some}
use Rattle.std.proofs.lemmas.Bool.Decides.{nat_tests}
use Rattle.qpu_line.specs.declared.operand.Operand.{Operand}
use Rattle.qpu_line.specs.declared.operand.Operand.TheVariants as operand
use Rattle.qpu_line.specs.declared.part.Part.{Part as UnitDoes}
use Rattle.qpu_line.specs.declared.units.Signal.{Signal}
use Rattle.qpu_line.specs.declared.units.Signal.TheVariants as signal
use Rattle.qpu_line.specs.declared.units.Units.{Units}
use Rattle.qpu_line.specs.Units.{part_uses, any_uses, other_read, mux_of, small_signal, over, op_of, cond_of, first_of, second_of, signal_code, rotation_or, other_or, fields_of_units}
use Rattle.qpu_line.specs.Named.{IsNamedOperand, IsOther}
use Rattle.qpu_asm.specs.declared.mark.What.{What}
use Rattle.qpu_asm.specs.declared.mark.What.TheVariants as what
use Rattle.qpu_asm.specs.declared.mark.Mark.{Mark}
use Rattle.qpu_asm.specs.reader.Meanings.{address_b, reads_by, unless}
use Rattle.qpu_asm.proofs.MarkLemmas.{Has, has_left, has_right}
use Rattle.qpu_asm.proofs.OperandMarks.{Marked}
use Rattle.qpu_asm.proofs.UnitMarks.{DoesSaid, AddSaid, MulSaid}
use Rattle.qpu_asm.proofs.ExtraMarks.{OtherSaid}
use Rattle.qpu_asm.proofs.SharedFields.{EachOf, both_keep, AreMarked, signal_stays, keep_small, uses, unused_a, unused_b, reads_a_is, reads_b_uses}
use Rattle.qpu_asm.proofs.TestLemmas.{either_false, either_by}
use Rattle.qpu_asm.proofs.UnitsLine.{IsLine, marked, there, AreNamed, are_named}
use Rattle.qpu_asm.proofs.FieldRanges.{other_source}
use Rattle.qpu_asm.proofs.UnitsHeld.{code_plain}

-- other reads

part_uses_is : (U : List Mark) (mul : Bool) (o : Option UnitDoes) (mux : ℕ) → IfSome o (DoesSaid mul U) → part_uses (op_of o) (cond_of o) (first_of o) (second_of o) mux ≡ uses o mux
part_uses_is U mul None mux said = refl
part_uses_is U mul (Some p) mux said = rw said.acts refl

uses_is : (u : Units) (a b : Option ℕ) (early late : List Mark) → IsLine u a b early late → (mux : ℕ) → any_uses (fields_of_units u) mux ≡ (uses u.add mux || uses u.mul mux)
unfolding fields_of_units
uses_is u a b early late l mux =
    rw (
      part_uses_is early false u.add mux (there (AddSaid early) (DoesSaid false early) u.add (λ p e said. said.does) l.add),
      part_uses_is early true u.mul mux (there (MulSaid early) (DoesSaid true early) u.mul (λ p e said. said.does) l.mul),
    ) refl

somewhere : (n : ℕ) → IsOther n → (n == 39) ≡ false
somewhere n other = let s = other_source n other in grind (arith, nat_tests, s)

other_by : (reading : ℕ → What) (late : List Mark) (o : Option ℕ) → IfSome o (OtherSaid reading late) → other_read false (other_or o) ≡ o
other_by reading late None said = refl
other_by reading late (Some n) said = rw (somewhere n said.fits) refl

a_held : (late : List Mark) (o : Option ℕ) (used : Bool) (row : ℕ) → IfSome o (OtherSaid what.ReadsA late) → (used ≡ false → row ≡ other_or o) → other_read used row ≡ unless used o
a_held late o true row said free = refl
a_held late o false row said free = rw (free refl) (other_by what.ReadsA late o said)

unless_free : (o : Option ℕ) (b : Bool) → b ≡ false → unless b o ≡ o
unless_free o true e = absurd (grind (arith, e))
unless_free o false e = refl

pub other_a_held : (u : Units) (a b : Option ℕ) (early late : List Mark) → IsLine u a b early late → other_read (any_uses (fields_of_units u) 6) (fields_of_units u).raddr_a ≡ u.other_a
unfolding fields_of_units
other_a_held u a b early late l =
    let n : AreNamed u = are_named u a b early late l in
    let used = uses u.add 6 || uses u.mul 6 in
    let reads : u.other_a ≡ unless used a = l.is_a ∙ rw (reads_a_is u.add n.add_operands, reads_a_is u.mul n.mul_operands) refl in
    rw (uses_is u a b early late l 6)
    (a_held late a used _ l.other_a
    (λ e. let both = either_false (uses u.add 6) (uses u.mul 6) e in
    unused_a u.add u.mul (other_or u.other_a) both.0 both.1 ∙ ap other_or (reads ∙ unless_free a used e))
    ∙ sym reads)

-- of file B: by whether an operand reads it, and whether another read is there
record BHolds (late : List Mark) (o : Option ℕ) (reads uses : Bool) (sig row : ℕ) : Type 0 where
  said : IfSome o (OtherSaid what.ReadsB late)
  reading : reads ≡ true → uses ≡ true
  plain : reads ≡ false → is_some o ≡ true → (uses ≡ false) × ((sig == 13) ≡ false)
  free : uses ≡ false → (sig == 13) ≡ false → row ≡ other_or (unless reads o)

used_up : (a b : Bool) (row : ℕ) → b ≡ true → other_read (a || b) row ≡ None
used_up true b row e = refl
used_up false true row e = refl
used_up false false row e = absurd (grind (arith, e))

none_left : (a b : Bool) (row : ℕ) → (b ≡ false → a ≡ false → row ≡ 39) → other_read (a || b) row ≡ None
none_left true b row free = refl
none_left false true row free = refl
none_left false false row free = rw (free refl refl) refl

b_held : (late : List Mark) (o : Option ℕ) (reads uses : Bool) (sig row : ℕ) → BHolds late o reads uses sig row → other_read ((sig == 13) || uses) row ≡ unless reads o
b_held late o true uses sig row h = used_up (sig == 13) uses row (h.reading refl)
b_held late None false uses sig row h = none_left (sig == 13) uses row h.free
b_held late (Some n) false uses sig row h =
    let both = h.plain refl refl in
    rw (both.1, both.0, h.free both.0 both.1) (other_by what.ReadsB late (Some n) h.said)

-- what another read of file B excludes: numbers and rotations
plain_mux : (early : List Mark) (y : Operand) → IsNamedOperand y → Marked early y → ((v : ℕ) → Has (what.Number v) early → ⊥) → is_some (address_b y) ≡ false → (mux_of y == 7) ≡ false
plain_mux early (operand.Accumulator n) named is none other = grind (arith, nat_tests)
plain_mux early (operand.FileA n v) named is none other = refl
plain_mux early (operand.FileB n) named is none other = absurd (grind (arith, other))
plain_mux early (operand.Small code) named is none other = absurd (none is.0 is.1)

plain_unit : (early : List Mark) (o : Option UnitDoes) → EachOf IsNamedOperand o → EachOf (Marked early) o → ((v : ℕ) → Has (what.Number v) early → ⊥) → reads_by address_b o ≡ false → uses o 7 ≡ false
plain_unit early None named is none other = refl
plain_unit early (Some p) named is none other =
    let both = either_false (is_some (address_b p.a)) (is_some (address_b p.b)) other in
    rw (plain_mux early p.a named.0 is.0 none both.0, plain_mux early p.b named.1 is.1 none both.1) refl

other_there : (late : List Mark) (o : Option ℕ) → IfSome o (OtherSaid what.ReadsB late) → is_some o ≡ true → (n : ℕ) × Has (what.ReadsB n) late
other_there late None said some = absurd (grind (arith, some))
other_there late (Some n) said some = (n, said.told)

code_is_plain : (late : List Mark) (s : Signal) (row : ℕ) → (signal_code s == 13) ≡ false → rotation_or s row ≡ row
code_is_plain late signal.Nothing row plain = refl
code_is_plain late signal.End row plain = refl
code_is_plain late signal.Load0 row plain = refl
code_is_plain late signal.Load1 row plain = refl
code_is_plain late (signal.Rotate code) row plain = absurd (grind (arith, plain))

-- a signal that isn't a small immediate's isn't a rotation's
sig_below : (f : ℕ → ℕ) (s : Signal) → ((sig : ℕ) → (sig == 13) ≡ true → (f sig == 13) ≡ true) → (f (signal_code s) == 13) ≡ false → (signal_code s == 13) ≡ false
sig_below f s keeps plain = by_code (signal_code s == 13) refl
  where
    by_code : (b : Bool) → (signal_code s == 13) ≡ b → (signal_code s == 13) ≡ false
    by_code true e = absurd (let k = keeps (signal_code s) e in grind (arith, k, plain))
    by_code false e = e

any_each : (P : Operand → Type 0) (o : Option UnitDoes) → ((y : Operand) → P y) → EachOf P o
any_each P None f = tt
any_each P (Some p) f = (f p.a, f p.b)

small_kept : (a b : Option UnitDoes) (sig : ℕ) → (sig == 13) ≡ true → (over small_signal a (over small_signal b sig) == 13) ≡ true
small_kept a b sig e = both_keep small_signal (λ x. (x == 13) ≡ true) a b sig (any_each _ a keep_small) (any_each _ b keep_small) e

record PlainB (u : Units) : Type 0 where
  uses : (uses u.add 7 || uses u.mul 7) ≡ false
  sig : ((fields_of_units u).sig == 13) ≡ false

plain_b : (u : Units) (a b : Option ℕ) (early late : List Mark) → IsLine u a b early late → (reads_by address_b u.add || reads_by address_b u.mul) ≡ false → is_some b ≡ true → PlainB u
unfolding fields_of_units
plain_b u a b early late l free some =
    let n : AreNamed u = are_named u a b early late l in
    let all : AreMarked early u = marked u early l.add l.mul in
    let both = either_false (reads_by address_b u.add) (reads_by address_b u.mul) free in
    let read : (n : ℕ) × Has (what.ReadsB n) late = other_there late b l.other_b some in
    let has : Has (what.ReadsB read.0) (early ++ late) = has_right (what.ReadsB read.0) early late read.1 in
    let none : (v : ℕ) → Has (what.Number v) early → ⊥ = λ v number. l.clear.mixed v read.0 (has_left (what.Number v) early late number) has in
    record {
      uses = rw (plain_unit early u.add n.add_operands all.add none both.0, plain_unit early u.mul n.mul_operands all.mul none both.1) refl;
      sig = rw (signal_stays early u.add u.mul (signal_code u.signal) none all.add all.mul) (code_plain early late u.signal read.0 l.clear l.signal has);
    }

pub other_b_held : (u : Units) (a b : Option ℕ) (early late : List Mark) → IsLine u a b early late
    → other_read (((fields_of_units u).sig == 13) || any_uses (fields_of_units u) 7) (fields_of_units u).raddr_b ≡ u.other_b
unfolding fields_of_units
other_b_held u a b early late l =
    let s = fields_of_units u in
    let reads = reads_by address_b u.add || reads_by address_b u.mul in
    let used = uses u.add 7 || uses u.mul 7 in
    let holds : BHolds late b reads used s.sig s.raddr_b = record {
      said = l.other_b;
      reading = either_by (reads_by address_b u.add) (reads_by address_b u.mul) (uses u.add 7) (uses u.mul 7) (reads_b_uses u.add) (reads_b_uses u.mul);
      plain = λ free some. (let p : PlainB u = plain_b u a b early late l free some in (p.uses, p.sig));
      free = λ none plain.
          (let both = either_false (uses u.add 7) (uses u.mul 7) none in
          unused_b u.add u.mul (rotation_or u.signal (other_or u.other_b)) both.0 both.1
          ∙ code_is_plain late u.signal (other_or u.other_b) (sig_below (λ sig. over small_signal u.add (over small_signal u.mul sig)) u.signal (small_kept u.add u.mul) plain)
          ∙ ap other_or l.is_b);
    } in
    rw (uses_is u a b early late l 7) (b_held late b reads used s.sig s.raddr_b holds ∙ sym l.is_b)
