-- Operands, targets, packs and the signal of both units are what the word's fields hold.
use Rattle.std.proofs.Common.{◌≡◌, ℕ, ◌<◌, inl, inr, Bool, true, false, List, ◌++◌, Option, Some, None, refl, sym, subst, arith}
use Rattle.std.specs.Prelude.{◌==◌, ◌&&◌, ◌||◌, not, nat_le, ◌⊎◌, IfSome, if◌then◌else◌}
use Rattle.std.proofs.lemmas.Bool.Decides.{nat_tests}
use Rattle.qpu_word.specs.declared.name.Place.{Place}
use Rattle.qpu_word.specs.declared.name.Place.TheVariants as place
use Rattle.qpu_word.specs.Words.{between}
use Rattle.qpu_line.specs.declared.operand.Operand.{Operand}
use Rattle.qpu_line.specs.declared.part.Part.{Part as UnitDoes}
use Rattle.qpu_line.specs.declared.units.Signal.{Signal}
use Rattle.qpu_line.specs.declared.units.Signal.TheVariants as signal
use Rattle.qpu_line.specs.declared.units.Units.{Units}
use Rattle.qpu_line.specs.Targets.{in_file_a, in_file_b, is_row_a, exchange_of}
use Rattle.qpu_line.specs.Units.{pack_at, signal_of, row_b, small_signal, over, to_of, pack_of, signal_code, rotation_or, other_or, fields_of_units}
use Rattle.qpu_line.specs.Worded.{IsTarget}
use Rattle.qpu_line.specs.Both.{IsPart}
use Rattle.qpu_line.specs.Named.{IsNamedOperand, is_pack_at}
use Rattle.qpu_asm.specs.declared.mark.What.TheVariants as what
use Rattle.qpu_asm.specs.declared.mark.Mark.{Mark}
use Rattle.qpu_asm.specs.Clashes.{cross}
use Rattle.qpu_asm.proofs.GoodNames.{is_placed}
use Rattle.qpu_asm.proofs.MarkLemmas.{Has, has_left, has_right, before_join, IsClear}
use Rattle.qpu_asm.proofs.TargetLemmas.{TargetsFit, targets_fit}
use Rattle.qpu_asm.proofs.OperandMarks.{Marked}
use Rattle.qpu_asm.proofs.UnitMarks.{DoesSaid, AddSaid, MulSaid}
use Rattle.qpu_asm.proofs.ExtraMarks.{SignalSaid}
use Rattle.qpu_asm.proofs.SharedFields.{EachOf, Among, AreMarked, operand_held, plain_signal, signal_stays, row_b_stays, SmallSays, IsFound, small_signal_or}
use Rattle.qpu_asm.proofs.TestLemmas.{both_true, never}
use Rattle.qpu_asm.proofs.UnitsLine.{IsLine, clear_left, marked, there}

-- signals beside numbers and reads of file B

no_signal_number : (early late : List Mark) → IsClear (early ++ late) → Has what.Signals late → (v : ℕ) → Has (what.Number v) early → ⊥
no_signal_number early late clear has v number = clear.number_signals v (before_join (what.Number v) what.Signals early late number has)

pub no_turn_number : (early late : List Mark) → IsClear (early ++ late) → Has what.Rotates late → (v : ℕ) → Has (what.Number v) early → ⊥
no_turn_number early late clear has v number = clear.number_turns v (before_join (what.Number v) what.Rotates early late number has)

no_turn_read : (early late : List Mark) → IsClear (early ++ late) → Has what.Rotates late → (n : ℕ) → Has (what.ReadsB n) (early ++ late) → ⊥
no_turn_read early late clear has n read = clear.turns n (has_right what.Rotates early late has) read

pub code_plain : (early late : List Mark) (s : Signal) (n : ℕ) → IsClear (early ++ late) → SignalSaid late s → Has (what.ReadsB n) (early ++ late) → (signal_code s == 13) ≡ false
code_plain early late signal.Nothing n clear said has = refl
code_plain early late signal.End n clear said has = refl
code_plain early late signal.Load0 n clear said has = refl
code_plain early late signal.Load1 n clear said has = refl
code_plain early late (signal.Rotate code) n clear said has = absurd (no_turn_read early late clear said.0 n has)

sig_plain : (u : Units) (a b : Option ℕ) (early late : List Mark) → IsLine u a b early late → (n : ℕ) → Has (what.ReadsB n) early → ((fields_of_units u).sig == 13) ≡ false
unfolding fields_of_units
sig_plain u a b early late l n has =
    let all : AreMarked early u = marked u early l.add l.mul in
    plain_signal early u.add u.mul n (signal_code u.signal) (clear_left early late l.clear) all.add all.mul has
    (code_plain early late u.signal n l.clear l.signal (has_left (what.ReadsB n) early late has))

-- operands

operand_found : (u : Units) (a b : Option ℕ) (early late : List Mark) → IsLine u a b early late → (o : Operand) → Among o u.add u.mul → IsNamedOperand o → Marked early o → IsFound u o
operand_found u a b early late l o among named is =
    (named, operand_held early u o (clear_left early late l.clear) (marked u early l.add l.mul) among named is (sig_plain u a b early late l))

add_first : (u : Units) (p : UnitDoes) → u.add ≡ Some p → Among p.a u.add u.mul
add_first u p e = inl (rw e (inl refl))

add_second : (u : Units) (p : UnitDoes) → u.add ≡ Some p → Among p.b u.add u.mul
add_second u p e = inl (rw e (inr refl))

mul_first : (u : Units) (p : UnitDoes) → u.mul ≡ Some p → Among p.a u.add u.mul
mul_first u p e = inr (rw e (inl refl))

mul_second : (u : Units) (p : UnitDoes) → u.mul ≡ Some p → Among p.b u.add u.mul
mul_second u p e = inr (rw e (inr refl))

record AreFound (u : Units) : Type 0 where
  add : EachOf (IsFound u) u.add
  mul : EachOf (IsFound u) u.mul

are_found : (u : Units) (a b : Option ℕ) (early late : List Mark) → IsLine u a b early late → AreFound u
are_found u a b early late l = record {
  add = there (AddSaid early) (λ p. IsFound u p.a × IsFound u p.b) u.add
      (λ p e said. (
        operand_found u a b early late l p.a (add_first u p e) said.does.a.named said.does.a.marked,
        operand_found u a b early late l p.b (add_second u p e) said.does.b.named said.does.b.marked,
      )) l.add;
  mul = there (MulSaid early) (λ p. IsFound u p.a × IsFound u p.b) u.mul
      (λ p e said. (
        operand_found u a b early late l p.a (mul_first u p e) said.does.a.named said.does.a.marked,
        operand_found u a b early late l p.b (mul_second u p e) said.does.b.named said.does.b.marked,
      )) l.mul;
}

-- targets and packs

to_placed : (mul : Bool) (U : List Mark) (o : Option UnitDoes) → IfSome o (DoesSaid mul U) → is_placed (to_of o) ≡ true
to_placed mul U None said = refl
to_placed mul U (Some p) said = said.placed

targets : (u : Units) (a b : Option ℕ) (early late : List Mark) → IsLine u a b early late → TargetsFit (to_of u.add) (to_of u.mul)
targets u a b early late l =
    targets_fit (to_of u.add) (to_of u.mul)
    (to_placed false early u.add (there (AddSaid early) (DoesSaid false early) u.add (λ p e said. said.does) l.add))
    (to_placed true early u.mul (there (MulSaid early) (DoesSaid true early) u.mul (λ p e said. said.does) l.mul)) l.apart

own_pack : (p : UnitDoes) (rest : ℕ) (b : Bool) → is_row_a p.to ≡ b → is_pack_at p.to p.pack ≡ true → (if b then (if b then p.pack else rest) else 0) ≡ p.pack
own_pack p rest true row fits = refl
own_pack p rest false row fits = none p.pack (rw row at fits)
  where
    none : (pack : ℕ) → ((pack == 0) || (false && (between 1 pack 7 || between 9 pack 15))) ≡ true → 0 ≡ pack
    none pack e = grind (arith, nat_tests, e)

first_pack : (p : UnitDoes) (rest : ℕ) → is_pack_at p.to p.pack ≡ true → pack_at p.to (pack_of (Some p) rest) ≡ p.pack
first_pack p rest fits = own_pack p rest (is_row_a p.to) refl fits

row_in_a : (p : Place) → is_row_a p ≡ true → in_file_a p ≡ true
row_in_a (place.FileA n) row = refl
row_in_a (place.Both n) row = never _ row
row_in_a (place.FileB n) row = never _ row

two_rows : (p q : Place) → is_row_a p ≡ true → is_row_a q ≡ true → cross p q ≡ false → ⊥
two_rows p q one other apart = crossed (in_file_a p) (in_file_a q) (in_file_b p && in_file_b q) (row_in_a p one) (row_in_a q other) apart
  where
    crossed : (a b c : Bool) → a ≡ true → b ≡ true → ((a && b) || c) ≡ false → ⊥
    crossed true true c e f g = grind (arith, g)
    crossed true false c e f g = grind (arith, f)
    crossed false b c e f g = grind (arith, e)

other_pack : (p : UnitDoes) (q : UnitDoes) (b c : Bool) → is_row_a q.to ≡ b → is_row_a p.to ≡ c → is_pack_at q.to q.pack ≡ true → cross p.to q.to ≡ false
    → (if b then (if c then p.pack else (if b then q.pack else 0)) else 0) ≡ q.pack
other_pack p q true true row other fits apart = absurd (two_rows p.to q.to other row apart)
other_pack p q true false row other fits apart = refl
other_pack p q false c row other fits apart = own_pack q 0 false row fits

second_pack : (o : Option UnitDoes) (q : UnitDoes) → is_pack_at q.to q.pack ≡ true → cross (to_of o) q.to ≡ false → pack_at q.to (pack_of o (pack_of (Some q) 0)) ≡ q.pack
second_pack None q fits apart = first_pack q 0 fits
second_pack (Some p) q fits apart = other_pack p q (is_row_a q.to) (is_row_a p.to) refl refl fits apart

pub add_held : (u : Units) (a b : Option ℕ) (early late : List Mark) → IsLine u a b early late → IfSome u.add (IsPart (fields_of_units u) ((fields_of_units u).ws == 1))
unfolding fields_of_units
add_held u a b early late l =
    let s = fields_of_units u in
    let fit : TargetsFit (to_of u.add) (to_of u.mul) = targets u a b early late l in
    there (AddSaid early) (IsPart s (s.ws == 1)) u.add
    (λ p e said. record {
      acts = said.does.acts;
      target = (let P : Option UnitDoes → Type 0 = λ o. IsTarget (exchange_of (to_of u.add) (to_of u.mul) == 1) (to_of o) in subst P e fit.add);
      packs = (let P : Option UnitDoes → Type 0 = λ o. pack_at p.to (pack_of o (pack_of u.mul 0)) ≡ p.pack in subst P (sym e) (first_pack p (pack_of u.mul 0) said.does.named.pack));
      first = (operand_found u a b early late l p.a (add_first u p e) said.does.a.named said.does.a.marked).1;
      second = (operand_found u a b early late l p.b (add_second u p e) said.does.b.named said.does.b.marked).1;
    }) l.add

pub mul_held : (u : Units) (a b : Option ℕ) (early late : List Mark) → IsLine u a b early late → IfSome u.mul (IsPart (fields_of_units u) (not ((fields_of_units u).ws == 1)))
unfolding fields_of_units
mul_held u a b early late l =
    let s = fields_of_units u in
    let fit : TargetsFit (to_of u.add) (to_of u.mul) = targets u a b early late l in
    there (MulSaid early) (IsPart s (not (s.ws == 1))) u.mul
    (λ p e said. record {
      acts = said.does.acts;
      target = (let P : Option UnitDoes → Type 0 = λ o. IsTarget (not (exchange_of (to_of u.add) (to_of u.mul) == 1)) (to_of o) in subst P e fit.mul);
      packs = (let P : Option UnitDoes → Type 0 = λ o. pack_at p.to (pack_of u.add (pack_of o 0)) ≡ p.pack in
          let Q : Option UnitDoes → Type 0 = λ o. cross (to_of u.add) (to_of o) ≡ false in
          subst P (sym e) (second_pack u.add p said.does.named.pack (subst Q e l.apart)));
      first = (operand_found u a b early late l p.a (mul_first u p e) said.does.a.named said.does.a.marked).1;
      second = (operand_found u a b early late l p.b (mul_second u p e) said.does.b.named said.does.b.marked).1;
    }) l.mul

-- the signal

quiet_small : (row : ℕ) → row < 48 → signal_of 13 row ≡ signal.Nothing
unfolding signal_of
quiet_small row low = let far : nat_le 48 row ≡ false = grind (arith, nat_tests) in rw far refl

quiet : (sig row : ℕ) → SmallSays sig row ⊎ (sig ≡ 1) → signal_of sig row ≡ signal.Nothing
unfolding signal_of
quiet sig row (inl small) = rw small.0 (quiet_small row small.1)
quiet sig row (inr e) = rw e refl

stays : (A : Type 0) (f : ℕ → ℕ) → A ⊎ ((sig : ℕ) → f sig ≡ sig) → A ⊎ (f 1 ≡ 1)
stays A f (inl a) = inl a
stays A f (inr e) = inr (e 1)

turned : (code : ℕ) → between 48 code 63 ≡ true → signal_of 13 code ≡ signal.Rotate code
unfolding signal_of
turned code fits = let far : nat_le 48 code ≡ true = (both_true (nat_le 48 code) (nat_le code 63) fits).0 in rw far refl

pub signal_held : (u : Units) (s : Signal) (a b : Option ℕ) (early late : List Mark) → u.signal ≡ s → IsLine u a b early late → SignalSaid late s
    → signal_of (over small_signal u.add (over small_signal u.mul (signal_code s))) (over row_b u.add (over row_b u.mul (rotation_or s (other_or u.other_b)))) ≡ s
unfolding fields_of_units signal_of
signal_held u signal.Nothing a b early late e l said =
    let found : AreFound u = are_found u a b early late l in
    let P : Signal → Type 0 = λ t.
    SmallSays (over small_signal u.add (over small_signal u.mul (signal_code t))) (over row_b u.add (over row_b u.mul (rotation_or t (other_or u.other_b))))
    ⊎ ((sig : ℕ) → over small_signal u.add (over small_signal u.mul sig) ≡ sig) in
    quiet _ _ (stays _ (λ sig. over small_signal u.add (over small_signal u.mul sig)) (subst P e (small_signal_or u found.add found.mul)))
signal_held u signal.End a b early late e l said =
    let all : AreMarked early u = marked u early l.add l.mul in
    rw (signal_stays early u.add u.mul 3 (no_signal_number early late l.clear said) all.add all.mul) refl
signal_held u signal.Load0 a b early late e l said =
    let all : AreMarked early u = marked u early l.add l.mul in
    rw (signal_stays early u.add u.mul 10 (no_signal_number early late l.clear said) all.add all.mul) refl
signal_held u signal.Load1 a b early late e l said =
    let all : AreMarked early u = marked u early l.add l.mul in
    rw (signal_stays early u.add u.mul 11 (no_signal_number early late l.clear said) all.add all.mul) refl
signal_held u (signal.Rotate code) a b early late e l said =
    let all : AreMarked early u = marked u early l.add l.mul in
    let none : (v : ℕ) → Has (what.Number v) early → ⊥ = no_turn_number early late l.clear said.0 in
    let free : (n : ℕ) → Has (what.ReadsB n) early → ⊥ = λ n has. no_turn_read early late l.clear said.0 n (has_left (what.ReadsB n) early late has) in
    rw (signal_stays early u.add u.mul 13 none all.add all.mul, row_b_stays early u.add u.mul code none free all.add all.mul) (turned code said.1)
