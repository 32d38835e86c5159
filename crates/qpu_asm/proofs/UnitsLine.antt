-- What a line in which no fault is found says of both units.
use Rattle.std.proofs.Common.{◌≡◌, ℕ, true, false, List, ◌++◌, Option, Some, None, refl}
use Rattle.std.specs.Prelude.{◌||◌, IfSome, is_some}
use Rattle.qpu_line.specs.declared.operand.Operand.{Operand}
use Rattle.qpu_line.specs.declared.part.Part.{Part as UnitDoes}
use Rattle.qpu_line.specs.declared.units.Units.{Units}
use Rattle.qpu_line.specs.Units.{to_of}
use Rattle.qpu_line.specs.Named.{IsNamedOperand, IsNamedPart}
use Rattle.qpu_asm.specs.declared.mark.What.TheVariants as what
use Rattle.qpu_asm.specs.declared.mark.Mark.{Mark}
use Rattle.qpu_asm.specs.Clashes.{cross}
use Rattle.qpu_asm.specs.reader.Meanings.{address_a, address_b, reads_by, unless}
use Rattle.qpu_asm.proofs.MarkLemmas.{has_left, before_left, IsClear}
use Rattle.qpu_asm.proofs.OperandMarks.{Marked, IsSaid}
use Rattle.qpu_asm.proofs.UnitMarks.{AddSaid, MulSaid}
use Rattle.qpu_asm.proofs.ExtraMarks.{SignalSaid, is_turn, OtherSaid}
use Rattle.qpu_asm.proofs.SharedFields.{EachOf, AreMarked}

-- what a line says of both units: marks of the units stand before those of the other parts
pub record IsLine (u : Units) (a b : Option ℕ) (early late : List Mark) : Type 0 where
  pub clear : IsClear (early ++ late)
  pub add : IfSome u.add (AddSaid early)
  pub mul : IfSome u.mul (MulSaid early)
  pub apart : cross (to_of u.add) (to_of u.mul) ≡ false
  pub sets : u.sets ≡ true → (is_some u.add || is_some u.mul) ≡ true
  pub signal : SignalSaid late u.signal
  pub turning : is_turn u.signal ≡ true → is_some u.mul ≡ true
  pub other_a : IfSome a (OtherSaid what.ReadsA late)
  pub other_b : IfSome b (OtherSaid what.ReadsB late)
  pub is_a : u.other_a ≡ unless (reads_by address_a u.add || reads_by address_a u.mul) a
  pub is_b : u.other_b ≡ unless (reads_by address_b u.add || reads_by address_b u.mul) b

-- marks that stand first are clear too
pub clear_left : (xs ys : List Mark) → IsClear (xs ++ ys) → IsClear xs
clear_left xs ys c = record {
  right = λ a. c.right (has_left _ xs ys a);
  near = λ a. c.near (has_left _ xs ys a);
  known = λ a. c.known (has_left _ xs ys a);
  sets = λ a. c.sets (before_left _ _ xs ys a);
  reads_a = λ n m a b. c.reads_a n m (has_left _ xs ys a) (has_left _ xs ys b);
  reads_b = λ n m a b. c.reads_b n m (has_left _ xs ys a) (has_left _ xs ys b);
  numbers = λ n m a b. c.numbers n m (has_left _ xs ys a) (has_left _ xs ys b);
  mixed = λ n m a b. c.mixed n m (has_left _ xs ys a) (has_left _ xs ys b);
  unpacks = λ n u v a b. c.unpacks n u v (has_left _ xs ys a) (has_left _ xs ys b);
  turns = λ n a b. c.turns n (has_left _ xs ys a) (has_left _ xs ys b);
  signals = λ a b. c.signals (has_left _ xs ys a) (has_left _ xs ys b);
  number_turns = λ n a. c.number_turns n (before_left _ _ xs ys a);
  number_signals = λ n a. c.number_signals n (before_left _ _ xs ys a);
  fixed = λ a. c.fixed (before_left _ _ xs ys a);
  writes = λ p q a. c.writes p q (before_left _ _ xs ys a);
}

-- what holds of each operand

pub each_add : (P : Operand → Type 0) (U : List Mark) (o : Option UnitDoes) → ((y : Operand) → IsSaid false U y → P y) → IfSome o (AddSaid U) → EachOf P o
each_add P U None f said = tt
each_add P U (Some p) f said = (f p.a said.does.a, f p.b said.does.b)

pub each_mul : (P : Operand → Type 0) (U : List Mark) (o : Option UnitDoes) → ((y : Operand) → IsSaid true U y → P y) → IfSome o (MulSaid U) → EachOf P o
each_mul P U None f said = tt
each_mul P U (Some p) f said = (f p.a said.does.a, f p.b said.does.b)

pub marked : (u : Units) (early : List Mark) → IfSome u.add (AddSaid early) → IfSome u.mul (MulSaid early) → AreMarked early u
marked u early add mul = record { add = each_add (Marked early) early u.add (λ y s. s.marked) add; mul = each_mul (Marked early) early u.mul (λ y s. s.marked) mul }

-- of a unit that is there
pub there : (P Q : UnitDoes → Type 0) (o : Option UnitDoes) → ((p : UnitDoes) → o ≡ Some p → P p → Q p) → IfSome o P → IfSome o Q
there P Q None f is = tt
there P Q (Some p) f is = f p refl is

pub record AreNamed (u : Units) : Type 0 where
  pub add : IfSome u.add IsNamedPart
  pub mul : IfSome u.mul IsNamedPart
  pub add_operands : EachOf IsNamedOperand u.add
  pub mul_operands : EachOf IsNamedOperand u.mul

pub are_named : (u : Units) (a b : Option ℕ) (early late : List Mark) → IsLine u a b early late → AreNamed u
are_named u a b early late l = record {
  add = there (AddSaid early) IsNamedPart u.add (λ p e said. said.does.named) l.add;
  mul = there (MulSaid early) IsNamedPart u.mul (λ p e said. said.does.named) l.mul;
  add_operands = each_add IsNamedOperand early u.add (λ y s. s.named) l.add;
  mul_operands = each_mul IsNamedOperand early u.mul (λ y s. s.named) l.mul;
}
