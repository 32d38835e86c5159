-- The numbers of both units' parts are below the bounds of their fields.
use Rattle.std.proofs.Common.{◌≡◌, ℕ, ◌<◌, Bool, true, false, List, Option, Some, None, arith}
use Rattle.std.specs.Prelude.{◌==◌, ◌&&◌, ◌||◌, nat_lt, nat_le, IfSome, if◌then◌else◌}
use Rattle.std.proofs.lemmas.Bool.Decides.{nat_tests}
use Rattle.qpu_word.specs.declared.name.Place.{Place}
use Rattle.qpu_word.specs.Words.{between, is_write_address}
use Rattle.qpu_line.specs.declared.operand.Operand.{Operand}
use Rattle.qpu_line.specs.declared.operand.Operand.TheVariants as operand
use Rattle.qpu_line.specs.declared.part.Part.{Part as UnitDoes}
use Rattle.qpu_line.specs.declared.units.Signal.{Signal}
use Rattle.qpu_line.specs.declared.units.Signal.TheVariants as signal
use Rattle.qpu_line.specs.declared.units.Units.{Units}
use Rattle.qpu_line.specs.Targets.{address_of, is_row_a}
use Rattle.qpu_line.specs.Units.{row_a, unpack_of, row_b, op_of, cond_of, to_of, pack_of, rotation_or, other_or, fields_of_units}
use Rattle.qpu_line.specs.Both.{InRange}
use Rattle.qpu_line.specs.Named.{is_source, IsNamedOperand, is_pack_at, IsNamedPart, IsOther}
use Rattle.qpu_asm.specs.declared.mark.What.{What}
use Rattle.qpu_asm.specs.declared.mark.What.TheVariants as what
use Rattle.qpu_asm.specs.declared.mark.Mark.{Mark}
use Rattle.qpu_asm.specs.reader.Meanings.{address_a, address_b, reads_by, unless}
use Rattle.qpu_asm.proofs.UnitMarks.{AddSaid, MulSaid}
use Rattle.qpu_asm.proofs.ExtraMarks.{SignalSaid, OtherSaid}
use Rattle.qpu_asm.proofs.SharedFields.{each_of, both_keep}
use Rattle.qpu_asm.proofs.TestLemmas.{both_true}
use Rattle.qpu_asm.proofs.UnitsLine.{IsLine, AreNamed, are_named}

-- ranges

low_unpack : (y : Operand) → IsNamedOperand y → (r : ℕ) → r < 8 → unpack_of y r < 8
low_unpack (operand.FileA n v) named r low = unpack_by (nat_lt n 32) v named.1
  where
    unpack_by : (b : Bool) (v : ℕ) → ((v == 0) || (b && between 1 v 7)) ≡ true → v < 8
    unpack_by true v fits = grind (arith, nat_tests, fits)
    unpack_by false v fits = grind (arith, nat_tests, fits)
low_unpack (operand.Accumulator n) named r low = low
low_unpack (operand.FileB n) named r low = low
low_unpack (operand.Small code) named r low = low

low_source : (n : ℕ) → is_source n ≡ true → n < 64
low_source n source = grind (arith, nat_tests, source)

low_a : (y : Operand) → IsNamedOperand y → (r : ℕ) → r < 64 → row_a y r < 64
low_a (operand.FileA n v) named r low = low_source n named.0
low_a (operand.Accumulator n) named r low = low
low_a (operand.FileB n) named r low = low
low_a (operand.Small code) named r low = low

low_b : (y : Operand) → IsNamedOperand y → (r : ℕ) → r < 64 → row_b y r < 64
low_b (operand.FileB n) named r low = low_source n named
low_b (operand.Small code) named r low = omega arith
low_b (operand.Accumulator n) named r low = low
low_b (operand.FileA n v) named r low = low

pub other_source : (n : ℕ) → IsOther n → is_source n ≡ true
other_source n other = (both_true (is_source n) (nat_le 32 n) other).0

other_low : (reading : ℕ → What) (late : List Mark) (b : Bool) (o : Option ℕ) → IfSome o (OtherSaid reading late) → other_or (unless b o) < 64
other_low reading late true o said = omega arith
other_low reading late false None said = omega arith
other_low reading late false (Some n) said = low_source n (other_source n said.fits)

rotation_low : (late : List Mark) (s : Signal) (n : ℕ) → SignalSaid late s → n < 64 → rotation_or s n < 64
rotation_low late signal.Nothing n said low = low
rotation_low late signal.End n said low = low
rotation_low late signal.Load0 n said low = low
rotation_low late signal.Load1 n said low = low
rotation_low late (signal.Rotate code) n said low = let e = said.1 in grind (arith, nat_tests, e)

pack_low : (to : Place) (pack : ℕ) → is_pack_at to pack ≡ true → pack < 16
pack_low to pack fits = by_row (is_row_a to) fits
  where
    by_row : (b : Bool) → ((pack == 0) || (b && (between 1 pack 7 || between 9 pack 15))) ≡ true → pack < 16
    by_row true e = grind (arith, nat_tests, e)
    by_row false e = grind (arith, nat_tests, e)

pack_by : (o : Option UnitDoes) (rest : ℕ) → IfSome o IsNamedPart → rest < 16 → pack_of o rest < 16
pack_by None rest named low = low
pack_by (Some p) rest named low = either (is_row_a p.to)
  where
    either : (b : Bool) → (if b then p.pack else rest) < 16
    either true = pack_low p.to p.pack named.pack
    either false = low

cond_low : (o : Option UnitDoes) → IfSome o IsNamedPart → cond_of o < 8
cond_low None named = omega arith
cond_low (Some p) named = let e = named.cond in grind (arith, nat_tests, e)

address_low : (a : ℕ) → is_write_address a ≡ true → a < 64
address_low a is = grind (arith, nat_tests, is)

to_low : (o : Option UnitDoes) → IfSome o IsNamedPart → address_of (to_of o) < 64
to_low None named = omega arith
to_low (Some p) named = address_low (address_of p.to) named.to

add_op_low : (U : List Mark) (o : Option UnitDoes) → IfSome o (AddSaid U) → op_of o < 32
add_op_low U None said = omega arith
add_op_low U (Some p) said = said.low

mul_op_low : (U : List Mark) (o : Option UnitDoes) → IfSome o (MulSaid U) → op_of o < 8
mul_op_low U None said = omega arith
mul_op_low U (Some p) said = said.low

pub in_range : (u : Units) (a b : Option ℕ) (early late : List Mark) → IsLine u a b early late → InRange (fields_of_units u)
unfolding fields_of_units
in_range u a b early late l =
    let n : AreNamed u = are_named u a b early late l in
    let base_a : other_or u.other_a < 64 = rw l.is_a (other_low what.ReadsA late (reads_by address_a u.add || reads_by address_a u.mul) a l.other_a) in
    let base_b : other_or u.other_b < 64 = rw l.is_b (other_low what.ReadsB late (reads_by address_b u.add || reads_by address_b u.mul) b l.other_b) in
    record {
      unpack = both_keep unpack_of (λ x. x < 8) u.add u.mul 0 (each_of IsNamedOperand _ u.add low_unpack n.add_operands) (each_of IsNamedOperand _ u.mul low_unpack n.mul_operands) (omega arith);
      pack = pack_by u.add (pack_of u.mul 0) n.add (pack_by u.mul 0 n.mul (omega arith));
      cond_add = cond_low u.add n.add;
      cond_mul = cond_low u.mul n.mul;
      waddr_add = to_low u.add n.add;
      waddr_mul = to_low u.mul n.mul;
      op_mul = mul_op_low early u.mul l.mul;
      op_add = add_op_low early u.add l.add;
      raddr_a = both_keep row_a (λ x. x < 64) u.add u.mul (other_or u.other_a) (each_of IsNamedOperand _ u.add low_a n.add_operands) (each_of IsNamedOperand _ u.mul low_a n.mul_operands) base_a;
      raddr_b = both_keep row_b (λ x. x < 64) u.add u.mul (rotation_or u.signal (other_or u.other_b)) (each_of IsNamedOperand _ u.add low_b n.add_operands) (each_of IsNamedOperand _ u.mul low_b n.mul_operands)
          (rotation_low late u.signal (other_or u.other_b) l.signal base_b);
    }
