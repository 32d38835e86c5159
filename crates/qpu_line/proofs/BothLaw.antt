-- A canonical word of an instruction of both units says that instruction.
use Rattle.std.proofs.Common.{◌≡◌, ℕ, ◌+◌, ◌*◌, ◌/◌, ◌<◌, ◌^◌, Bool, true, false, Option, Some, None, refl, ap, ◌∙◌, arith}
use Rattle.std.specs.Prelude.{◌==◌, ◌||◌, not, nat_lt, IfSome}
use Rattle.std.proofs.lemmas.Bool.Decides.{nat_tests}
use Rattle.qpu_word.specs.declared.word.Fields.{Fields}
use Rattle.qpu_word.specs.Words.{field, fields_of, is_alu, is_small, is_unit_word}
use Rattle.qpu_word.specs.Form.{form_of}
use Rattle.qpu_line.specs.declared.operand.Operand.{Operand}
use Rattle.qpu_line.specs.declared.operand.Operand.TheVariants.{Accumulator, FileA, FileB, Small}
use Rattle.qpu_line.specs.declared.part.Part.{Part}
use Rattle.qpu_line.specs.declared.units.Signal.{Signal}
use Rattle.qpu_line.specs.declared.units.Signal.TheVariants.{Nothing, End, Load0, Load1, Rotate}
use Rattle.qpu_line.specs.declared.units.Units.{Units}
use Rattle.qpu_line.specs.declared.slots.UnitFields.{UnitFields}
use Rattle.qpu_line.specs.declared.instruction.Instruction.TheVariants.{Both}
use Rattle.qpu_word.specs.Canonical.{IsCanonical}
use Rattle.qpu_line.specs.Canonical.{canonical_instruction}
use Rattle.qpu_line.specs.Instructions.{instruction_of, word_of}
use Rattle.qpu_line.specs.Slots.{unit_fields, units_word, unit_high, units_low}
use Rattle.qpu_line.specs.Targets.{address_of}
use Rattle.qpu_line.specs.Units.{operand_of, part_of, units_of, fields_of_units, mux_of, op_of, cond_of, to_of, first_of, second_of, small_signal, over, signal_code}
use Rattle.qpu_line.specs.Both.{InRange, IsOperand, IsPart, IsBoth}
use Rattle.qpu_line.proofs.RuleLemmas.{read_of_canonical}
use Rattle.qpu_line.proofs.AgainLemmas.{bit_below, sets_again}

-- operands come back
operand_again : (s : UnitFields) (o : Operand) → IsOperand s o → operand_of s (mux_of o) ≡ o
operand_again s (Accumulator n) is = let low : nat_lt n 6 ≡ true = grind (arith, nat_tests, is) in rw low refl
operand_again s (FileA n unpack) is = rw (is.0, is.1) refl
operand_again s (FileB n) is = rw (is.1, is.0) refl
operand_again s (Small code) is = rw (is.1, is.0) refl

mux_below : (s : UnitFields) (o : Operand) → IsOperand s o → mux_of o < 8
mux_below s (Accumulator n) is = omega arith
mux_below s (FileA n unpack) is = omega arith
mux_below s (FileB n) is = omega arith
mux_below s (Small code) is = omega arith

first_below : (s : UnitFields) (in_b : Bool) (p : Option Part) → IfSome p (IsPart s in_b) → first_of p < 8
first_below s in_b None is = omega arith
first_below s in_b (Some p) is = mux_below s p.a is.first

second_below : (s : UnitFields) (in_b : Bool) (p : Option Part) → IfSome p (IsPart s in_b) → second_of p < 8
second_below s in_b None is = omega arith
second_below s in_b (Some p) is = mux_below s p.b is.second

-- parts come back
part_again : (s : UnitFields) (in_b : Bool) (p : Option Part) → IfSome p (IsPart s in_b)
    → part_of s in_b (op_of p) (cond_of p) (address_of (to_of p)) (first_of p) (second_of p) ≡ p
unfolding part_of
part_again s in_b None is = refl
part_again s in_b (Some p) is = rw (is.acts, is.target, is.packs, operand_again s p.a is.first, operand_again s p.b is.second) refl

-- the instruction comes back from its fields
add_again : (u : Units) → IsBoth u → (units_of (fields_of_units u)).add ≡ u.add
unfolding units_of fields_of_units
add_again u is = part_again (fields_of_units u) ((fields_of_units u).ws == 1) u.add is.add

mul_again : (u : Units) → IsBoth u → (units_of (fields_of_units u)).mul ≡ u.mul
unfolding units_of fields_of_units
mul_again u is = part_again (fields_of_units u) (not ((fields_of_units u).ws == 1)) u.mul is.mul

flags_again : (u : Units) → (units_of (fields_of_units u)).sets ≡ u.sets
unfolding units_of fields_of_units
flags_again u = sets_again u.sets

pub units_again : (u : Units) → IsBoth u → units_of (fields_of_units u) ≡ u
unfolding units_of
units_again u is = λ i. record {
  add = add_again u is i;
  mul = mul_again u is i;
  sets = flags_again u i;
  signal = is.signal i;
  other_a = is.other_a i;
  other_b = is.other_b i;
}

-- the signal is one of those of both units
abbrev pub is_unit_signal : ℕ → Bool
is_unit_signal n = ((n == 1) || (n == 3) || (n == 10) || (n == 11)) || (n == 13)

signal_is : (g : Signal) → is_unit_signal (signal_code g) ≡ true
signal_is Nothing = refl
signal_is End = refl
signal_is Load0 = refl
signal_is Load1 = refl
signal_is (Rotate code) = refl

operand_signal : (o : Operand) (n : ℕ) → is_unit_signal n ≡ true → is_unit_signal (small_signal o n) ≡ true
operand_signal (Accumulator m) n is = is
operand_signal (FileA m unpack) n is = is
operand_signal (FileB m) n is = is
operand_signal (Small code) n is = refl

part_signal : (p : Option Part) (n : ℕ) → is_unit_signal n ≡ true → is_unit_signal (over small_signal p n) ≡ true
part_signal None n is = is
part_signal (Some p) n is = operand_signal p.a (small_signal p.b n) (operand_signal p.b n is)

pub units_signal : (u : Units) → is_unit_signal (fields_of_units u).sig ≡ true
unfolding fields_of_units
units_signal u = part_signal u.add (over small_signal u.mul (signal_code u.signal)) (part_signal u.mul (signal_code u.signal) (signal_is u.signal))

signal_below : (n : ℕ) → is_unit_signal n ≡ true → n < 16
signal_below n is = grind (arith, nat_tests, is)

-- the fields come back from their word
pub record IsWhole (s : UnitFields) : Type 0 where
  pub range : InRange s
  pub sig : s.sig < 16
  pub sf : s.sf < 2
  pub ws : s.ws < 2
  pub add_a : s.add_a < 8
  pub add_b : s.add_b < 8
  pub mul_a : s.mul_a < 8
  pub mul_b : s.mul_b < 8

pub whole : (u : Units) → IsBoth u → IsWhole (fields_of_units u)
unfolding fields_of_units
whole u is = record {
  range = is.range;
  sig = signal_below (fields_of_units u).sig (units_signal u);
  sf = bit_below u.sets;
  ws = bit_below _;
  add_a = first_below (fields_of_units u) ((fields_of_units u).ws == 1) u.add is.add;
  add_b = second_below (fields_of_units u) ((fields_of_units u).ws == 1) u.add is.add;
  mul_a = first_below (fields_of_units u) (not ((fields_of_units u).ws == 1)) u.mul is.mul;
  mul_b = second_below (fields_of_units u) (not ((fields_of_units u).ws == 1)) u.mul is.mul;
}

-- both halves of a word
halves : (high low : ℕ) → low < 2 ^ 32 → (high * 2 ^ 32 + low) / 2 ^ 32 ≡ high
halves high low below = omega arith

low_below : (s : UnitFields) → units_low s < 2 ^ 32
low_below s = omega arith

pub fields_again : (s : UnitFields) → IsWhole s → unit_fields (fields_of (units_word s)) ≡ s
unfolding units_word
fields_again s h =
    let sig : s.sig < 16 = h.sig in
    let unpack : s.unpack < 8 = h.range.unpack in
    let pack : s.pack < 16 = h.range.pack in
    let cond_add : s.cond_add < 8 = h.range.cond_add in
    let cond_mul : s.cond_mul < 8 = h.range.cond_mul in
    let sf : s.sf < 2 = h.sf in
    let ws : s.ws < 2 = h.ws in
    let waddr_add : s.waddr_add < 64 = h.range.waddr_add in
    let waddr_mul : s.waddr_mul < 64 = h.range.waddr_mul in
    let op_mul : s.op_mul < 8 = h.range.op_mul in
    let op_add : s.op_add < 32 = h.range.op_add in
    let raddr_a : s.raddr_a < 64 = h.range.raddr_a in
    let raddr_b : s.raddr_b < 64 = h.range.raddr_b in
    let add_a : s.add_a < 8 = h.add_a in
    let add_b : s.add_b < 8 = h.add_b in
    let mul_a : s.mul_a < 8 = h.mul_a in
    let mul_b : s.mul_b < 8 = h.mul_b in
    let e_sig : field (unit_high s * 2 ^ 32 + units_low s) 60 4 ≡ s.sig = omega arith in
    let e_unpack : field (unit_high s * 2 ^ 32 + units_low s) 57 3 ≡ s.unpack = omega arith in
    let e_pack : field (unit_high s * 2 ^ 32 + units_low s) 52 4 ≡ s.pack = omega arith in
    let e_cond_add : field (unit_high s * 2 ^ 32 + units_low s) 49 3 ≡ s.cond_add = omega arith in
    let e_cond_mul : field (unit_high s * 2 ^ 32 + units_low s) 46 3 ≡ s.cond_mul = omega arith in
    let e_sf : field (unit_high s * 2 ^ 32 + units_low s) 45 1 ≡ s.sf = omega arith in
    let e_ws : field (unit_high s * 2 ^ 32 + units_low s) 44 1 ≡ s.ws = omega arith in
    let e_waddr_add : field (unit_high s * 2 ^ 32 + units_low s) 38 6 ≡ s.waddr_add = omega arith in
    let e_waddr_mul : field (unit_high s * 2 ^ 32 + units_low s) 32 6 ≡ s.waddr_mul = omega arith in
    let e_op_mul : field (unit_high s * 2 ^ 32 + units_low s) 29 3 ≡ s.op_mul = omega arith in
    let e_op_add : field (unit_high s * 2 ^ 32 + units_low s) 24 5 ≡ s.op_add = omega arith in
    let e_raddr_a : field (unit_high s * 2 ^ 32 + units_low s) 18 6 ≡ s.raddr_a = omega arith in
    let e_raddr_b : field (unit_high s * 2 ^ 32 + units_low s) 12 6 ≡ s.raddr_b = omega arith in
    let e_add_a : field (unit_high s * 2 ^ 32 + units_low s) 9 3 ≡ s.add_a = omega arith in
    let e_add_b : field (unit_high s * 2 ^ 32 + units_low s) 6 3 ≡ s.add_b = omega arith in
    let e_mul_a : field (unit_high s * 2 ^ 32 + units_low s) 3 3 ≡ s.mul_a = omega arith in
    let e_mul_b : field (unit_high s * 2 ^ 32 + units_low s) 0 3 ≡ s.mul_b = omega arith in
    λ i. record {
      sig = e_sig i;
      unpack = e_unpack i;
      pack = e_pack i;
      cond_add = e_cond_add i;
      cond_mul = e_cond_mul i;
      sf = e_sf i;
      ws = e_ws i;
      waddr_add = e_waddr_add i;
      waddr_mul = e_waddr_mul i;
      op_mul = e_op_mul i;
      op_add = e_op_add i;
      raddr_a = e_raddr_a i;
      raddr_b = e_raddr_b i;
      add_a = e_add_a i;
      add_b = e_add_b i;
      mul_a = e_mul_a i;
      mul_b = e_mul_b i;
    }

-- the form of such a word
none_there : (a b : Bool) → a ≡ false → b ≡ false → (a || b) ≡ true → ⊥
none_there a b left right some = grind (arith, left, right, some)

read_as : (f : Fields) (alu small : Bool) → is_alu f ≡ alu → is_small f ≡ small → is_unit_word f ≡ true → instruction_of (form_of f) f ≡ Both (units_of (unit_fields f))
unfolding instruction_of form_of
read_as f true small is_a is_s unit = rw is_a refl
read_as f false true is_a is_s unit = rw (is_a, is_s) refl
read_as f false false is_a is_s unit = absurd (none_there (is_alu f) (is_small f) is_a is_s unit)

pub unit_there : (u : Units) → IsBoth u → is_unit_word (fields_of (units_word (fields_of_units u))) ≡ true
unit_there u is =
    let e : unit_fields (fields_of (units_word (fields_of_units u))) ≡ fields_of_units u = fields_again (fields_of_units u) (whole u is) in
    ap (λ s. is_unit_signal s.sig) e ∙ units_signal u

pub both_again : (u : Units) → IsBoth u → IsCanonical (word_of (Both u)) → canonical_instruction (word_of (Both u)) ≡ Some (Both u)
unfolding word_of
both_again u is c =
    let w : ℕ = units_word (fields_of_units u) in
    read_of_canonical w c
    ∙ (ap (λ t. Some t) (read_as (fields_of w) (is_alu (fields_of w)) (is_small (fields_of w)) refl refl (unit_there u is))
    ∙ (ap (λ s. Some (Both (units_of s))) (fields_again (fields_of_units u) (whole u is)) ∙ ap (λ t. Some (Both t)) (units_again u is)))
