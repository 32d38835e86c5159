-- What the fields of a canonical word of both units say is what a line can name.
use Rattle.std.proofs.Common.{◌≡◌, ℕ, ◌<◌, Bool, true, false, refl, sym, ap, ◌∙◌, arith}
use Rattle.std.specs.Prelude.{◌==◌, ◌||◌, ◌&&◌, not, nat_lt, nat_le, if◌then◌else◌, Some, None, IfSome, IsSome}
use Rattle.std.proofs.lemmas.Bool.Decides.{nat_tests}
use Rattle.qpu_word.specs.Words.{between, is_read_address, is_write_address, is_unary}
use Rattle.qpu_word.specs.Operations.{add_op, mul_op}
use Rattle.qpu_line.specs.declared.part.Part.{Part}
use Rattle.qpu_line.specs.declared.slots.UnitFields.{UnitFields}
use Rattle.qpu_word.specs.Canonical.{unit_rule}
use Rattle.qpu_line.specs.Targets.{target_at_address, is_row_a}
use Rattle.qpu_line.specs.Units.{operand_of, part_to, any_uses}
use Rattle.qpu_line.specs.Named.{is_unpack_at, IsNamedPart, IsAddPart, IsMulPart}
use Rattle.qpu_line.proofs.TargetLemmas.{address_back}
use Rattle.qpu_line.proofs.UnitLemmas.{idle}
use Rattle.qpu_line.proofs.BothLaw.{IsWhole}
use Rattle.qpu_line.proofs.SaidLemmas.{acts, IsSaid}
use Rattle.qpu_line.proofs.SourceLemmas.{Sources, all_sources, part_sources, first_of_two, second_of_two, of_active, operand_named}
use Rattle.qpu_line.proofs.NamedLemmas.{acts_is, add_there, mul_there}

-- a part that is there
pub if_there : (P : Part → Type 0) (nothing : Bool) (p : Part) → (nothing ≡ false → P p) → IfSome (if nothing then None else Some p) P
if_there P true p some = tt
if_there P false p some = some refl

acting : (op cond : ℕ) → idle op cond ≡ false → acts op cond ≡ true
acting op cond is = acts_is op cond ∙ rw is refl

-- what operands name
source_by : (named nowhere : Bool) → named ≡ true → nowhere ≡ false → (named && not nowhere) ≡ true
source_by named nowhere is at = rw (is, at) refl

unused_by : (used nowhere : Bool) → (used && nowhere) ≡ false → used ≡ true → nowhere ≡ false
unused_by true nowhere none is = none
unused_by false nowhere none is = absurd (grind (arith, is))

file_by : (used small nowhere : Bool) → (used && not small && nowhere) ≡ false → used ≡ true → small ≡ false → nowhere ≡ false
file_by true true nowhere none is other = absurd (grind (arith, other))
file_by true false nowhere none is other = none
file_by false small nowhere none is other = absurd (grind (arith, is))

read_a_by : (a b small : Bool) → (not a || (not small && not b)) ≡ false → a ≡ true
read_a_by true b small none = refl
read_a_by false b small none = sym none

read_b_by : (a b small : Bool) → (not a || (not small && not b)) ≡ false → small ≡ false → b ≡ true
read_b_by a true small none other = refl
read_b_by true false true none other = sym other
read_b_by true false false none other = sym none
read_b_by false false small none other = sym none

unpack_by : (used : Bool) (row unpack : ℕ) → unpack < 8 → (not (unpack == 0) && (nat_le 32 row || not used)) ≡ false → is_unpack_at row unpack ≡ true
unpack_by used row unpack below none = grind (arith, nat_tests, none)

code_by : (small used turned : Bool) (code : ℕ) → (small && nat_le 48 code && (turned || used)) ≡ false → used ≡ true → small ≡ true → code < 48
code_by small used turned code none is is_small = grind (arith, nat_tests, none, is, is_small)

pub sources : (s : UnitFields) → IsWhole s → IsSaid s → all_sources s
sources s h d = record {
  a = λ is. source_by (is_read_address s.raddr_a) (s.raddr_a == 39) (read_a_by _ (is_read_address s.raddr_b) (s.sig == 13) d.read) (unused_by (any_uses s 6) (s.raddr_a == 39) d.source_a is);
  unpack = λ is. unpack_by (any_uses s 6) s.raddr_a s.unpack h.range.unpack d.unpacking;
  b = λ is other. source_by (is_read_address s.raddr_b) (s.raddr_b == 39) (read_b_by (is_read_address s.raddr_a) _ (s.sig == 13) d.read other) (file_by (any_uses s 7) (s.sig == 13) (s.raddr_b == 39) d.source_b is other);
  small = λ is small. code_by (s.sig == 13) (any_uses s 7) (acts s.op_mul s.cond_mul && (nat_lt 3 s.mul_a || nat_lt 3 s.mul_b)) s.raddr_b d.rotation is small;
}

operand_sources : (s : UnitFields) (op cond x y : ℕ) → idle op cond ≡ false → part_sources s op cond x y → Sources s ((x == 6) || (y == 6)) ((x == 7) || (y == 7))
operand_sources s op cond x y is from = of_active s (idle op cond) ((x == 6) || (y == 6)) ((x == 7) || (y == 7)) is from

-- a part, by the fields of its unit
cond_by : (op cond : ℕ) → cond < 8 → idle op cond ≡ false → between 1 cond 7 ≡ true
cond_by op cond below is = grind (arith, nat_tests, is)

always_by : (nowhere : Bool) (cond : ℕ) → (if nowhere then cond == 1 else true) ≡ true → nowhere ≡ true → cond ≡ 1
always_by true cond rule is = grind (arith, nat_tests, rule)
always_by false cond rule is = absurd (grind (arith, is))

rule_by : (active : Bool) (op cond address x y : ℕ) → active ≡ true → unit_rule active op cond address x y ≡ true → (address == 39) ≡ true → cond ≡ 1
rule_by true op cond address x y is rule at = always_by (address == 39) cond rule at
rule_by false op cond address x y is rule at = absurd (grind (arith, is))

to_by : (active named : Bool) → active ≡ true → (active && not named) ≡ false → named ≡ true
to_by true true is none = refl
to_by true false is none = sym none
to_by false named is none = absurd (grind (arith, is))

pack_by : (row : Bool) (pack : ℕ) → pack < 16 → (pack == 8) ≡ false
    → (((if row then pack else 0) == 0) || (row && (between 1 (if row then pack else 0) 7 || between 9 (if row then pack else 0) 15))) ≡ true
pack_by true pack below known = grind (arith, nat_tests, known)
pack_by false pack below known = refl

known_by : (eighth rest : Bool) → (eighth || rest) ≡ false → eighth ≡ false
known_by true rest none = none
known_by false rest none = refl

part_named : (s : UnitFields) (in_b : Bool) (op cond address x y : ℕ) → IsWhole s → IsSaid s → cond < 8 → x < 8 → y < 8 → idle op cond ≡ false
    → unit_rule (acts op cond) op cond address x y ≡ true → (acts op cond && not (is_write_address address)) ≡ false → part_sources s op cond x y
    → IsNamedPart (part_to s (target_at_address in_b address) op cond x y)
part_named s in_b op cond address x y h d below xs ys is rule named from =
    let both : Sources s ((x == 6) || (y == 6)) ((x == 7) || (y == 7)) = operand_sources s op cond x y is from in
    record {
      cond = cond_by op cond below is;
      always = (λ at. rule_by (acts op cond) op cond address x y (acting op cond is) rule (rw (address_back in_b address) at at));
      to = rw (address_back in_b address) (to_by (acts op cond) (is_write_address address) (acting op cond is) named);
      pack = pack_by (is_row_a (target_at_address in_b address)) s.pack h.range.pack (known_by (s.pack == 8) _ d.packing);
      a = operand_named s x xs (first_of_two s (x == 6) (x == 7) (y == 6) (y == 7) both);
      b = operand_named s y ys (second_of_two s (x == 6) (x == 7) (y == 6) (y == 7) both);
    }

-- operations
add_code : (op : ℕ) → op < 32 → (op == 0) ≡ false → between 1 op 8 ≡ false → (between 9 op 11 || between 25 op 29) ≡ false → IsSome (add_op op)
unfolding add_op
add_code op below some float reserved = grind (arith, nat_tests, some, float, reserved)

mul_code : (op : ℕ) → op < 8 → (op == 0) ≡ false → (op == 1) ≡ false → IsSome (mul_op op)
unfolding mul_op
mul_code op below some float = grind (arith, nat_tests, some, float)

left_of : (a b : Bool) → (a || b) ≡ false → a ≡ false
left_of true b none = none
left_of false b none = refl

right_of : (a b : Bool) → (a || b) ≡ false → b ≡ false
right_of true b none = absurd (grind (arith, none))
right_of false b none = none

twice_by : (active unary : Bool) (x y : ℕ) → active ≡ true → (not (active && unary) || (y == x)) ≡ true → unary ≡ true → y ≡ x
twice_by true true x y is rule unary = grind (arith, nat_tests, rule)
twice_by true false x y is rule unary = absurd (grind (arith, unary))
twice_by false unary x y is rule is_unary = absurd (grind (arith, is))

pub add_named : (s : UnitFields) → IsWhole s → IsSaid s → part_sources s s.op_add s.cond_add s.add_a s.add_b → idle s.op_add s.cond_add ≡ false → IsAddPart (add_there s)
add_named s h d from is = record {
  op = add_code s.op_add h.range.op_add (left_of (s.op_add == 0) (s.cond_add == 0) is) (left_of (between 1 s.op_add 8) (s.op_mul == 1) d.float) d.reserved;
  twice = (λ unary. ap (operand_of s) (twice_by (acts s.op_add s.cond_add) (is_unary s.op_add) s.add_a s.add_b (acting s.op_add s.cond_add is) d.operands unary));
  part = part_named s (s.ws == 1) s.op_add s.cond_add s.waddr_add s.add_a s.add_b h d h.range.cond_add h.add_a h.add_b is d.adds d.add_to from;
}

pub mul_named : (s : UnitFields) → IsWhole s → IsSaid s → part_sources s s.op_mul s.cond_mul s.mul_a s.mul_b → idle s.op_mul s.cond_mul ≡ false → IsMulPart (mul_there s)
mul_named s h d from is = record {
  op = mul_code s.op_mul h.range.op_mul (left_of (s.op_mul == 0) (s.cond_mul == 0) is) (right_of (between 1 s.op_add 8) (s.op_mul == 1) d.float);
  part = part_named s (not (s.ws == 1)) s.op_mul s.cond_mul s.waddr_mul s.mul_a s.mul_b h d h.range.cond_mul h.mul_a h.mul_b is d.muls d.mul_to from;
}
