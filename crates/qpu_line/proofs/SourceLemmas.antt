-- What operands that a line can name tell of the fields that they share, and the other way round.
use Rattle.std.proofs.Common.{◌≡◌, ℕ, ◌<◌, Bool, true, false, refl, subst, arith}
use Rattle.std.specs.Prelude.{◌==◌, ◌||◌, ◌&&◌, not, nat_lt, if◌then◌else◌}
use Rattle.std.proofs.lemmas.Bool.Decides.{nat_tests}
use Rattle.qpu_line.specs.declared.operand.Operand.TheVariants.{Small, FileB}
use Rattle.qpu_line.specs.declared.slots.UnitFields.{UnitFields}
use Rattle.qpu_line.specs.Units.{operand_of, part_uses, any_uses}
use Rattle.qpu_line.specs.Named.{is_source, is_unpack_at, IsNamedOperand}

-- what the fields keep where mux 6 is used, and where mux 7 is
pub record Sources (s : UnitFields) (six seven : Bool) : Type 0 where
  pub a : six ≡ true → is_source s.raddr_a ≡ true
  pub unpack : six ≡ true → is_unpack_at s.raddr_a s.unpack ≡ true
  pub b : seven ≡ true → (s.sig == 13) ≡ false → is_source s.raddr_b ≡ true
  pub small : seven ≡ true → (s.sig == 13) ≡ true → s.raddr_b < 48

-- of two operands or parts
either : (P : Type 0) (a b : Bool) → (a ≡ true → P) → (b ≡ true → P) → (a || b) ≡ true → P
either P true b of_a of_b is = of_a refl
either P false b of_a of_b is = of_b is

pub join : (s : UnitFields) (a b c d : Bool) → Sources s a b → Sources s c d → Sources s (a || c) (b || d)
join s a b c d one two = record {
  a = either _ a c one.a two.a;
  unpack = either _ a c one.unpack two.unpack;
  b = either _ b d one.b two.b;
  small = either _ b d one.small two.small;
}

left : (a b : Bool) → a ≡ true → (a || b) ≡ true
left true b is = refl
left false b is = absurd (grind (arith, is))

right : (a b : Bool) → b ≡ true → (a || b) ≡ true
right true b is = refl
right false b is = is

pub first_of_two : (s : UnitFields) (a b c d : Bool) → Sources s (a || c) (b || d) → Sources s a b
first_of_two s a b c d both = record {
  a = λ is. both.a (left a c is);
  unpack = λ is. both.unpack (left a c is);
  b = λ is. both.b (left b d is);
  small = λ is. both.small (left b d is);
}

pub second_of_two : (s : UnitFields) (a b c d : Bool) → Sources s (a || c) (b || d) → Sources s c d
second_of_two s a b c d both = record {
  a = λ is. both.a (right a c is);
  unpack = λ is. both.unpack (right a c is);
  b = λ is. both.b (right b d is);
  small = λ is. both.small (right b d is);
}

-- of a unit that computes or doesn't
pub while_active : (s : UnitFields) (nothing a b : Bool) → (nothing ≡ false → Sources s a b) → Sources s (not nothing && a) (not nothing && b)
while_active s true a b some = record {
  a = λ is. absurd (grind (arith, is));
  unpack = λ is. absurd (grind (arith, is));
  b = λ is. absurd (grind (arith, is));
  small = λ is. absurd (grind (arith, is));
}
while_active s false a b some = some refl

pub of_active : (s : UnitFields) (nothing a b : Bool) → nothing ≡ false → Sources s (not nothing && a) (not nothing && b) → Sources s a b
of_active s true a b is some = absurd (grind (arith, is))
of_active s false a b is some = some

-- of an operand
named_at : (s : UnitFields) (x m : ℕ) → (x == m) ≡ true → IsNamedOperand (operand_of s x) → IsNamedOperand (operand_of s m)
named_at s x m is named = let same : x ≡ m = grind (arith, nat_tests, is) in let P : ℕ → Type 0 = λ k. IsNamedOperand (operand_of s k) in subst P same named

source_by : (small : Bool) (n : ℕ) → small ≡ false → IsNamedOperand (if small then Small n else FileB n) → is_source n ≡ true
source_by true n is named = absurd (grind (arith, is))
source_by false n is named = named

code_by : (small : Bool) (n : ℕ) → small ≡ true → IsNamedOperand (if small then Small n else FileB n) → n < 48
code_by true n is named = named
code_by false n is named = absurd (grind (arith, is))

pub operand_sources : (s : UnitFields) (x : ℕ) → IsNamedOperand (operand_of s x) → Sources s (x == 6) (x == 7)
operand_sources s x named = record {
  a = λ is. (named_at s x 6 is named).0;
  unpack = λ is. (named_at s x 6 is named).1;
  b = λ is other. source_by (s.sig == 13) s.raddr_b other (named_at s x 7 is named);
  small = λ is small. code_by (s.sig == 13) s.raddr_b small (named_at s x 7 is named);
}

small_or_file : (small : Bool) (n : ℕ) → (small ≡ false → is_source n ≡ true) → (small ≡ true → n < 48) → IsNamedOperand (if small then Small n else FileB n)
small_or_file true n file code = code refl
small_or_file false n file code = file refl

operand_by : (s : UnitFields) (x : ℕ) (low six : Bool) → nat_lt x 6 ≡ low → (x == 6) ≡ six → x < 8 → Sources s (x == 6) (x == 7) → IsNamedOperand (operand_of s x)
operand_by s x true six is_low is_six below from = rw is_low (grind (arith, nat_tests, is_low))
operand_by s x false true is_low is_six below from = rw (is_low, is_six) (from.a is_six, from.unpack is_six)
operand_by s x false false is_low is_six below from =
    let seven : (x == 7) ≡ true = grind (arith, nat_tests, is_low, is_six) in
    rw (is_low, is_six) (small_or_file (s.sig == 13) s.raddr_b (from.b seven) (from.small seven))

pub operand_named : (s : UnitFields) (x : ℕ) → x < 8 → Sources s (x == 6) (x == 7) → IsNamedOperand (operand_of s x)
operand_named s x below from = operand_by s x _ _ refl refl below from

-- of all operands of an instruction
abbrev pub part_sources : UnitFields → ℕ → ℕ → ℕ → ℕ → Type 0
part_sources s op cond x y = Sources s (part_uses op cond x y 6) (part_uses op cond x y 7)

abbrev pub all_sources : UnitFields → Type 0
all_sources s = Sources s (any_uses s 6) (any_uses s 7)

pub sources_of_part : (s : UnitFields) (op cond x y : ℕ)
    → (((op == 0) || (cond == 0)) ≡ false → IsNamedOperand (operand_of s x) × IsNamedOperand (operand_of s y)) → part_sources s op cond x y
sources_of_part s op cond x y named =
    while_active s ((op == 0) || (cond == 0)) ((x == 6) || (y == 6)) ((x == 7) || (y == 7))
    (λ some. join s (x == 6) (x == 7) (y == 6) (y == 7) (operand_sources s x (named some).0) (operand_sources s y (named some).1))

pub sources_of_all : (s : UnitFields) → part_sources s s.op_add s.cond_add s.add_a s.add_b → part_sources s s.op_mul s.cond_mul s.mul_a s.mul_b → all_sources s
sources_of_all s add mul =
    join s
    (part_uses s.op_add s.cond_add s.add_a s.add_b 6)
    (part_uses s.op_add s.cond_add s.add_a s.add_b 7)
    (part_uses s.op_mul s.cond_mul s.mul_a s.mul_b 6)
    (part_uses s.op_mul s.cond_mul s.mul_a s.mul_b 7)
    add
    mul
