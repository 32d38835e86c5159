-- A canonical word of both units keeps what its instruction needs of the fields.
use Rattle.std.proofs.Common.{◌≡◌, ℕ, Bool, true, false, refl, sym, ◌∙◌, arith}
use Rattle.std.specs.Prelude.{◌==◌, ◌||◌, ◌&&◌, not, nat_lt, nat_le, if◌then◌else◌}
use Rattle.std.proofs.lemmas.Bool.Decides.{nat_tests}
use Rattle.qpu_word.specs.declared.word.Fields.{Fields}
use Rattle.qpu_word.specs.Words.{fields_of, has_fault, is_unit_word, is_small, is_unary, add_active, mul_active, uses, packs_row, bad_packing}
use Rattle.qpu_word.proofs.ProfileLemmas.{field_below}
use Rattle.qpu_word.specs.Canonical.{IsCanonical, unit_rule, add_rule, mul_rule, operand_rule, small_rule}
use Rattle.qpu_line.specs.Slots.{unit_fields}
use Rattle.qpu_line.specs.Units.{any_uses, signal_of, signal_code}
use Rattle.qpu_line.proofs.FormLemmas.{IsPlain, plain}
use Rattle.qpu_line.proofs.TargetLemmas.{exchange_kept}
use Rattle.qpu_line.proofs.UnitLemmas.{IsTidy, idle}
use Rattle.qpu_line.proofs.UnitLaw.{IsOwn}

-- an idle unit says nothing
tidy_by : (unit : Bool) (op cond address x y : ℕ) → (not unit || unit_rule (unit && not (op == 0) && not (cond == 0)) op cond address x y) ≡ true → unit ≡ true
    → IsTidy op cond address x y
tidy_by true op cond address x y rule is i = record {
  op = grind (arith, nat_tests, rule, i);
  cond = grind (arith, nat_tests, rule, i);
  address = grind (arith, nat_tests, rule, i);
  x = grind (arith, nat_tests, rule, i);
  y = grind (arith, nat_tests, rule, i);
}
tidy_by false op cond address x y rule is i = absurd (grind (arith, is))

add_tidy : (f : Fields) → add_rule f ≡ true → is_unit_word f ≡ true → IsTidy f.op_add f.cond_add f.waddr_add f.add_a f.add_b
unfolding add_rule
add_tidy f rule unit = tidy_by (is_unit_word f) f.op_add f.cond_add f.waddr_add f.add_a f.add_b rule unit

mul_tidy : (f : Fields) → mul_rule f ≡ true → is_unit_word f ≡ true → IsTidy f.op_mul f.cond_mul f.waddr_mul f.mul_a f.mul_b
unfolding mul_rule
mul_tidy f rule unit = tidy_by (is_unit_word f) f.op_mul f.cond_mul f.waddr_mul f.mul_a f.mul_b rule unit

-- active and idle
pub active_by : (unit a b : Bool) → unit ≡ true → (unit && not a && not b) ≡ not (a || b)
active_by true true b is = refl
active_by true false b is = refl
active_by false a b is = absurd (grind (arith, is))

-- the muxes that are used
add_uses_by : (active unary : Bool) (x y m : ℕ) → (not (active && unary) || (y == x)) ≡ true
    → (active && ((x == m) || (not unary && (y == m)))) ≡ (active && ((x == m) || (y == m)))
add_uses_by true true x y m rule = grind (arith, nat_tests, rule)
add_uses_by true false x y m rule = refl
add_uses_by false unary x y m rule = refl

right_of : (a b : Bool) → (a && b) ≡ true → b ≡ true
right_of true b both = both
right_of false b both = absurd (grind (arith, both))

pub unary_twice : (f : Fields) → operand_rule f ≡ true → (not (add_active f && is_unary f.op_add) || (f.add_b == f.add_a)) ≡ true
unfolding operand_rule
unary_twice f rule = right_of (f.pm == 0) (not (add_active f && is_unary f.op_add) || (f.add_b == f.add_a)) rule

pub uses_same : (f : Fields) (m : ℕ) → is_unit_word f ≡ true → operand_rule f ≡ true → uses f m ≡ any_uses (unit_fields f) m
uses_same f m unit rule =
    rw (add_uses_by (add_active f) (is_unary f.op_add) f.add_a f.add_b m (unary_twice f rule))
    (rw (active_by (is_unit_word f) (f.op_add == 0) (f.cond_add == 0) unit, active_by (is_unit_word f) (f.op_mul == 0) (f.cond_mul == 0) unit) refl)

-- packing and unpacking
packing_by : (unit bad immediate : Bool) → ((unit && bad) || immediate) ≡ false → unit ≡ true → bad ≡ false
packing_by true true immediate none is = none
packing_by true false immediate none is = refl
packing_by false bad immediate none is = absurd (grind (arith, is))

pub record IsPacking (f : Fields) : Type 0 where
  pub pack : packs_row f ≡ false → f.pack ≡ 0
  pub unpack : uses f 6 ≡ false → f.unpack ≡ 0

bad_pack_by : (mode eighth : Bool) (pack : ℕ) (row rest : Bool) → (mode || eighth || (not (pack == 0) && not row) || rest) ≡ false → row ≡ false → pack ≡ 0
bad_pack_by mode eighth pack row rest none is = grind (arith, nat_tests, none, is)

bad_unpack_by : (mode eighth packs : Bool) (unpack : ℕ) (far used : Bool) → (mode || eighth || packs || (not (unpack == 0) && (far || not used))) ≡ false → used ≡ false → unpack ≡ 0
bad_unpack_by mode eighth packs unpack far used none is = grind (arith, nat_tests, none, is)

pub no_bad_packing : (f : Fields) → IsPlain f → is_unit_word f ≡ true → bad_packing f ≡ false
unfolding has_fault
no_bad_packing f p unit = packing_by (is_unit_word f) (bad_packing f) _ p.packing unit

packing : (f : Fields) → IsPlain f → is_unit_word f ≡ true → IsPacking f
packing f p unit = record {
  pack = bad_pack_by (f.pm == 1 && not (f.pack == 0 && f.unpack == 0)) (f.pack == 8) f.pack (packs_row f) (not (f.unpack == 0) && (nat_le 32 f.raddr_a || not (uses f 6))) (no_bad_packing f p unit);
  unpack = bad_unpack_by (f.pm == 1 && not (f.pack == 0 && f.unpack == 0)) (f.pack == 8) (not (f.pack == 0) && not (packs_row f)) f.unpack (nat_le 32 f.raddr_a) (uses f 6) (no_bad_packing f p unit);
}

packs_by : (ws mul add : Bool) → ws ≡ true → mul ≡ false → (if ws then mul else add) ≡ false
packs_by true mul add is none = none
packs_by false mul add is none = absurd (grind (arith, is))

packs_other : (ws mul add : Bool) → ws ≡ false → add ≡ false → (if ws then mul else add) ≡ false
packs_other true mul add is none = absurd (grind (arith, is))
packs_other false mul add is none = none

mul_packs : (f : Fields) → is_unit_word f ≡ true → (f.ws == 1) ≡ true → (not (idle f.op_mul f.cond_mul) && nat_lt f.waddr_mul 32) ≡ false → packs_row f ≡ false
mul_packs f unit ws none = packs_by (f.ws == 1) _ _ ws (rw (active_by (is_unit_word f) (f.op_mul == 0) (f.cond_mul == 0) unit) none)

add_packs : (f : Fields) → is_unit_word f ≡ true → (f.ws == 1) ≡ false → (not (idle f.op_add f.cond_add) && nat_lt f.waddr_add 32) ≡ false → packs_row f ≡ false
add_packs f unit ws none = packs_other (f.ws == 1) _ _ ws (rw (active_by (is_unit_word f) (f.op_add == 0) (f.cond_add == 0) unit) none)

-- the signal
signal_known : (f : Fields) → is_unit_word f ≡ true → (f.sig == 13) ≡ false → f.sig ≡ signal_code (signal_of f.sig f.raddr_b)
unfolding signal_of
signal_known f unit other = grind (arith, nat_tests, unit, other)

small_by : (small near used mul : Bool) → (not small || (if near then used else mul)) ≡ true → small ≡ true → used ≡ false → near ≡ false
small_by true true used mul rule is none = sym rule ∙ none
small_by true false used mul rule is none = refl
small_by false near used mul rule is none = absurd (grind (arith, is))

far_by : (code : ℕ) → nat_lt code 48 ≡ false → nat_le 48 code ≡ true
far_by code near = grind (arith, nat_tests, near)

small_far : (f : Fields) → small_rule f ≡ true → (f.sig == 13) ≡ true → uses f 7 ≡ false → nat_le 48 f.raddr_b ≡ true
unfolding small_rule
small_far f rule small none = far_by f.raddr_b (small_by (is_small f) (nat_lt f.raddr_b 48) (uses f 7) (mul_active f) rule small none)

pub own : (w : ℕ) → IsCanonical w → is_unit_word (fields_of w) ≡ true → IsOwn (unit_fields (fields_of w))
own w c unit =
    let p : IsPacking (fields_of w) = packing (fields_of w) (plain w c.inside) unit in
    record {
      add = add_tidy (fields_of w) c.adds unit;
      mul = mul_tidy (fields_of w) c.muls unit;
      sf = field_below w 45 1;
      ws = field_below w 44 1;
      add_a = field_below w 9 3;
      add_b = field_below w 6 3;
      mul_a = field_below w 3 3;
      mul_b = field_below w 0 3;
      exchange = exchange_kept (fields_of w) c.exchange;
      unpack = λ none. p.unpack (uses_same (fields_of w) 6 unit c.operands ∙ none);
      pack_ws = λ ws none. p.pack (mul_packs (fields_of w) unit ws none);
      pack = λ ws none. p.pack (add_packs (fields_of w) unit ws none);
      signal = signal_known (fields_of w) unit;
      small = λ small none. small_far (fields_of w) c.small small (uses_same (fields_of w) 7 unit c.operands ∙ none);
    }
