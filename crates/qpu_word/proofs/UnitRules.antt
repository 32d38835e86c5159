-- The canonical fields of an ALU or small immediate word keep the rules.
use Rattle.std.proofs.Common.{◌≡◌, ℕ, Bool, true, false, refl, sym, arith}
use Rattle.std.specs.Prelude.{◌==◌, ◌||◌, ◌&&◌, not, nat_lt, if◌then◌else◌}
use Rattle.std.proofs.lemmas.Bool.Decides.{nat_tests}
use Rattle.qpu_word.specs.declared.word.Fields.{Fields}
use Rattle.qpu_word.specs.Words.{is_small, is_unary, add_active, mul_active, uses}
use Rattle.qpu_word.specs.Canonical.{file_matters, unit_rule, add_rule, mul_rule, operand_rule, flags_rule, exchange_rule, row_rule, small_rule, load_rule, semaphore_rule, branch_rule}
use Rattle.qpu_word.specs.CanonicalWord.{exchange_matters, code_acts, said_by, address_by, cond_by, row_by, second_by, canonical_row_b, canonical_exchange, canonical_units}
use Rattle.qpu_word.proofs.PackedLemmas.{HoldsUnits}
use Rattle.qpu_word.proofs.UnitFields.{ActsAs, unit_signal, no_immediate, no_branch}
use Rattle.qpu_word.proofs.CanonicalLemmas.{KeepsEach}

-- units
unit_by : (acts nowhere : Bool) (op cond address x y : ℕ) → (address == 39) ≡ nowhere
    → unit_rule acts (said_by acts op) (cond_by acts address cond) (address_by acts address) (said_by acts x) (said_by acts y) ≡ true
unit_by true true op cond address x y is = rw is refl
unit_by true false op cond address x y is = rw is refl
unit_by false nowhere op cond address x y is = refl

adds : (f g : Fields) → HoldsUnits g (canonical_units f) → ActsAs f g → add_rule g ≡ true
unfolding add_rule canonical_units
adds f g h a = rw (a.add, a.unit, h.op_add, h.cond_add, h.waddr_add, h.add_a, h.add_b) (unit_by (add_active f) (f.waddr_add == 39) f.op_add f.cond_add f.waddr_add f.add_a (second_by f) refl)

muls : (f g : Fields) → HoldsUnits g (canonical_units f) → ActsAs f g → mul_rule g ≡ true
unfolding mul_rule canonical_units
muls f g h a = rw (a.mul, a.unit, h.op_mul, h.cond_mul, h.waddr_mul, h.mul_a, h.mul_b) (unit_by (mul_active f) (f.waddr_mul == 39) f.op_mul f.cond_mul f.waddr_mul f.mul_a f.mul_b refl)

-- operands
same : (n : ℕ) → (n == n) ≡ true
same n = grind (arith, nat_tests)

operand_by : (acts unary : Bool) (op x y : ℕ) → is_unary op ≡ unary
    → (not (acts && is_unary (said_by acts op)) || (said_by acts (if unary then x else y) == said_by acts x)) ≡ true
operand_by true true op x y is = rw is (same x)
operand_by true false op x y is = rw is refl
operand_by false unary op x y is = refl

operands : (f g : Fields) → HoldsUnits g (canonical_units f) → ActsAs f g → operand_rule g ≡ true
unfolding operand_rule canonical_units
operands f g h a = rw (a.add, h.pm, h.op_add, h.add_a, h.add_b) (operand_by (add_active f) (is_unary f.op_add) f.op_add f.add_a f.add_b refl)

-- flags
flags_by : (add mul : Bool) (sf : ℕ) → ((said_by (add || mul) sf == 0) || add || mul) ≡ true
flags_by false false sf = refl
flags_by false true sf = grind arith
flags_by true mul sf = grind arith

flags : (f g : Fields) → HoldsUnits g (canonical_units f) → ActsAs f g → flags_rule g ≡ true
unfolding flags_rule canonical_units
flags f g h a = rw (a.add, a.mul, a.unit, h.sf) (flags_by (add_active f) (mul_active f) f.sf)

-- the exchange of the files
writes_by : (acts nowhere : Bool) → (acts || (not nowhere && (acts || false || false))) ≡ acts
writes_by true nowhere = refl
writes_by false true = refl
writes_by false false = refl

pub exchange_units : (f : Fields) → unit_signal f.sig ≡ true → exchange_matters f ≡ ((add_active f && file_matters f.waddr_add) || (mul_active f && file_matters f.waddr_mul))
exchange_units f unit =
    rw (no_immediate f.sig unit, no_branch f.sig unit, writes_by (add_active f) (f.waddr_add == 39), writes_by (mul_active f) (f.waddr_mul == 39)) refl

some_of : (z a b : Bool) → (a || b) ≡ true → (z || a || b) ≡ true
some_of z a b some = grind (arith, some)

first_of_two : (z a n : Bool) → (a || false) ≡ true → (z || a || (n && false)) ≡ true
first_of_two z a n some = grind (arith, some)

second_of_two : (z n b : Bool) → b ≡ true → (z || (n && false) || b) ≡ true
second_of_two z n b some = grind (arith, some)

exchange_by : (matters add mul add' mul' : Bool) (ws x y : ℕ) → ((add && file_matters x) || (mul && file_matters y)) ≡ matters
    → ((said_by matters ws == 0) || ((add || add') && file_matters (address_by add x)) || ((mul || mul') && file_matters (address_by mul y))) ≡ true
exchange_by false add mul add' mul' ws x y is = refl
exchange_by true true true add' mul' ws x y is = some_of (ws == 0) (file_matters x) (file_matters y) is
exchange_by true true false add' mul' ws x y is = first_of_two (ws == 0) (file_matters x) mul' is
exchange_by true false true add' mul' ws x y is = second_of_two (ws == 0) add' (file_matters y) is
exchange_by true false false add' mul' ws x y is = absurd (cc)

exchanges : (f g : Fields) → HoldsUnits g (canonical_units f) → ActsAs f g → unit_signal f.sig ≡ true → exchange_rule g ≡ true
unfolding exchange_rule canonical_units canonical_exchange
exchanges f g h a unit =
    rw (a.add, a.mul, h.ws, h.waddr_add, h.waddr_mul)
    (exchange_by (exchange_matters f) (add_active f) (mul_active f) _ _ f.ws f.waddr_add f.waddr_mul (sym (exchange_units f unit)))

-- rows
row_of : (near used : Bool) (n : ℕ) → nat_lt n 32 ≡ near → (not (nat_lt (if near && not used then 39 else n) 32) || used) ≡ true
row_of true true n is = rw is refl
row_of true false n is = refl
row_of false used n is = rw is refl

row_b_of : (small acts near used : Bool) (n : ℕ) → nat_lt n 32 ≡ near
    → ((small && acts) || not (nat_lt (if small then (if acts then n else 39) else (if near && not used then 39 else n)) 32) || used) ≡ true
row_b_of true true near used n is = refl
row_b_of true false near used n is = refl
row_b_of false acts near used n is = row_of near used n is

rows : (f g : Fields) → HoldsUnits g (canonical_units f) → ActsAs f g → row_rule g ≡ true
unfolding row_rule canonical_units canonical_row_b
rows f g h a =
    rw (a.uses 6, a.uses 7, a.unit, a.small, h.raddr_a, h.raddr_b, row_of (nat_lt f.raddr_a 32) (uses f 6) f.raddr_a refl)
    (row_b_of (is_small f) (code_acts f) (nat_lt f.raddr_b 32) (uses f 7) f.raddr_b refl)

-- codes
code_by : (small acts used mul : Bool) (n r : ℕ) → (if nat_lt n 48 then used else mul) ≡ acts
    → (not (small && acts) || (if nat_lt (if small then (if acts then n else 39) else r) 48 then used else mul)) ≡ true
code_by true true used mul n r is = is
code_by true false used mul n r is = refl
code_by false acts used mul n r is = refl

codes : (f g : Fields) → HoldsUnits g (canonical_units f) → ActsAs f g → small_rule g ≡ true
unfolding small_rule canonical_units canonical_row_b
codes f g h a =
    rw (a.uses 7, a.mul, a.small, h.raddr_b)
    (code_by (is_small f) (code_acts f) (uses f 7) (mul_active f) f.raddr_b (row_by (uses f 7) f.raddr_b) refl)

-- rules of other forms
loads : (f g : Fields) → ActsAs f g → load_rule g ≡ true
unfolding load_rule
loads f g a = rw (no_immediate g.sig a.unit) refl

semaphores : (f g : Fields) → ActsAs f g → semaphore_rule g ≡ true
unfolding semaphore_rule
semaphores f g a = rw (no_immediate g.sig a.unit) refl

branches : (f g : Fields) → ActsAs f g → branch_rule g ≡ true
unfolding branch_rule
branches f g a = rw (no_branch g.sig a.unit) refl

pub units_kept : (f g : Fields) → HoldsUnits g (canonical_units f) → ActsAs f g → unit_signal f.sig ≡ true → KeepsEach g
units_kept f g h a unit = record {
  adds = adds f g h a;
  muls = muls f g h a;
  operands = operands f g h a;
  flags = flags f g h a;
  exchange = exchanges f g h a unit;
  rows = rows f g h a;
  small = codes f g h a;
  loads = loads f g a;
  semaphores = semaphores f g a;
  branches = branches f g a;
}
