-- Fields that keep the rules of canonical words are their own canonical fields.
use Rattle.std.proofs.Common.{◌≡◌, ℕ, ◌%◌, ◌<◌, Bool, true, false, refl, sym, arith}
use Rattle.std.specs.Prelude.{◌==◌, ◌||◌, ◌&&◌, not, nat_lt, if◌then◌else◌}
use Rattle.std.proofs.lemmas.Bool.Decides.{nat_tests}
use Rattle.qpu_word.specs.declared.word.Fields.{Fields}
use Rattle.qpu_word.specs.Words.{is_small, is_unit_word, is_load, is_semaphore, is_branch, is_unary, add_active, mul_active, add_writes, mul_writes, uses}
use Rattle.qpu_word.specs.Canonical.{file_matters, unit_rule, add_rule, mul_rule, operand_rule, flags_rule, exchange_rule, row_rule, small_rule, load_rule, semaphore_rule, branch_rule}
use Rattle.qpu_word.specs.CanonicalWord.{exchange_matters, code_acts, said_by, address_by, row_by, second_by, canonical_signal, canonical_row_b, canonical_exchange, canonical_units, canonical_load, canonical_semaphore, canonical_branch}
use Rattle.qpu_word.proofs.CanonicalLemmas.{KeepsEach}

-- what a unit's fields say that acts or is idle
record SaysOnce (acts : Bool) (o c t a b : ℕ) : Type 0 where
  op : acts ≡ false → o ≡ 0
  idle : acts ≡ false → c ≡ 0
  always : acts ≡ true → (t == 39) ≡ true → c ≡ 1
  address : acts ≡ false → t ≡ 39
  x : acts ≡ false → a ≡ 0
  y : acts ≡ false → b ≡ 0

says_once : (acts : Bool) (op cond address x y : ℕ) → unit_rule acts op cond address x y ≡ true → SaysOnce acts op cond address x y
says_once true op cond address x y rule = record {
  op = λ i. absurd (cc);
  idle = λ i. absurd (cc);
  always = λ i nowhere. grind (arith, nat_tests, rule, nowhere);
  address = λ i. absurd (cc);
  x = λ i. absurd (cc);
  y = λ i. absurd (cc);
}
says_once false op cond address x y rule = record {
  op = λ i. grind (arith, nat_tests, rule);
  idle = λ i. grind (arith, nat_tests, rule);
  always = λ i nowhere. absurd (cc);
  address = λ i. grind (arith, nat_tests, rule);
  x = λ i. grind (arith, nat_tests, rule);
  y = λ i. grind (arith, nat_tests, rule);
}

under : (unit rule : Bool) → (not unit || rule) ≡ true → unit ≡ true → rule ≡ true
under true rule is unit = is
under false rule is unit = absurd (cc)

add_says : (f : Fields) → add_rule f ≡ true → is_unit_word f ≡ true → SaysOnce (add_active f) f.op_add f.cond_add f.waddr_add f.add_a f.add_b
unfolding add_rule
add_says f rule unit = says_once (add_active f) f.op_add f.cond_add f.waddr_add f.add_a f.add_b (under (is_unit_word f) (unit_rule (add_active f) f.op_add f.cond_add f.waddr_add f.add_a f.add_b) rule unit)

mul_says : (f : Fields) → mul_rule f ≡ true → is_unit_word f ≡ true → SaysOnce (mul_active f) f.op_mul f.cond_mul f.waddr_mul f.mul_a f.mul_b
unfolding mul_rule
mul_says f rule unit = says_once (mul_active f) f.op_mul f.cond_mul f.waddr_mul f.mul_a f.mul_b (under (is_unit_word f) (unit_rule (mul_active f) f.op_mul f.cond_mul f.waddr_mul f.mul_a f.mul_b) rule unit)

-- fields that come back
said_back : (acts : Bool) (n : ℕ) → (acts ≡ false → n ≡ 0) → said_by acts n ≡ n
said_back true n idle = refl
said_back false n idle = sym (idle refl)

address_back : (acts : Bool) (n : ℕ) → (acts ≡ false → n ≡ 39) → address_by acts n ≡ n
address_back true n idle = refl
address_back false n idle = sym (idle refl)

cond_back : (acts nowhere : Bool) (cond : ℕ) → (acts ≡ false → cond ≡ 0) → (acts ≡ true → nowhere ≡ true → cond ≡ 1)
    → said_by acts (if nowhere then 1 else cond) ≡ cond
cond_back true true cond idle always = sym (always refl refl)
cond_back true false cond idle always = refl
cond_back false nowhere cond idle always = sym (idle refl)

second_back : (acts unary : Bool) (x y : ℕ) → (acts ≡ false → y ≡ 0) → (not (acts && unary) || (y == x)) ≡ true
    → said_by acts (if unary then x else y) ≡ y
second_back true true x y idle twice = grind (arith, nat_tests, twice)
second_back true false x y idle twice = refl
second_back false unary x y idle twice = sym (idle refl)

right_of : (a b : Bool) → (a && b) ≡ true → b ≡ true
right_of true b both = both
right_of false b both = absurd (cc)

left_of : (a b : Bool) → (a && b) ≡ true → a ≡ true
left_of true b both = refl
left_of false b both = absurd (cc)

pub no_pm : (f : Fields) → operand_rule f ≡ true → 0 ≡ f.pm
unfolding operand_rule
no_pm f rule = let e : (f.pm == 0) ≡ true = left_of (f.pm == 0) (not (add_active f && is_unary f.op_add) || (f.add_b == f.add_a)) rule in grind (arith, nat_tests, e)

second_of : (f : Fields) → operand_rule f ≡ true → (add_active f ≡ false → f.add_b ≡ 0) → said_by (add_active f) (second_by f) ≡ f.add_b
unfolding operand_rule
second_of f rule idle = second_back (add_active f) (is_unary f.op_add) f.add_a f.add_b idle (right_of (f.pm == 0) (not (add_active f && is_unary f.op_add) || (f.add_b == f.add_a)) rule)

zero_by : (n : ℕ) (a b : Bool) → ((n == 0) || a || b) ≡ true → (a || b) ≡ false → n ≡ 0
zero_by n a b rule none = grind (arith, nat_tests, rule, none)

exchange_of : (f : Fields) → exchange_rule f ≡ true → canonical_exchange f ≡ f.ws
unfolding exchange_rule canonical_exchange
exchange_of f rule = said_back (exchange_matters f) f.ws (zero_by f.ws ((add_active f || add_writes f) && file_matters f.waddr_add) ((mul_active f || mul_writes f) && file_matters f.waddr_mul) rule)

flags_by : (unit : Bool) (n : ℕ) (a b : Bool) → (not unit || (n == 0) || a || b) ≡ true → unit ≡ true → (a || b) ≡ false → n ≡ 0
flags_by true n a b rule unit none = zero_by n a b rule none
flags_by false n a b rule unit none = absurd (cc)

flags_of : (f : Fields) → flags_rule f ≡ true → is_unit_word f ≡ true → said_by (add_active f || mul_active f) f.sf ≡ f.sf
unfolding flags_rule
flags_of f rule unit = said_back (add_active f || mul_active f) f.sf (flags_by (is_unit_word f) f.sf (add_active f) (mul_active f) rule unit)

row_back : (near used : Bool) (n : ℕ) → (not near || used) ≡ true → (if near && not used then 39 else n) ≡ n
row_back true true n rule = refl
row_back true false n rule = absurd (cc)
row_back false used n rule = refl

row_a_of : (f : Fields) → row_rule f ≡ true → is_unit_word f ≡ true → row_by (uses f 6) f.raddr_a ≡ f.raddr_a
unfolding row_rule
row_a_of f rule unit =
    row_back (nat_lt f.raddr_a 32) (uses f 6) f.raddr_a
    (left_of (not (nat_lt f.raddr_a 32) || uses f 6) (is_small f || not (nat_lt f.raddr_b 32) || uses f 7)
    (under (is_unit_word f) ((not (nat_lt f.raddr_a 32) || uses f 6) && (is_small f || not (nat_lt f.raddr_b 32) || uses f 7)) rule unit))

row_b_by : (small acts near used : Bool) (n : ℕ) → (not small || acts) ≡ true → (small || not near || used) ≡ true
    → (if small then (if acts then n else 39) else (if near && not used then 39 else n)) ≡ n
row_b_by true true near used n code rule = refl
row_b_by true false near used n code rule = absurd (cc)
row_b_by false acts near used n code rule = row_back near used n rule

row_b_of : (f : Fields) → row_rule f ≡ true → small_rule f ≡ true → is_unit_word f ≡ true → canonical_row_b f ≡ f.raddr_b
unfolding row_rule small_rule canonical_row_b
row_b_of f rule code unit =
    row_b_by (is_small f) (code_acts f) (nat_lt f.raddr_b 32) (uses f 7) f.raddr_b code
    (right_of (not (nat_lt f.raddr_a 32) || uses f 6) (is_small f || not (nat_lt f.raddr_b 32) || uses f 7)
    (under (is_unit_word f) ((not (nat_lt f.raddr_a 32) || uses f 6) && (is_small f || not (nat_lt f.raddr_b 32) || uses f 7)) rule unit))

signal_by : (small acts : Bool) (n : ℕ) → (not small || acts) ≡ true → (if small && not acts then 1 else n) ≡ n
signal_by true true n rule = refl
signal_by true false n rule = absurd (cc)
signal_by false acts n rule = refl

signal_of : (f : Fields) → small_rule f ≡ true → canonical_signal f ≡ f.sig
unfolding small_rule canonical_signal
signal_of f rule = signal_by (is_small f) (code_acts f) f.sig rule

-- ALU and small immediate words
pub own_units : (f : Fields) → KeepsEach f → is_unit_word f ≡ true → canonical_units f ≡ f
unfolding canonical_units
own_units f k unit =
    let add : SaysOnce (add_active f) f.op_add f.cond_add f.waddr_add f.add_a f.add_b = add_says f k.adds unit in
    let mul : SaysOnce (mul_active f) f.op_mul f.cond_mul f.waddr_mul f.mul_a f.mul_b = mul_says f k.muls unit in
    λ i. record {
      sig = signal_of f k.small i;
      unpack = f.unpack;
      pm = no_pm f k.operands i;
      pack = f.pack;
      cond_add = cond_back (add_active f) (f.waddr_add == 39) f.cond_add add.idle add.always i;
      cond_mul = cond_back (mul_active f) (f.waddr_mul == 39) f.cond_mul mul.idle mul.always i;
      sf = flags_of f k.flags unit i;
      ws = exchange_of f k.exchange i;
      waddr_add = address_back (add_active f) f.waddr_add add.address i;
      waddr_mul = address_back (mul_active f) f.waddr_mul mul.address i;
      op_mul = said_back (mul_active f) f.op_mul mul.op i;
      op_add = said_back (add_active f) f.op_add add.op i;
      raddr_a = row_a_of f k.rows unit i;
      raddr_b = row_b_of f k.rows k.small unit i;
      add_a = said_back (add_active f) f.add_a add.x i;
      add_b = second_of f k.operands add.y i;
      mul_a = said_back (mul_active f) f.mul_a mul.x i;
      mul_b = said_back (mul_active f) f.mul_b mul.y i;
      kind = f.kind;
      immediate = f.immediate;
      down = f.down;
      number = f.number;
      cond_br = f.cond_br;
      rel = f.rel;
      reg = f.reg;
      raddr_br = f.raddr_br;
    }

-- load immediates
load_by : (load add mul cond_add to_add cond_mul to_mul : Bool) → (not load || ((add || (cond_add && to_add)) && (mul || (cond_mul && to_mul)))) ≡ true → load ≡ true
    → ((add ≡ false) → (cond_add ≡ true) × (to_add ≡ true)) × ((mul ≡ false) → (cond_mul ≡ true) × (to_mul ≡ true))
load_by load add mul cond_add to_add cond_mul to_mul rule is =
    (λ none. (grind (arith, rule, is, none), grind (arith, rule, is, none)), λ none. (grind (arith, rule, is, none), grind (arith, rule, is, none)))

equal_to : (n m : ℕ) → (n == m) ≡ true → n ≡ m
equal_to n m is = grind (arith, nat_tests, is)

pub own_load : (f : Fields) → KeepsEach f → is_load f ≡ true → canonical_load f ≡ f
unfolding canonical_load load_rule
own_load f k is =
    let once : ((add_writes f ≡ false) → ((f.cond_add == 0) ≡ true) × ((f.waddr_add == 39) ≡ true)) × ((mul_writes f ≡ false) → ((f.cond_mul == 0) ≡ true) × ((f.waddr_mul == 39) ≡ true)) =
    load_by (is_load f) (add_writes f) (mul_writes f) (f.cond_add == 0) (f.waddr_add == 39) (f.cond_mul == 0) (f.waddr_mul == 39) k.loads is in
    λ i. record {
      sig = f.sig;
      unpack = f.unpack;
      pm = no_pm f k.operands i;
      pack = f.pack;
      cond_add = said_back (add_writes f) f.cond_add (λ none. equal_to f.cond_add 0 (once.0 none).0) i;
      cond_mul = said_back (mul_writes f) f.cond_mul (λ none. equal_to f.cond_mul 0 (once.1 none).0) i;
      sf = f.sf;
      ws = exchange_of f k.exchange i;
      waddr_add = address_back (add_writes f) f.waddr_add (λ none. equal_to f.waddr_add 39 (once.0 none).1) i;
      waddr_mul = address_back (mul_writes f) f.waddr_mul (λ none. equal_to f.waddr_mul 39 (once.1 none).1) i;
      op_mul = f.op_mul;
      op_add = f.op_add;
      raddr_a = f.raddr_a;
      raddr_b = f.raddr_b;
      add_a = f.add_a;
      add_b = f.add_b;
      mul_a = f.mul_a;
      mul_b = f.mul_b;
      kind = f.kind;
      immediate = f.immediate;
      down = f.down;
      number = f.number;
      cond_br = f.cond_br;
      rel = f.rel;
      reg = f.reg;
      raddr_br = f.raddr_br;
    }

-- semaphore words
record IsSilent (f : Fields) : Type 0 where
  pack : 0 ≡ f.pack
  cond_add : 0 ≡ f.cond_add
  cond_mul : 0 ≡ f.cond_mul
  sf : 0 ≡ f.sf
  ws : 0 ≡ f.ws
  immediate : f.immediate % 32 ≡ f.immediate

silent_by : (is pack cond_add cond_mul sf ws low : Bool) → (not is || (pack && cond_add && cond_mul && sf && ws && low)) ≡ true → is ≡ true
    → (pack ≡ true) × (cond_add ≡ true) × (cond_mul ≡ true) × (sf ≡ true) × (ws ≡ true) × (low ≡ true)
silent_by is pack cond_add cond_mul sf ws low rule there = grind (arith, rule, there)

low_back : (n : ℕ) → nat_lt n 32 ≡ true → n % 32 ≡ n
low_back n is = let below : n < 32 = grind (arith, nat_tests, is) in omega arith

silent : (f : Fields) → semaphore_rule f ≡ true → is_semaphore f ≡ true → IsSilent f
unfolding semaphore_rule
silent f rule is =
    let t = silent_by (is_semaphore f) (f.pack == 0) (f.cond_add == 0) (f.cond_mul == 0) (f.sf == 0) (f.ws == 0) (nat_lt f.immediate 32) rule is in
    record {
      pack = sym (equal_to f.pack 0 t.0);
      cond_add = sym (equal_to f.cond_add 0 t.1);
      cond_mul = sym (equal_to f.cond_mul 0 t.2);
      sf = sym (equal_to f.sf 0 t.3);
      ws = sym (equal_to f.ws 0 t.4);
      immediate = low_back f.immediate t.5;
    }

pub own_semaphore : (f : Fields) → KeepsEach f → is_semaphore f ≡ true → canonical_semaphore f ≡ f
unfolding canonical_semaphore
own_semaphore f k is =
    let s : IsSilent f = silent f k.semaphores is in
    λ i. record {
      sig = f.sig;
      unpack = f.unpack;
      pm = no_pm f k.operands i;
      pack = s.pack i;
      cond_add = s.cond_add i;
      cond_mul = s.cond_mul i;
      sf = s.sf i;
      ws = s.ws i;
      waddr_add = f.waddr_add;
      waddr_mul = f.waddr_mul;
      op_mul = f.op_mul;
      op_add = f.op_add;
      raddr_a = f.raddr_a;
      raddr_b = f.raddr_b;
      add_a = f.add_a;
      add_b = f.add_b;
      mul_a = f.mul_a;
      mul_b = f.mul_b;
      kind = f.kind;
      immediate = s.immediate i;
      down = f.down;
      number = f.number;
      cond_br = f.cond_br;
      rel = f.rel;
      reg = f.reg;
      raddr_br = f.raddr_br;
    }

-- branches
branch_by : (is kind reg row : Bool) → (not is || (kind && (reg || row))) ≡ true → is ≡ true → (kind ≡ true) × (reg ≡ false → row ≡ true)
branch_by is kind reg row rule there = (grind (arith, rule, there), λ none. grind (arith, rule, there, none))

pub own_branch : (f : Fields) → KeepsEach f → is_branch f ≡ true → canonical_branch f ≡ f
unfolding canonical_branch branch_rule
own_branch f k is =
    let t : ((f.kind == 0) ≡ true) × ((f.reg == 1) ≡ false → (f.raddr_br == 0) ≡ true) = branch_by (is_branch f) (f.kind == 0) (f.reg == 1) (f.raddr_br == 0) k.branches is in
    λ i. record {
      sig = f.sig;
      unpack = f.unpack;
      pm = no_pm f k.operands i;
      pack = f.pack;
      cond_add = f.cond_add;
      cond_mul = f.cond_mul;
      sf = f.sf;
      ws = exchange_of f k.exchange i;
      waddr_add = f.waddr_add;
      waddr_mul = f.waddr_mul;
      op_mul = f.op_mul;
      op_add = f.op_add;
      raddr_a = f.raddr_a;
      raddr_b = f.raddr_b;
      add_a = f.add_a;
      add_b = f.add_b;
      mul_a = f.mul_a;
      mul_b = f.mul_b;
      kind = sym (equal_to f.kind 0 t.0) i;
      immediate = f.immediate;
      down = f.down;
      number = f.number;
      cond_br = f.cond_br;
      rel = f.rel;
      reg = f.reg;
      raddr_br = said_back (f.reg == 1) f.raddr_br (λ none. equal_to f.raddr_br 0 (t.1 none)) i;
    }
