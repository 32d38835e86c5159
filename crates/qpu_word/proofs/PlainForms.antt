-- The canonical fields of loads, semaphore words and branches of the profile have no fault and keep
-- the rules.
use Rattle.std.proofs.Common.{◌≡◌, ℕ, ◌%◌, ◌<◌, Bool, true, false, refl, sym, arith, ◌∙◌}
use Rattle.std.specs.Prelude.{◌==◌, ◌||◌, ◌&&◌, not, nat_lt}
use Rattle.std.proofs.lemmas.Bool.Decides.{nat_tests}
use Rattle.qpu_word.specs.declared.word.Fields.{Fields}
use Rattle.qpu_word.specs.declared.fault.WordFault.TheVariants.{Packing, WriteAddress, BranchCond, SemaphoreTarget}
use Rattle.qpu_word.specs.Words.{between, is_unit_word, is_load, is_semaphore, is_branch, add_active, mul_active, add_writes, mul_writes, is_write_address, is_link_address, bad_packing, has_fault}
use Rattle.qpu_word.specs.Canonical.{file_matters, add_rule, mul_rule, operand_rule, flags_rule, exchange_rule, row_rule, small_rule, load_rule, semaphore_rule, branch_rule}
use Rattle.qpu_word.specs.CanonicalWord.{exchange_matters, said_by, address_by, canonical_exchange, canonical_load, canonical_semaphore, canonical_branch}
use Rattle.qpu_word.proofs.PackedLemmas.{HoldsImmediate, HoldsBranch}
use Rattle.qpu_word.proofs.FaultLemmas.{IsFaultless}
use Rattle.qpu_word.proofs.CanonicalLemmas.{KeepsEach}

-- the exchange of the files
some_of : (z a b : Bool) → (a || b) ≡ true → (z || a || b) ≡ true
some_of z a b some = grind (arith, some)

left_alone : (z a : Bool) → (a || false) ≡ true → (z || a || false) ≡ true
left_alone z a some = grind (arith, some)

right_alone : (z b : Bool) → b ≡ true → (z || false || b) ≡ true
right_alone z b some = grind (arith, some)

exchange_by : (matters add mul : Bool) (ws x y : ℕ) → ((add && file_matters x) || (mul && file_matters y)) ≡ matters
    → ((said_by matters ws == 0) || (add && file_matters (address_by add x)) || (mul && file_matters (address_by mul y))) ≡ true
exchange_by false add mul ws x y is = refl
exchange_by true true true ws x y is = some_of (ws == 0) (file_matters x) (file_matters y) is
exchange_by true true false ws x y is = left_alone (ws == 0) (file_matters x) is
exchange_by true false true ws x y is = right_alone (ws == 0) (file_matters y) is
exchange_by true false false ws x y is = absurd (cc)

kept_by : (matters a b : Bool) (ws : ℕ) → (a || b) ≡ matters → ((said_by matters ws == 0) || a || b) ≡ true
kept_by false a b ws is = refl
kept_by true a b ws is = some_of (ws == 0) a b is

-- load immediates

kind_by : (sig kind : ℕ) → ((sig == 14) && ((kind == 0) || (kind == 1) || (kind == 3))) ≡ true → (sig ≡ 14) × ((kind == 4) ≡ false) × (((kind == 0) || (kind == 1) || (kind == 3)) ≡ true)
kind_by sig kind is = (grind (arith, nat_tests, is), grind (arith, nat_tests, is), grind (arith, nat_tests, is))

-- what the fields of a load are
pub record LoadActs (f g : Fields) : Type 0 where
  pub sig : g.sig ≡ 14
  pub own_sig : f.sig ≡ 14
  pub load : is_load g ≡ true
  pub semaphore : is_semaphore g ≡ false
  pub own_semaphore : is_semaphore f ≡ false
  pub add : add_writes g ≡ add_writes f
  pub mul : mul_writes g ≡ mul_writes f

writes_by : (acts : Bool) (cond address : ℕ) → (not (address == 39) && (false || not (cond == 0) || false)) ≡ acts
    → (not (address_by acts address == 39) && (false || not (said_by acts cond == 0) || false)) ≡ acts
writes_by true cond address is = is
writes_by false cond address is = refl

loads_as : (f g : Fields) → HoldsImmediate g (canonical_load f) → is_load f ≡ true → is_load g ≡ true
unfolding canonical_load
loads_as f g h is = rw (h.sig, h.kind) is

add_as : (f g : Fields) → HoldsImmediate g (canonical_load f) → is_load f ≡ true → is_load g ≡ true → g.sig ≡ 14 → f.sig ≡ 14 → add_writes g ≡ add_writes f
unfolding canonical_load
add_as f g h is is' sig own =
    rw (is', sig, h.cond_add, h.waddr_add) (writes_by (add_writes f) f.cond_add f.waddr_add (sym (own_writes f is own)))
  where
    own_writes : (f : Fields) → is_load f ≡ true → f.sig ≡ 14 → add_writes f ≡ (not (f.waddr_add == 39) && (false || not (f.cond_add == 0) || false))
    own_writes f is own = rw (is, own) refl

mul_as : (f g : Fields) → HoldsImmediate g (canonical_load f) → is_load f ≡ true → is_load g ≡ true → g.sig ≡ 14 → f.sig ≡ 14 → mul_writes g ≡ mul_writes f
unfolding canonical_load
mul_as f g h is is' sig own =
    rw (is', sig, h.cond_mul, h.waddr_mul) (writes_by (mul_writes f) f.cond_mul f.waddr_mul (sym (own_writes f is own)))
  where
    own_writes : (f : Fields) → is_load f ≡ true → f.sig ≡ 14 → mul_writes f ≡ (not (f.waddr_mul == 39) && (false || not (f.cond_mul == 0) || false))
    own_writes f is own = rw (is, own) refl

pub load_acts : (f g : Fields) → HoldsImmediate g (canonical_load f) → is_load f ≡ true → LoadActs f g
load_acts f g h is =
    let is' : is_load g ≡ true = loads_as f g h is in
    let known : (g.sig ≡ 14) × ((g.kind == 4) ≡ false) × (((g.kind == 0) || (g.kind == 1) || (g.kind == 3)) ≡ true) = kind_by g.sig g.kind is' in
    let own : (f.sig ≡ 14) × ((f.kind == 4) ≡ false) × (((f.kind == 0) || (f.kind == 1) || (f.kind == 3)) ≡ true) = kind_by f.sig f.kind is in
    record {
      sig = known.0;
      own_sig = own.0;
      load = is';
      semaphore = rw (known.0, known.1) refl;
      own_semaphore = rw (own.0, own.1) refl;
      add = add_as f g h is is' known.0 own.0;
      mul = mul_as f g h is is' known.0 own.0;
    }

sends_by : (add load cond bad mul cond' bad' rest : Bool) → (((add || (load && cond)) && bad) || ((mul || (load && cond')) && bad') || rest) ≡ false → load ≡ true
    → ((cond && bad) ≡ false) × ((cond' && bad') ≡ false)
sends_by add load cond bad mul cond' bad' rest none is = (grind (arith, none, is), grind (arith, none, is))

named_by : (acts : Bool) (cond address : ℕ) → (not (cond == 0) && not (is_write_address address)) ≡ false
    → (not (said_by acts cond == 0) && not (is_write_address (address_by acts address))) ≡ false
named_by true cond address none = none
named_by false cond address none = refl

either : (a b : Bool) → a ≡ false → b ≡ false → (a || b || false) ≡ false
either a b left right = rw (left, right) refl

load_writes : (f g : Fields) → HoldsImmediate g (canonical_load f) → LoadActs f g → is_load f ≡ true → has_fault f WriteAddress ≡ false → has_fault g WriteAddress ≡ false
unfolding has_fault canonical_load
load_writes f g h a is none =
    let two : ((not (f.cond_add == 0) && not (is_write_address f.waddr_add)) ≡ false) × ((not (f.cond_mul == 0) && not (is_write_address f.waddr_mul)) ≡ false) =
    sends_by (add_active f) (is_load f) (not (f.cond_add == 0)) (not (is_write_address f.waddr_add)) (mul_active f) (not (f.cond_mul == 0)) (not (is_write_address f.waddr_mul)) (is_branch f && not (is_link_address f.waddr_add && is_link_address f.waddr_mul)) none is in
    rw (a.load, a.sig, h.cond_add, h.waddr_add, h.cond_mul, h.waddr_mul)
    (either (not (said_by (add_writes f) f.cond_add == 0) && not (is_write_address (address_by (add_writes f) f.waddr_add))) (not (said_by (mul_writes f) f.cond_mul == 0) && not (is_write_address (address_by (mul_writes f) f.waddr_mul)))
    (named_by (add_writes f) f.cond_add f.waddr_add two.0) (named_by (mul_writes f) f.cond_mul f.waddr_mul two.1))

pack_by : (unit bad : Bool) (sig pack : ℕ) → ((unit && bad) || ((sig == 14) && not (pack == 0))) ≡ false → sig ≡ 14 → pack ≡ 0
pack_by unit bad sig pack none is = grind (arith, nat_tests, none, is)

pub no_pack : (f : Fields) → f.sig ≡ 14 → has_fault f Packing ≡ false → f.pack ≡ 0
unfolding has_fault
no_pack f sig none = pack_by (is_unit_word f) (bad_packing f) f.sig f.pack none sig

pub load_faultless : (f g : Fields) → HoldsImmediate g (canonical_load f) → LoadActs f g → is_load f ≡ true → IsFaultless f → IsFaultless g
unfolding has_fault canonical_load
load_faultless f g h a is n = record {
  signal = rw a.sig refl;
  float = rw a.sig refl;
  reserved = rw a.sig refl;
  reads = rw a.sig refl;
  writes = load_writes f g h a is n.writes;
  packing = rw (a.sig, h.pack, no_pack f a.own_sig n.packing) refl;
  branch = rw a.sig refl;
  kind = rw (a.load, a.sig) refl;
  rotation = rw a.sig refl;
  target = rw a.semaphore refl;
  source = rw a.sig refl;
}

load_by : (add mul : Bool) (ca ta cm tm : ℕ)
    → ((add || ((said_by add ca == 0) && (address_by add ta == 39))) && (mul || ((said_by mul cm == 0) && (address_by mul tm == 39)))) ≡ true
load_by true true ca ta cm tm = refl
load_by true false ca ta cm tm = refl
load_by false true ca ta cm tm = refl
load_by false false ca ta cm tm = refl

pub load_matters : (f : Fields) → f.sig ≡ 14 → exchange_matters f ≡ ((add_writes f && file_matters f.waddr_add) || (mul_writes f && file_matters f.waddr_mul))
load_matters f sig = rw sig refl

load_exchanges : (f g : Fields) → HoldsImmediate g (canonical_load f) → LoadActs f g → exchange_rule g ≡ true
unfolding exchange_rule canonical_load canonical_exchange
load_exchanges f g h a =
    rw (a.add, a.mul, a.sig, h.ws, h.waddr_add, h.waddr_mul)
    (exchange_by (exchange_matters f) (add_writes f) (mul_writes f) f.ws f.waddr_add f.waddr_mul (sym (load_matters f a.own_sig)))

pub load_kept : (f g : Fields) → HoldsImmediate g (canonical_load f) → LoadActs f g → KeepsEach g
unfolding add_rule mul_rule operand_rule flags_rule row_rule small_rule load_rule semaphore_rule branch_rule canonical_load
load_kept f g h a = record {
  adds = rw a.sig refl;
  muls = rw a.sig refl;
  operands = rw (a.sig, h.pm) refl;
  flags = rw a.sig refl;
  exchange = load_exchanges f g h a;
  rows = rw a.sig refl;
  small = rw a.sig refl;
  loads = rw (a.add, a.mul, a.load, h.cond_add, h.waddr_add, h.cond_mul, h.waddr_mul) (load_by (add_writes f) (mul_writes f) f.cond_add f.waddr_add f.cond_mul f.waddr_mul);
  semaphores = rw a.semaphore refl;
  branches = rw a.sig refl;
}

-- semaphore words

-- the fields of a canonical semaphore word
pub record SemaphoreActs (g : Fields) (n : ℕ) : Type 0 where
  pub sig : g.sig ≡ 14
  pub kind : g.kind ≡ 4
  pub pm : g.pm ≡ 0
  pub pack : g.pack ≡ 0
  pub cond_add : g.cond_add ≡ 0
  pub cond_mul : g.cond_mul ≡ 0
  pub sf : g.sf ≡ 0
  pub ws : g.ws ≡ 0
  pub waddr_add : g.waddr_add ≡ 39
  pub waddr_mul : g.waddr_mul ≡ 39
  pub immediate : g.immediate ≡ n % 32

pub semaphore_by : (sig kind : ℕ) → ((sig == 14) && (kind == 4)) ≡ true → (sig ≡ 14) × (kind ≡ 4)
semaphore_by sig kind is = (grind (arith, nat_tests, is), grind (arith, nat_tests, is))

pub target_by : (is : Bool) (add mul : ℕ) → (is && not ((add == 39) && (mul == 39))) ≡ false → is ≡ true → (add ≡ 39) × (mul ≡ 39)
target_by is add mul none there = (grind (arith, nat_tests, none, there), grind (arith, nat_tests, none, there))

pub semaphore_acts : (f g : Fields) → HoldsImmediate g (canonical_semaphore f) → is_semaphore f ≡ true → has_fault f SemaphoreTarget ≡ false → SemaphoreActs g f.immediate
unfolding has_fault canonical_semaphore
semaphore_acts f g h is none =
    let known : (f.sig ≡ 14) × (f.kind ≡ 4) = semaphore_by f.sig f.kind is in
    let to : (f.waddr_add ≡ 39) × (f.waddr_mul ≡ 39) = target_by (is_semaphore f) f.waddr_add f.waddr_mul none is in
    record {
      sig = h.sig ∙ known.0;
      kind = h.kind ∙ known.1;
      pm = h.pm;
      pack = h.pack;
      cond_add = h.cond_add;
      cond_mul = h.cond_mul;
      sf = h.sf;
      ws = h.ws;
      waddr_add = h.waddr_add ∙ to.0;
      waddr_mul = h.waddr_mul ∙ to.1;
      immediate = h.immediate;
    }

pub semaphore_faultless : (g : Fields) (n : ℕ) → SemaphoreActs g n → IsFaultless g
unfolding has_fault
semaphore_faultless g n a = record {
  signal = rw a.sig refl;
  float = rw a.sig refl;
  reserved = rw a.sig refl;
  reads = rw a.sig refl;
  writes = rw (a.sig, a.kind) refl;
  packing = rw (a.sig, a.pack) refl;
  branch = rw a.sig refl;
  kind = rw (a.sig, a.kind) refl;
  rotation = rw a.sig refl;
  target = rw (a.sig, a.kind, a.waddr_add, a.waddr_mul) refl;
  source = rw a.sig refl;
}

low_test : (n : ℕ) → nat_lt (n % 32) 32 ≡ true
low_test n = let below : n % 32 < 32 = omega arith in grind (arith, nat_tests, below)

pub semaphore_kept : (g : Fields) (n : ℕ) → SemaphoreActs g n → KeepsEach g
unfolding add_rule mul_rule operand_rule flags_rule exchange_rule row_rule small_rule load_rule semaphore_rule branch_rule
semaphore_kept g n a = record {
  adds = rw a.sig refl;
  muls = rw a.sig refl;
  operands = rw (a.sig, a.pm) refl;
  flags = rw a.sig refl;
  exchange = rw a.ws refl;
  rows = rw a.sig refl;
  small = rw a.sig refl;
  loads = rw (a.sig, a.kind) refl;
  semaphores = rw (a.sig, a.kind, a.pack, a.cond_add, a.cond_mul, a.sf, a.ws, a.immediate, low_test n) refl;
  branches = rw a.sig refl;
}

-- branches

pub branch_by : (n : ℕ) → (n == 15) ≡ true → n ≡ 15
branch_by n is = grind (arith, nat_tests, is)

links_by : (add bad mul bad' branch bad'' : Bool) → ((add && bad) || (mul && bad') || (branch && bad'')) ≡ false → branch ≡ true → bad'' ≡ false
links_by add bad mul bad' branch bad'' none is = grind (arith, none, is)

branch_links : (f g : Fields) → HoldsBranch g (canonical_branch f) → g.sig ≡ 15 → is_branch f ≡ true → has_fault f WriteAddress ≡ false → has_fault g WriteAddress ≡ false
unfolding has_fault canonical_branch
branch_links f g h sig is none =
    rw (sig, h.waddr_add, h.waddr_mul)
    (links_by (add_active f || (is_load f && not (f.cond_add == 0))) (not (is_write_address f.waddr_add)) (mul_active f || (is_load f && not (f.cond_mul == 0))) (not (is_write_address f.waddr_mul)) (is_branch f) (not (is_link_address f.waddr_add && is_link_address f.waddr_mul)) none is)

right_if : (a b : Bool) → (a && b) ≡ false → a ≡ true → b ≡ false
right_if a b none is = grind (arith, none, is)

branch_known : (f g : Fields) → HoldsBranch g (canonical_branch f) → g.sig ≡ 15 → is_branch f ≡ true → has_fault f BranchCond ≡ false → has_fault g BranchCond ≡ false
unfolding has_fault canonical_branch
branch_known f g h sig is none = rw (sig, h.cond_br) (right_if (is_branch f) (between 12 f.cond_br 14) none is)

pub branch_faultless : (f g : Fields) → HoldsBranch g (canonical_branch f) → g.sig ≡ 15 → is_branch f ≡ true → IsFaultless f → IsFaultless g
unfolding has_fault
branch_faultless f g h sig is n = record {
  signal = rw sig refl;
  float = rw sig refl;
  reserved = rw sig refl;
  reads = rw sig refl;
  writes = branch_links f g h sig is n.writes;
  packing = rw sig refl;
  branch = branch_known f g h sig is n.branch;
  kind = rw sig refl;
  rotation = rw sig refl;
  target = rw sig refl;
  source = rw sig refl;
}

branch_exchanges : (f g : Fields) → HoldsBranch g (canonical_branch f) → g.sig ≡ 15 → f.sig ≡ 15 → exchange_rule g ≡ true
unfolding exchange_rule canonical_branch canonical_exchange
branch_exchanges f g h sig own =
    rw (sig, h.ws, h.waddr_add, h.waddr_mul)
    (kept_by (exchange_matters f) (not (f.waddr_add == 39) && true && file_matters f.waddr_add) (not (f.waddr_mul == 39) && true && file_matters f.waddr_mul) f.ws (sym (own_matters f own)))
  where
    own_matters : (f : Fields) → f.sig ≡ 15 → exchange_matters f ≡ ((not (f.waddr_add == 39) && true && file_matters f.waddr_add) || (not (f.waddr_mul == 39) && true && file_matters f.waddr_mul))
    own_matters f own = rw own refl

row_by : (reg : Bool) (n : ℕ) → (reg || (said_by reg n == 0)) ≡ true
row_by true n = refl
row_by false n = refl

branch_row : (f g : Fields) → HoldsBranch g (canonical_branch f) → g.sig ≡ 15 → branch_rule g ≡ true
unfolding branch_rule canonical_branch
branch_row f g h sig = rw (sig, h.kind, h.reg, h.raddr_br) (row_by (f.reg == 1) f.raddr_br)

branch_pm : (f g : Fields) → HoldsBranch g (canonical_branch f) → g.pm ≡ 0
unfolding canonical_branch
branch_pm f g h = h.pm

pub branch_kept : (f g : Fields) → HoldsBranch g (canonical_branch f) → g.sig ≡ 15 → f.sig ≡ 15 → KeepsEach g
unfolding add_rule mul_rule operand_rule flags_rule row_rule small_rule load_rule semaphore_rule
branch_kept f g h sig own = record {
  adds = rw sig refl;
  muls = rw sig refl;
  operands = rw (sig, branch_pm f g h) refl;
  flags = rw sig refl;
  exchange = branch_exchanges f g h sig own;
  rows = rw sig refl;
  small = rw sig refl;
  loads = rw sig refl;
  semaphores = rw sig refl;
  branches = branch_row f g h sig;
}
