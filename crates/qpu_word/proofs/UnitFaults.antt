-- The canonical fields of an ALU or small immediate word of the profile have no fault.
use Rattle.std.proofs.Common.{◌≡◌, ℕ, Bool, true, false, refl, arith}
use Rattle.std.specs.Prelude.{◌==◌, ◌||◌, ◌&&◌, not, nat_lt, nat_le, if◌then◌else◌}
use Rattle.std.proofs.lemmas.Bool.Decides.{nat_tests}
use Rattle.qpu_word.specs.declared.word.Fields.{Fields}
use Rattle.qpu_word.specs.declared.fault.WordFault.TheVariants.{Signal, FloatOp, ReservedOp, ReadAddress, WriteAddress, Packing, BranchCond, LoadKind, Rotation, SemaphoreTarget, NoSource}
use Rattle.qpu_word.specs.Words.{between, is_small, is_unit_word, is_load, is_branch, add_active, mul_active, add_writes, mul_writes, uses, is_read_address, is_write_address, is_link_address, packs_row, bad_packing, has_fault}
use Rattle.qpu_word.specs.Canonical.{file_matters}
use Rattle.qpu_word.specs.CanonicalWord.{exchange_matters, code_acts, said_by, address_by, row_by, canonical_row_b, canonical_exchange, canonical_units}
use Rattle.qpu_word.proofs.PackedLemmas.{HoldsUnits}
use Rattle.qpu_word.proofs.UnitFields.{ActsAs, unit_signal, no_immediate, no_branch}
use Rattle.qpu_word.proofs.FaultLemmas.{IsFaultless}

-- rows of the table that only other forms have
no_signal : (f g : Fields) → ActsAs f g → has_fault g Signal ≡ false
unfolding has_fault
no_signal f g a = rw a.unit refl

no_condition : (f g : Fields) → ActsAs f g → has_fault g BranchCond ≡ false
unfolding has_fault
no_condition f g a = rw (no_branch g.sig a.unit) refl

no_kind : (f g : Fields) → ActsAs f g → has_fault g LoadKind ≡ false
unfolding has_fault
no_kind f g a = rw (no_immediate g.sig a.unit) refl

no_target : (f g : Fields) → ActsAs f g → has_fault g SemaphoreTarget ≡ false
unfolding has_fault
no_target f g a = rw (no_immediate g.sig a.unit) refl

-- operations
float_by : (unit add mul : Bool) (x y : ℕ) → (unit && (between 1 x 8 || (y == 1))) ≡ false → unit ≡ true
    → (between 1 (said_by add x) 8 || (said_by mul y == 1)) ≡ false
float_by true true true x y none is = none
float_by true true false x y none is = grind (arith, nat_tests, none)
float_by true false true x y none is = grind (arith, nat_tests, none)
float_by true false false x y none is = refl
float_by false add mul x y none is = absurd (cc)

no_float : (f g : Fields) → HoldsUnits g (canonical_units f) → ActsAs f g → unit_signal f.sig ≡ true → has_fault f FloatOp ≡ false → has_fault g FloatOp ≡ false
unfolding has_fault canonical_units
no_float f g h a unit none = rw (a.unit, h.op_add, h.op_mul) (float_by (is_unit_word f) (add_active f) (mul_active f) f.op_add f.op_mul none unit)

reserved_by : (unit add : Bool) (x : ℕ) → (unit && (between 9 x 11 || between 25 x 29)) ≡ false → unit ≡ true
    → (between 9 (said_by add x) 11 || between 25 (said_by add x) 29) ≡ false
reserved_by true true x none is = none
reserved_by true false x none is = refl
reserved_by false add x none is = absurd (cc)

no_reserved : (f g : Fields) → HoldsUnits g (canonical_units f) → ActsAs f g → unit_signal f.sig ≡ true → has_fault f ReservedOp ≡ false → has_fault g ReservedOp ≡ false
unfolding has_fault canonical_units
no_reserved f g h a unit none = rw (a.unit, h.op_add) (reserved_by (is_unit_word f) (add_active f) f.op_add none unit)

-- read addresses
named_by : (gone : Bool) (a : ℕ) → is_read_address a ≡ true → is_read_address (if gone then 39 else a) ≡ true
named_by true a is = refl
named_by false a is = is

code_by : (small acts row used : Bool) (b : ℕ) → (not small && not (is_read_address b)) ≡ false
    → (not (small && acts) && not (is_read_address (if small then (if acts then b else 39) else (if row && not used then 39 else b)))) ≡ false
code_by true true row used b none = refl
code_by true false row used b none = refl
code_by false acts true true b none = none
code_by false acts true false b none = refl
code_by false acts false used b none = none

reads_by : (unit bad_a bad_b : Bool) → (unit && (bad_a || bad_b)) ≡ false → unit ≡ true → (bad_a ≡ false) × (bad_b ≡ false)
reads_by true false false none is = (refl, refl)
reads_by true true bad_b none is = absurd (cc)
reads_by true false true none is = absurd (cc)
reads_by false bad_a bad_b none is = absurd (cc)

is_not : (b : Bool) → not b ≡ false → b ≡ true
is_not true none = refl
is_not false none = absurd (cc)

no_reads : (f g : Fields) → HoldsUnits g (canonical_units f) → ActsAs f g → unit_signal f.sig ≡ true → has_fault f ReadAddress ≡ false → has_fault g ReadAddress ≡ false
unfolding has_fault canonical_units canonical_row_b
no_reads f g h a unit none =
    let two : (not (is_read_address f.raddr_a) ≡ false) × ((not (is_small f) && not (is_read_address f.raddr_b)) ≡ false) = reads_by (is_unit_word f) (not (is_read_address f.raddr_a)) (not (is_small f) && not (is_read_address f.raddr_b)) none unit in
    rw (a.unit, h.raddr_a, named_by (nat_lt f.raddr_a 32 && not (uses f 6)) f.raddr_a (is_not (is_read_address f.raddr_a) two.0), a.small, h.raddr_b)
    (code_by (is_small f) (code_acts f) (nat_lt f.raddr_b 32) (uses f 7) f.raddr_b two.1)

-- write addresses
pub sends_by : (add load_add bad_add mul load_mul bad_mul rest : Bool) → (((add || load_add) && bad_add) || ((mul || load_mul) && bad_mul) || rest) ≡ false
    → ((add && bad_add) ≡ false) × ((mul && bad_mul) ≡ false)
sends_by add load_add bad_add mul load_mul bad_mul rest none = (grind (arith, none), grind (arith, none))

pub sends_of : (add bad_add mul bad_mul : Bool) → (add && bad_add) ≡ false → (mul && bad_mul) ≡ false → (((add || false) && bad_add) || ((mul || false) && bad_mul) || false) ≡ false
sends_of true bad_add true bad_mul none none' = rw (none, none') refl
sends_of true bad_add false bad_mul none none' = rw none refl
sends_of false bad_add true bad_mul none none' = rw none' refl
sends_of false bad_add false bad_mul none none' = refl

write_by : (acts : Bool) (address : ℕ) → (acts && not (is_write_address address)) ≡ false → (acts && not (is_write_address (address_by acts address))) ≡ false
write_by true address none = none
write_by false address none = refl

no_writes : (f g : Fields) → HoldsUnits g (canonical_units f) → ActsAs f g → has_fault f WriteAddress ≡ false → has_fault g WriteAddress ≡ false
unfolding has_fault canonical_units
no_writes f g h a none =
    let two : ((add_active f && not (is_write_address f.waddr_add)) ≡ false) × ((mul_active f && not (is_write_address f.waddr_mul)) ≡ false) =
    sends_by (add_active f) (is_load f && not (f.cond_add == 0)) (not (is_write_address f.waddr_add)) (mul_active f) (is_load f && not (f.cond_mul == 0)) (not (is_write_address f.waddr_mul)) (is_branch f && not (is_link_address f.waddr_add && is_link_address f.waddr_mul)) none in
    rw (a.add, a.mul, no_immediate g.sig a.unit, no_branch g.sig a.unit, h.waddr_add, h.waddr_mul)
    (sends_of (add_active f) (not (is_write_address (address_by (add_active f) f.waddr_add))) (mul_active f) (not (is_write_address (address_by (mul_active f) f.waddr_mul)))
    (write_by (add_active f) f.waddr_add two.0) (write_by (mul_active f) f.waddr_mul two.1))

-- rotations
rotation_by : (small acts far mul high used : Bool) (b r x y : ℕ) → nat_le 48 b ≡ far → (nat_lt 3 x || nat_lt 3 y) ≡ high
    → (small && far && ((mul && high) || used)) ≡ false
    → ((small && acts) && nat_le 48 (if small then (if acts then b else 39) else r) && ((mul && (nat_lt 3 (said_by mul x) || nat_lt 3 (said_by mul y))) || used)) ≡ false
rotation_by true true far true high used b r x y is_far is_high none = rw (is_far, is_high) none
rotation_by true true far false high used b r x y is_far is_high none = rw is_far none
rotation_by true false far mul high used b r x y is_far is_high none = refl
rotation_by false acts far mul high used b r x y is_far is_high none = refl

no_rotation : (f g : Fields) → HoldsUnits g (canonical_units f) → ActsAs f g → has_fault f Rotation ≡ false → has_fault g Rotation ≡ false
unfolding has_fault canonical_units canonical_row_b
no_rotation f g h a none =
    rw (a.uses 7, a.mul, a.small, h.raddr_b, h.mul_a, h.mul_b)
    (rotation_by (is_small f) (code_acts f) (nat_le 48 f.raddr_b) (mul_active f) (nat_lt 3 f.mul_a || nat_lt 3 f.mul_b) (uses f 7) f.raddr_b (row_by (uses f 7) f.raddr_b) f.mul_a f.mul_b refl refl none)

-- a code that a unit uses has an effect
acts_by : (small near far mul high used : Bool) (b : ℕ) → nat_lt b 48 ≡ near → nat_le 48 b ≡ far → (small && far && ((mul && high) || used)) ≡ false
    → small ≡ true → used ≡ true → (if near then used else mul) ≡ true
acts_by true true far mul high used b is_near is_far none is uses_it = uses_it
acts_by true false true mul high true b is_near is_far none is uses_it = absurd (grind (arith, none))
acts_by true false true mul high false b is_near is_far none is uses_it = absurd (cc)
acts_by true false false mul high used b is_near is_far none is uses_it = absurd (grind (arith, nat_tests, is_near, is_far))
acts_by false near far mul high used b is_near is_far none is uses_it = absurd (cc)

pub code_used : (f : Fields) → has_fault f Rotation ≡ false → is_small f ≡ true → uses f 7 ≡ true → code_acts f ≡ true
unfolding has_fault
code_used f none small used =
    acts_by (is_small f) (nat_lt f.raddr_b 48) (nat_le 48 f.raddr_b) (mul_active f) (nat_lt 3 f.mul_a || nat_lt 3 f.mul_b) (uses f 7) f.raddr_b refl refl none small used

-- sources
source_by : (row used row' used' small acts : Bool) (a b : ℕ) → ((used && (a == 39)) || (used' && not small && (b == 39))) ≡ false
    → (small ≡ true → used' ≡ true → acts ≡ true)
    → ((used && ((if row && not used then 39 else a) == 39)) || (used' && not (small && acts) && ((if small then (if acts then b else 39) else (if row' && not used' then 39 else b)) == 39))) ≡ false
source_by row true row' false small acts a b none kept = grind (arith, none)
source_by true true true true true true a b none kept = none
source_by true true false true true true a b none kept = none
source_by false true true true true true a b none kept = none
source_by false true false true true true a b none kept = none
source_by row true row' true true false a b none kept = absurd (let e : false ≡ true = kept refl refl in cc)
source_by true true true true false acts a b none kept = none
source_by true true false true false acts a b none kept = none
source_by false true true true false acts a b none kept = none
source_by false true false true false acts a b none kept = none
source_by row false row' true true true a b none kept = refl
source_by row false row' true true false a b none kept = absurd (let e : false ≡ true = kept refl refl in cc)
source_by row false true true false acts a b none kept = none
source_by row false false true false acts a b none kept = none
source_by row false row' false small acts a b none kept = refl

no_source : (f g : Fields) → HoldsUnits g (canonical_units f) → ActsAs f g → has_fault f Rotation ≡ false → has_fault f NoSource ≡ false → has_fault g NoSource ≡ false
unfolding has_fault canonical_units canonical_row_b
no_source f g h a rotation none =
    rw (a.uses 6, a.uses 7, a.small, h.raddr_a, h.raddr_b)
    (source_by (nat_lt f.raddr_a 32) (uses f 6) (nat_lt f.raddr_b 32) (uses f 7) (is_small f) (code_acts f) f.raddr_a f.raddr_b none (λ small used. code_used f rotation small used))

-- packing
row_kept : (acts : Bool) (address : ℕ) → (acts && nat_lt address 32) ≡ true → (acts && nat_lt (address_by acts address) 32) ≡ true
row_kept true address row = row
row_kept false address row = row

rows_by : (exchanged matters add mul : Bool) (ws x y : ℕ) → (ws == 1) ≡ exchanged → ((mul && nat_lt y 32) ≡ true → matters ≡ true)
    → (if exchanged then mul && nat_lt y 32 else add && nat_lt x 32) ≡ true
    → (if said_by matters ws == 1 then mul && nat_lt (address_by mul y) 32 else add && nat_lt (address_by add x) 32) ≡ true
rows_by true true add mul ws x y is kept row = rw is (row_kept mul y row)
rows_by true false add mul ws x y is kept row = absurd (let e : false ≡ true = kept row in cc)
rows_by false true add mul ws x y is kept row = rw is (row_kept add x row)
rows_by false false add mul ws x y is kept row = row_kept add x row

pub row_matters : (first mul writes row a b c : Bool) → (mul && row) ≡ true → (first || ((mul || writes) && (row || a || b || c))) ≡ true
row_matters first mul writes row a b c is = grind (arith, is)

packs_kept : (f g : Fields) → HoldsUnits g (canonical_units f) → ActsAs f g → packs_row f ≡ true → packs_row g ≡ true
unfolding canonical_units canonical_exchange
packs_kept f g h a row =
    rw (h.ws, a.add, a.mul, h.waddr_add, h.waddr_mul)
    (rows_by (f.ws == 1) (exchange_matters f) (add_active f) (mul_active f) f.ws f.waddr_add f.waddr_mul refl
    (λ is. row_matters ((add_active f || add_writes f) && file_matters f.waddr_add) (mul_active f) (mul_writes f) (nat_lt f.waddr_mul 32) (f.waddr_mul == 37) (f.waddr_mul == 49) (f.waddr_mul == 50) is)
    row)

packing_by : (pm eighth packed row row' unpacked far used far' : Bool) → (pm || eighth || (packed && not row) || (unpacked && (far || not used))) ≡ false
    → (row ≡ true → row' ≡ true) → (used ≡ true → far ≡ false → far' ≡ false)
    → (false || eighth || (packed && not row') || (unpacked && (far' || not used))) ≡ false
packing_by pm eighth packed row row' unpacked far used far' none kept near = grind (arith, none, kept, near)

pub unit_packing : (unit bad immediate : Bool) → ((unit && bad) || immediate) ≡ false → unit ≡ true → bad ≡ false
unit_packing true false immediate none is = refl
unit_packing true true immediate none is = absurd (cc)
unit_packing false bad immediate none is = absurd (cc)

far_by : (used near : Bool) (a : ℕ) → used ≡ true → nat_le 32 a ≡ false → nat_le 32 (if near && not used then 39 else a) ≡ false
far_by true true a is far = far
far_by true false a is far = far
far_by false near a is far = absurd (cc)

good_packing : (f g : Fields) → HoldsUnits g (canonical_units f) → ActsAs f g → bad_packing f ≡ false → bad_packing g ≡ false
unfolding canonical_units
good_packing f g h a none =
    rw (h.pm, h.pack, h.unpack, h.raddr_a, a.uses 6)
    (packing_by ((f.pm == 1) && not ((f.pack == 0) && (f.unpack == 0))) (f.pack == 8) (not (f.pack == 0)) (packs_row f) (packs_row g) (not (f.unpack == 0)) (nat_le 32 f.raddr_a) (uses f 6)
    (nat_le 32 (row_by (uses f 6) f.raddr_a)) none (packs_kept f g h a) (far_by (uses f 6) (nat_lt f.raddr_a 32) f.raddr_a))

no_packing : (f g : Fields) → HoldsUnits g (canonical_units f) → ActsAs f g → unit_signal f.sig ≡ true → has_fault f Packing ≡ false → has_fault g Packing ≡ false
unfolding has_fault
no_packing f g h a unit none =
    rw (good_packing f g h a (unit_packing (is_unit_word f) (bad_packing f) ((f.sig == 14) && not (f.pack == 0)) none unit), a.unit, no_immediate g.sig a.unit) refl

-- the whole table
pub units_faultless : (f g : Fields) → HoldsUnits g (canonical_units f) → ActsAs f g → unit_signal f.sig ≡ true → IsFaultless f → IsFaultless g
units_faultless f g h a unit n = record {
  signal = no_signal f g a;
  float = no_float f g h a unit n.float;
  reserved = no_reserved f g h a unit n.reserved;
  reads = no_reads f g h a unit n.reads;
  writes = no_writes f g h a n.writes;
  packing = no_packing f g h a unit n.packing;
  branch = no_condition f g a;
  kind = no_kind f g a;
  rotation = no_rotation f g h a n.rotation;
  target = no_target f g a;
  source = no_source f g h a n.rotation n.source;
}
