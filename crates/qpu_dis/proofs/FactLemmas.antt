-- What the profile tells of the names in a word.
use Rattle.std.proofs.Common.{◌≡◌, ℕ, ◌<◌, ◌^◌, Bool, true, false, ◌||◌, ◌&&◌, refl, arith}
use Rattle.std.specs.Prelude.{◌==◌, not}
use Rattle.std.proofs.lemmas.Bool.Decides.{nat_tests}
use Rattle.qpu_word.specs.declared.word.Fields.{Fields}
use Rattle.qpu_word.specs.declared.fault.WordFault.TheVariants.{Signal as BadSignal, ReadAddress as BadRead, WriteAddress as BadWrite, Packing as BadPacking, NoSource as BadSource}
use Rattle.qpu_word.specs.declared.code.TheConstants.{MUX_FILE_A, MUX_FILE_B, NOWHERE}
use Rattle.qpu_word.specs.Words.{fields_of, has_fault, all_faults, word_fault, IsInProfile, is_unit_word, is_small, is_load, is_branch, add_active, mul_active, is_unary, add_uses, mul_uses, uses, is_read_address, is_write_address, is_link_address}
use Rattle.qpu_word.proofs.ProfileLemmas.{every_row, field_below}

-- rows of the table of faults that don't hold, and bounds of fields
pub record IsNamed (f : Fields) : Type 0 where
  pub reads : has_fault f BadRead ≡ false
  pub writes : has_fault f BadWrite ≡ false
  pub packing : has_fault f BadPacking ≡ false
  pub sources : has_fault f BadSource ≡ false
  pub unpack : f.unpack < 8
  pub pack : f.pack < 16
  pub cond_add : f.cond_add < 8
  pub cond_mul : f.cond_mul < 8
  pub raddr_b : f.raddr_b < 64
  pub add_a : f.add_a < 8
  pub add_b : f.add_b < 8
  pub mul_a : f.mul_a < 8
  pub mul_b : f.mul_b < 8
  pub immediate : f.immediate < 2 ^ 32
  pub number : f.number < 16
  pub raddr_br : f.raddr_br < 32

pub named : (w : ℕ) → IsInProfile w → IsNamed (fields_of w)
unfolding word_fault
named w inside = record {
  reads = every_row (has_fault (fields_of w)) all_faults inside 3 BadSignal (omega arith);
  writes = every_row (has_fault (fields_of w)) all_faults inside 4 BadSignal (omega arith);
  packing = every_row (has_fault (fields_of w)) all_faults inside 5 BadSignal (omega arith);
  sources = every_row (has_fault (fields_of w)) all_faults inside 10 BadSignal (omega arith);
  unpack = field_below w 57 3;
  pack = field_below w 52 4;
  cond_add = field_below w 49 3;
  cond_mul = field_below w 46 3;
  raddr_b = field_below w 12 6;
  add_a = field_below w 9 3;
  add_b = field_below w 6 3;
  mul_a = field_below w 3 3;
  mul_b = field_below w 0 3;
  immediate = field_below w 0 32;
  number = field_below w 0 4;
  raddr_br = field_below w 45 5;
}

-- reads

read_a_by : (unit a small b : Bool) → (unit && (not a || (not small && not b))) ≡ false → unit ≡ true → a ≡ true
read_a_by unit a small b none is = grind (arith, none, is)

read_b_by : (unit a small b : Bool) → (unit && (not a || (not small && not b))) ≡ false → unit ≡ true → small ≡ false → b ≡ true
read_b_by unit a small b none is large = grind (arith, none, is, large)

pub read_a : (f : Fields) → IsNamed f → is_unit_word f ≡ true → is_read_address f.raddr_a ≡ true
unfolding has_fault
read_a f h unit = read_a_by (is_unit_word f) (is_read_address f.raddr_a) (is_small f) (is_read_address f.raddr_b) h.reads unit

pub read_b : (f : Fields) → IsNamed f → is_unit_word f ≡ true → is_small f ≡ false → is_read_address f.raddr_b ≡ true
unfolding has_fault
read_b f h unit = read_b_by (is_unit_word f) (is_read_address f.raddr_a) (is_small f) (is_read_address f.raddr_b) h.reads unit

used_a_by : (uses_a a uses_b small b : Bool) → ((uses_a && a) || (uses_b && not small && b)) ≡ false → uses_a ≡ true → a ≡ false
used_a_by uses_a a uses_b small b none is = grind (arith, none, is)

used_b_by : (uses_a a uses_b small b : Bool) → ((uses_a && a) || (uses_b && not small && b)) ≡ false → uses_b ≡ true → small ≡ false → b ≡ false
used_b_by uses_a a uses_b small b none is large = grind (arith, none, is, large)

pub used_a : (f : Fields) → IsNamed f → uses f MUX_FILE_A ≡ true → (f.raddr_a == NOWHERE) ≡ false
unfolding has_fault
used_a f h = used_a_by (uses f MUX_FILE_A) (f.raddr_a == NOWHERE) (uses f MUX_FILE_B) (is_small f) (f.raddr_b == NOWHERE) h.sources

pub used_b : (f : Fields) → IsNamed f → uses f MUX_FILE_B ≡ true → is_small f ≡ false → (f.raddr_b == NOWHERE) ≡ false
unfolding has_fault
used_b f h = used_b_by (uses f MUX_FILE_A) (f.raddr_a == NOWHERE) (uses f MUX_FILE_B) (is_small f) (f.raddr_b == NOWHERE) h.sources

-- which operands are used

uses_by : (active x unary y mul : Bool) → active ≡ true → x ≡ true → ((active && (x || (not unary && y))) || mul) ≡ true
uses_by active x unary y mul p q = grind (arith, p, q)

uses_second : (active x unary y mul : Bool) → active ≡ true → unary ≡ false → y ≡ true → ((active && (x || (not unary && y))) || mul) ≡ true
uses_second active x unary y mul p u q = grind (arith, p, u, q)

pub add_first_used : (f : Fields) (m : ℕ) → add_active f ≡ true → (f.add_a == m) ≡ true → uses f m ≡ true
add_first_used f m active same = uses_by (add_active f) (f.add_a == m) (is_unary f.op_add) (f.add_b == m) (mul_uses f m) active same

pub add_second_used : (f : Fields) (m : ℕ) → add_active f ≡ true → is_unary f.op_add ≡ false → (f.add_b == m) ≡ true → uses f m ≡ true
add_second_used f m active two same = uses_second (add_active f) (f.add_a == m) (is_unary f.op_add) (f.add_b == m) (mul_uses f m) active two same

mul_by : (add active x y : Bool) → active ≡ true → (x || y) ≡ true → (add || (active && (x || y))) ≡ true
mul_by add active x y p q = grind (arith, p, q)

left_or : (x y : Bool) → x ≡ true → (x || y) ≡ true
left_or x y p = rw p refl

right_or : (x y : Bool) → y ≡ true → (x || y) ≡ true
right_or true y p = refl
right_or false y p = p

pub mul_first_used : (f : Fields) (m : ℕ) → mul_active f ≡ true → (f.mul_a == m) ≡ true → uses f m ≡ true
mul_first_used f m active same = mul_by (add_uses f m) (mul_active f) (f.mul_a == m) (f.mul_b == m) active (left_or (f.mul_a == m) (f.mul_b == m) same)

pub mul_second_used : (f : Fields) (m : ℕ) → mul_active f ≡ true → (f.mul_b == m) ≡ true → uses f m ≡ true
mul_second_used f m active same = mul_by (add_uses f m) (mul_active f) (f.mul_a == m) (f.mul_b == m) active (right_or (f.mul_a == m) (f.mul_b == m) same)

-- which units act

active_by : (unit no_op never : Bool) → unit ≡ true → (no_op || never) ≡ false → (unit && not no_op && not never) ≡ true
active_by unit no_op never p q = grind (arith, p, q)

pub add_acts : (f : Fields) → is_unit_word f ≡ true → ((f.op_add == 0) || (f.cond_add == 0)) ≡ false → add_active f ≡ true
add_acts f = active_by (is_unit_word f) (f.op_add == 0) (f.cond_add == 0)

pub mul_acts : (f : Fields) → is_unit_word f ≡ true → ((f.op_mul == 0) || (f.cond_mul == 0)) ≡ false → mul_active f ≡ true
mul_acts f = active_by (is_unit_word f) (f.op_mul == 0) (f.cond_mul == 0)

-- writes

write_by : (p a q b branch links : Bool) → ((p && not a) || (q && not b) || (branch && not links)) ≡ false → p ≡ true → a ≡ true
write_by p a q b branch links none is = grind (arith, none, is)

write_second : (p a q b branch links : Bool) → ((p && not a) || (q && not b) || (branch && not links)) ≡ false → q ≡ true → b ≡ true
write_second p a q b branch links none is = grind (arith, none, is)

link_by : (p a q b branch links : Bool) → ((p && not a) || (q && not b) || (branch && not links)) ≡ false → branch ≡ true → links ≡ true
link_by p a q b branch links none is = grind (arith, none, is)

-- a unit that is active, or writes of a load
abbrev add_acts_or_loads : Fields → Bool
add_acts_or_loads f = add_active f || (is_load f && not (f.cond_add == 0))

abbrev mul_acts_or_loads : Fields → Bool
mul_acts_or_loads f = mul_active f || (is_load f && not (f.cond_mul == 0))

add_written : (f : Fields) → IsNamed f → add_acts_or_loads f ≡ true → is_write_address f.waddr_add ≡ true
unfolding has_fault
add_written f h =
    write_by (add_acts_or_loads f) (is_write_address f.waddr_add) (mul_acts_or_loads f) (is_write_address f.waddr_mul) (is_branch f)
    (is_link_address f.waddr_add && is_link_address f.waddr_mul) h.writes

mul_written : (f : Fields) → IsNamed f → mul_acts_or_loads f ≡ true → is_write_address f.waddr_mul ≡ true
unfolding has_fault
mul_written f h =
    write_second (add_acts_or_loads f) (is_write_address f.waddr_add) (mul_acts_or_loads f) (is_write_address f.waddr_mul) (is_branch f)
    (is_link_address f.waddr_add && is_link_address f.waddr_mul) h.writes

loads_by : (active load never : Bool) → load ≡ true → never ≡ false → (active || (load && not never)) ≡ true
loads_by active load never p q = grind (arith, p, q)

pub add_named : (f : Fields) → IsNamed f → add_active f ≡ true → is_write_address f.waddr_add ≡ true
add_named f h active = add_written f h (left_or (add_active f) _ active)

pub mul_named : (f : Fields) → IsNamed f → mul_active f ≡ true → is_write_address f.waddr_mul ≡ true
mul_named f h active = mul_written f h (left_or (mul_active f) _ active)

pub add_loaded : (f : Fields) → IsNamed f → is_load f ≡ true → (f.cond_add == 0) ≡ false → is_write_address f.waddr_add ≡ true
add_loaded f h load some = add_written f h (loads_by (add_active f) (is_load f) (f.cond_add == 0) load some)

pub mul_loaded : (f : Fields) → IsNamed f → is_load f ≡ true → (f.cond_mul == 0) ≡ false → is_write_address f.waddr_mul ≡ true
mul_loaded f h load some = mul_written f h (loads_by (mul_active f) (is_load f) (f.cond_mul == 0) load some)

-- an address that a branch can link to has a name
link_named : (n : ℕ) → is_link_address n ≡ true → is_write_address n ≡ true
link_named n links = grind (arith, nat_tests, links)

both : (a b : Bool) → (a && b) ≡ true → (a ≡ true) × (b ≡ true)
both a b t = (grind (arith, t), grind (arith, t))

pub links_named : (f : Fields) → IsNamed f → is_branch f ≡ true → (is_write_address f.waddr_add ≡ true) × (is_write_address f.waddr_mul ≡ true)
unfolding has_fault
links_named f h branch =
    let links = both (is_link_address f.waddr_add) (is_link_address f.waddr_mul)
    (link_by (add_acts_or_loads f) (is_write_address f.waddr_add) (mul_acts_or_loads f) (is_write_address f.waddr_mul) (is_branch f)
    (is_link_address f.waddr_add && is_link_address f.waddr_mul) h.writes branch) in
    (link_named f.waddr_add links.0, link_named f.waddr_mul links.1)

-- packs

pack_by : (unit pm known nothing unpacks : Bool) (immediate : Bool) → ((unit && (pm || known || nothing || unpacks)) || immediate) ≡ false → unit ≡ true → known ≡ false
pack_by unit pm known nothing unpacks immediate none is = grind (arith, none, is)

pub pack_known : (f : Fields) → IsNamed f → is_unit_word f ≡ true → (f.pack == 8) ≡ false
unfolding has_fault
pack_known f h unit = pack_by (is_unit_word f) _ (f.pack == 8) _ _ _ h.packing unit
