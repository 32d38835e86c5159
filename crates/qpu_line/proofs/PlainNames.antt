-- The instructions of canonical words of loads and branches are those that have a word.
use Rattle.std.proofs.Common.{◌≡◌, ℕ, ◌<◌, Bool, true, false, refl, arith}
use Rattle.std.specs.Prelude.{◌==◌, ◌||◌, ◌&&◌, not, if◌then◌else◌, Some, None, IfSome}
use Rattle.qpu_word.specs.declared.word.Fields.{Fields}
use Rattle.qpu_word.specs.declared.fault.WordFault.TheVariants.{Signal, WriteAddress, BranchCond}
use Rattle.qpu_word.specs.Words.{fields_of, has_fault, all_faults, word_fault, IsInProfile, is_load, is_branch, is_write_address, is_link_address, between, add_active, mul_active}
use Rattle.qpu_word.proofs.ProfileLemmas.{every_row, field_below}
use Rattle.qpu_word.specs.Canonical.{IsCanonical}
use Rattle.qpu_line.specs.Targets.{target_at_address, exchange_of}
use Rattle.qpu_line.specs.Loads.{load_of, write_of, write_target}
use Rattle.qpu_line.specs.Branches.{branch_of, register_of}
use Rattle.qpu_line.specs.Worded.{IsLoad, IsWrite, IsBranch}
use Rattle.qpu_line.proofs.TargetLemmas.{address_back, exchange_back, exchange_kept}
use Rattle.qpu_line.proofs.PlainLemmas.{SaysOnce, says_once, target_by}
use Rattle.qpu_line.proofs.TestLemmas.{is_target}

-- rows of the table of faults that don't hold
no_write : (w : ℕ) → IsInProfile w → has_fault (fields_of w) WriteAddress ≡ false
unfolding word_fault
no_write w inside = every_row (has_fault (fields_of w)) all_faults inside 4 Signal (omega arith)

no_cond : (w : ℕ) → IsInProfile w → has_fault (fields_of w) BranchCond ≡ false
unfolding word_fault
no_cond w inside = every_row (has_fault (fields_of w)) all_faults inside 6 Signal (omega arith)

-- what a load's units write
add_by : (active load cond named rest other : Bool) → (((active || (load && cond)) && not named) || rest || other) ≡ false → load ≡ true → cond ≡ true → named ≡ true
add_by active load cond named rest other none is some = grind (arith, none, is, some)

mul_by : (first active load cond named other : Bool) → (first || ((active || (load && cond)) && not named) || other) ≡ false → load ≡ true → cond ≡ true → named ≡ true
mul_by first active load cond named other none is some = grind (arith, none, is, some)

add_writes_named : (f : Fields) → is_load f ≡ true → has_fault f WriteAddress ≡ false → not (f.cond_add == 0) ≡ true → is_write_address f.waddr_add ≡ true
unfolding has_fault
add_writes_named f is none some =
    add_by (add_active f) (is_load f) (not (f.cond_add == 0)) (is_write_address f.waddr_add) ((mul_active f || (is_load f && not (f.cond_mul == 0))) && not (is_write_address f.waddr_mul)) (is_branch f && not (is_link_address f.waddr_add && is_link_address f.waddr_mul))
    none
    is
    some

mul_writes_named : (f : Fields) → is_load f ≡ true → has_fault f WriteAddress ≡ false → not (f.cond_mul == 0) ≡ true → is_write_address f.waddr_mul ≡ true
unfolding has_fault
mul_writes_named f is none some =
    mul_by ((add_active f || (is_load f && not (f.cond_add == 0))) && not (is_write_address f.waddr_add)) (mul_active f) (is_load f) (not (f.cond_mul == 0)) (is_write_address f.waddr_mul) (is_branch f && not (is_link_address f.waddr_add && is_link_address f.waddr_mul))
    none
    is
    some

write_by : (never nowhere in_b : Bool) (cond address : ℕ) → (cond == 0) ≡ never → (address == 39) ≡ nowhere → cond < 8 → (not never ≡ true → is_write_address address ≡ true)
    → IfSome (if never || nowhere then None else Some (record { cond = cond; to = target_at_address in_b address })) IsWrite
write_by true nowhere in_b cond address is_never at below named = tt
write_by false true in_b cond address is_never at below named = tt
write_by false false in_b cond address is_never at below named = record {
  some = is_never;
  cond = below;
  named = rw (address_back in_b address) (named refl);
  somewhere = rw (address_back in_b address) at;
}

pub load_named : (w : ℕ) → (fields_of w).sig ≡ 14 → is_load (fields_of w) ≡ true → IsCanonical w → IsLoad (load_of (fields_of w))
load_named w sig is c =
    let f : Fields = fields_of w in
    let once : SaysOnce f.cond_add f.waddr_add × SaysOnce f.cond_mul f.waddr_mul = says_once f sig is c.loads in
    let add : write_target (write_of f.cond_add (f.ws == 1) f.waddr_add) ≡ target_at_address (f.ws == 1) f.waddr_add = target_by _ (f.ws == 1) f.cond_add f.waddr_add refl once.0 in
    let mul : write_target (write_of f.cond_mul (not (f.ws == 1)) f.waddr_mul) ≡ target_at_address (not (f.ws == 1)) f.waddr_mul = target_by _ (not (f.ws == 1)) f.cond_mul f.waddr_mul refl once.1 in
    let ws : exchange_of (target_at_address (f.ws == 1) f.waddr_add) (target_at_address (not (f.ws == 1)) f.waddr_mul) ≡ f.ws =
    exchange_back f.ws f.waddr_add f.waddr_mul (field_below w 44 1) (exchange_kept f c.exchange) in
    record {
      add = write_by (f.cond_add == 0) (f.waddr_add == 39) (f.ws == 1) f.cond_add f.waddr_add refl refl (field_below w 49 3) (add_writes_named f is (no_write w c.inside));
      mul = write_by (f.cond_mul == 0) (f.waddr_mul == 39) (not (f.ws == 1)) f.cond_mul f.waddr_mul refl refl (field_below w 46 3) (mul_writes_named f is (no_write w c.inside));
      add_to = rw (add, mul, ws) (is_target (f.ws == 1) f.waddr_add);
      mul_to = rw (add, mul, ws) (is_target (not (f.ws == 1)) f.waddr_mul);
      immediate = field_below w 0 32;
    }

-- branches
record BothLink (a b : Bool) : Type 0 where
  one : a ≡ true
  two : b ≡ true

link_by : (first second branch a b : Bool) → (first || second || (branch && not (a && b))) ≡ false → branch ≡ true → BothLink a b
link_by first second branch a b none is = record { one = grind (arith, none, is); two = grind (arith, none, is) }

links : (f : Fields) → is_branch f ≡ true → has_fault f WriteAddress ≡ false → BothLink (is_link_address f.waddr_add) (is_link_address f.waddr_mul)
unfolding has_fault
links f is none =
    link_by ((add_active f || (is_load f && not (f.cond_add == 0))) && not (is_write_address f.waddr_add)) ((mul_active f || (is_load f && not (f.cond_mul == 0))) && not (is_write_address f.waddr_mul)) (is_branch f) (is_link_address f.waddr_add) (is_link_address f.waddr_mul)
    none
    is

known_by : (branch bad : Bool) → (branch && bad) ≡ false → branch ≡ true → bad ≡ false
known_by true bad none is = none
known_by false bad none is = absurd (grind (arith, is))

known : (f : Fields) → is_branch f ≡ true → has_fault f BranchCond ≡ false → between 12 f.cond_br 14 ≡ false
unfolding has_fault
known f is none = known_by (is_branch f) (between 12 f.cond_br 14) none is

row_by : (on : Bool) (row : ℕ) → row < 32 → IfSome (register_of on row) (λ r. r < 32)
row_by true row below = below
row_by false row below = tt

pub branch_named : (w : ℕ) → is_branch (fields_of w) ≡ true → IsCanonical w → IsBranch (branch_of (fields_of w))
branch_named w is c =
    let f : Fields = fields_of w in
    let linked : BothLink (is_link_address f.waddr_add) (is_link_address f.waddr_mul) = links f is (no_write w c.inside) in
    let ws : exchange_of (target_at_address (f.ws == 1) f.waddr_add) (target_at_address (not (f.ws == 1)) f.waddr_mul) ≡ f.ws =
    exchange_back f.ws f.waddr_add f.waddr_mul (field_below w 44 1) (exchange_kept f c.exchange) in
    record {
      cond = field_below w 52 4;
      known = known f is (no_cond w c.inside);
      row = row_by (f.reg == 1) f.raddr_br (field_below w 45 5);
      add = rw (address_back (f.ws == 1) f.waddr_add) linked.one;
      mul = rw (address_back (not (f.ws == 1)) f.waddr_mul) linked.two;
      add_to = rw ws (is_target (f.ws == 1) f.waddr_add);
      mul_to = rw ws (is_target (not (f.ws == 1)) f.waddr_mul);
      immediate = field_below w 0 32;
    }
