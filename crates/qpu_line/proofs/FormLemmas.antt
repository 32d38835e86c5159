-- What the form of a word of the profile tells of its fields.
use Rattle.std.proofs.Common.{◌≡◌, ℕ, Bool, false, true, refl, arith}
use Rattle.std.specs.Prelude.{◌==◌, ◌||◌, ◌&&◌, not}
use Rattle.std.proofs.lemmas.Bool.Decides.{nat_tests}
use Rattle.qpu_word.specs.declared.word.Fields.{Fields}
use Rattle.qpu_word.specs.declared.fault.WordFault.TheVariants.{Signal as BadSignal, LoadKind as BadKind, Packing as BadPacking, SemaphoreTarget as BadTarget}
use Rattle.qpu_word.specs.Words.{fields_of, has_fault, all_faults, word_fault, IsInProfile, is_load, is_semaphore, is_branch, is_alu, is_small, is_unit_word, bad_packing}
use Rattle.qpu_word.proofs.ProfileLemmas.{every_row}

-- rows of the table of faults that don't hold
pub record IsPlain (f : Fields) : Type 0 where
  pub signal : has_fault f BadSignal ≡ false
  pub packing : has_fault f BadPacking ≡ false
  pub kind : has_fault f BadKind ≡ false
  pub target : has_fault f BadTarget ≡ false

pub plain : (w : ℕ) → IsInProfile w → IsPlain (fields_of w)
unfolding word_fault
plain w inside = record {
  signal = every_row (has_fault (fields_of w)) all_faults inside 0 BadSignal (omega arith);
  packing = every_row (has_fault (fields_of w)) all_faults inside 5 BadSignal (omega arith);
  kind = every_row (has_fault (fields_of w)) all_faults inside 7 BadSignal (omega arith);
  target = every_row (has_fault (fields_of w)) all_faults inside 9 BadSignal (omega arith);
}

-- a word of the profile that no other form takes has the signal of load immediates
signal_by : (unit : Bool) (sig : ℕ) → not (unit || (sig == 14) || (sig == 15)) ≡ false → unit ≡ false → (sig == 15) ≡ false → sig ≡ 14
signal_by unit sig known none other = grind (arith, nat_tests, known, none, other)

neither : (a b : Bool) → a ≡ false → b ≡ false → (a || b) ≡ false
neither a b left right = rw (left, right) refl

pub immediate_signal : (f : Fields) → is_alu f ≡ false → is_small f ≡ false → is_branch f ≡ false → IsPlain f → f.sig ≡ 14
unfolding has_fault
immediate_signal f alu small branch p = signal_by (is_unit_word f) f.sig p.signal (neither (is_alu f) (is_small f) alu small) branch

-- its pack mode is 0
pack_by : (unit : Bool) (sig pack : ℕ) (bad : Bool) → ((unit && bad) || ((sig == 14) && not (pack == 0))) ≡ false → sig ≡ 14 → pack ≡ 0
pack_by unit sig pack bad none is = grind (arith, nat_tests, none, is)

pub immediate_pack : (f : Fields) → f.sig ≡ 14 → IsPlain f → f.pack ≡ 0
unfolding has_fault
immediate_pack f sig p = pack_by (is_unit_word f) f.sig f.pack (bad_packing f) p.packing sig

-- it is a load or a semaphore word
kind_by : (sig : ℕ) (load semaphore : Bool) → ((sig == 14) && not (load || semaphore)) ≡ false → sig ≡ 14 → load ≡ false → semaphore ≡ true
kind_by sig load semaphore none is other = grind (arith, nat_tests, none, is, other)

target_by : (semaphore : Bool) (add mul : ℕ) → (semaphore && not ((add == 39) && (mul == 39))) ≡ false → semaphore ≡ true → (add ≡ 39) × (mul ≡ 39)
target_by semaphore add mul none is = (grind (arith, nat_tests, none, is), grind (arith, nat_tests, none, is))

semaphore_kind : (f : Fields) → is_semaphore f ≡ true → f.kind ≡ 4
semaphore_kind f is = grind (arith, nat_tests, is)

not_load : (f : Fields) → ((f.kind == 0) || (f.kind == 1) || (f.kind == 3)) ≡ false → is_load f ≡ false
not_load f none = grind (arith, nat_tests, none)

pub is_a_load : (f : Fields) → f.sig ≡ 14 → ((f.kind == 0) || (f.kind == 1) || (f.kind == 3)) ≡ true → is_load f ≡ true
is_a_load f sig some = rw (sig, some) refl

pub semaphore_form : (f : Fields) → f.sig ≡ 14 → ((f.kind == 0) || (f.kind == 1) || (f.kind == 3)) ≡ false → IsPlain f → (f.kind ≡ 4) × (f.waddr_add ≡ 39) × (f.waddr_mul ≡ 39)
unfolding has_fault
semaphore_form f sig none p =
    let is : is_semaphore f ≡ true = kind_by f.sig (is_load f) (is_semaphore f) p.kind sig (not_load f none) in
    let to : (f.waddr_add ≡ 39) × (f.waddr_mul ≡ 39) = target_by (is_semaphore f) f.waddr_add f.waddr_mul p.target is in
    (semaphore_kind f is, to.0, to.1)

pub branch_signal : (f : Fields) → is_branch f ≡ true → f.sig ≡ 15
branch_signal f is = grind (arith, nat_tests, is)
