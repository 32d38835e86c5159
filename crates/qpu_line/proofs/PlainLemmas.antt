-- Semaphore words, loads and branches come back from their instructions.
use Rattle.std.proofs.Common.{◌≡◌, ℕ, ◌+◌, ◌*◌, ◌%◌, ◌^◌, ◌<◌, Bool, true, false, refl, sym, arith}
use Rattle.std.specs.Prelude.{◌==◌, ◌||◌, not, if◌then◌else◌, is_some}
use Rattle.std.proofs.lemmas.Bool.Decides.{nat_tests}
use Rattle.qpu_word.specs.declared.word.Fields.{Fields}
use Rattle.qpu_word.specs.Words.{field, fields_of, is_load}
use Rattle.qpu_word.proofs.ProfileLemmas.{field_below}
use Rattle.qpu_word.specs.Canonical.{semaphore_rule, branch_rule, load_rule, exchange_rule}
use Rattle.qpu_line.specs.Targets.{target_at_address}
use Rattle.qpu_line.specs.Semaphores.{semaphore_of, semaphore_word}
use Rattle.qpu_line.specs.Loads.{load_of, load_word, kind_of, kind_code, write_of, write_cond, write_target}
use Rattle.qpu_line.specs.Branches.{branch_of, branch_instruction_word, register_of, register_row}
use Rattle.qpu_line.proofs.TargetLemmas.{address_back, exchange_back, exchange_kept, bit_back}

-- semaphores

-- what the rules leave to a semaphore word
silent : (f : Fields) → f.sig ≡ 14 → f.kind ≡ 4 → semaphore_rule f ≡ true
    → (f.pack ≡ 0) × (f.cond_add ≡ 0) × (f.cond_mul ≡ 0) × (f.sf ≡ 0) × (f.ws ≡ 0) × (f.immediate < 32)
unfolding semaphore_rule
silent f sig kind rule = grind (arith, nat_tests, rule)

bit_of_16 : (n : ℕ) → n < 2 → (if n == 1 then 16 else 0) ≡ n * 16
bit_of_16 n below = grind (arith, nat_tests)

pub semaphore_back : (w : ℕ) → w < 2 ^ 64 → field w 60 4 ≡ 14 → field w 57 3 ≡ 4 → field w 38 6 ≡ 39 → field w 32 6 ≡ 39 → field w 56 1 ≡ 0 → semaphore_rule (fields_of w) ≡ true
    → semaphore_word (semaphore_of (fields_of w)) ≡ w
semaphore_back w below sig kind add mul pm rule =
    let s : (field w 52 4 ≡ 0) × (field w 49 3 ≡ 0) × (field w 46 3 ≡ 0) × (field w 45 1 ≡ 0) × (field w 44 1 ≡ 0) × (field w 0 32 < 32) = silent (fields_of w) sig kind rule in
    let low : (if field w 4 1 == 1 then 16 else 0) ≡ field w 4 1 * 16 = bit_of_16 (field w 4 1) (field_below w 4 1) in
    let pack : field w 52 4 ≡ 0 = s.0 in
    let ca : field w 49 3 ≡ 0 = s.1 in
    let cm : field w 46 3 ≡ 0 = s.2 in
    let sf : field w 45 1 ≡ 0 = s.3 in
    let ws : field w 44 1 ≡ 0 = s.4 in
    let im : field w 0 32 < 32 = s.5 in
    rw low (omega arith)

-- branches

branch_silent : (f : Fields) → f.sig ≡ 15 → branch_rule f ≡ true → (f.kind ≡ 0) × ((f.reg == 1) ≡ false → f.raddr_br ≡ 0)
unfolding branch_rule
branch_silent f sig rule = (grind (arith, nat_tests, rule), λ off. grind (arith, nat_tests, rule, off))

row_of_register : (on : Bool) (row : ℕ) → (on ≡ false → row ≡ 0) → register_row (register_of on row) ≡ row
row_of_register true row zero_row = refl
row_of_register false row zero_row = sym (zero_row refl)

some_register : (on : Bool) (row : ℕ) → is_some (register_of on row) ≡ on
some_register true row = refl
some_register false row = refl

branch_sum : (w : ℕ) → w < 2 ^ 64 → field w 60 4 ≡ 15 → field w 57 3 ≡ 0 → field w 56 1 ≡ 0
    → (15 * 2 ^ 28 + field w 52 4 % 16 * 2 ^ 20 + field w 51 1 * 2 ^ 19 + field w 50 1 * 2 ^ 18 + field w 45 5 % 32 * 2 ^ 13 + field w 44 1 * 2 ^ 12 + field w 38 6 % 64 * 2 ^ 6 + field w 32 6 % 64) * 2 ^ 32 + field w 0 32 ≡ w
branch_sum w below sig kind pm = omega arith

pub branch_back : (w : ℕ) → w < 2 ^ 64 → field w 60 4 ≡ 15 → field w 56 1 ≡ 0 → branch_rule (fields_of w) ≡ true → exchange_rule (fields_of w) ≡ true
    → branch_instruction_word (branch_of (fields_of w)) ≡ w
branch_back w below sig pm rule exchange =
    let s : (field w 57 3 ≡ 0) × ((field w 50 1 == 1) ≡ false → field w 45 5 ≡ 0) = branch_silent (fields_of w) sig rule in
    rw (
      some_register (field w 50 1 == 1) (field w 45 5),
      row_of_register (field w 50 1 == 1) (field w 45 5) s.1,
      exchange_back (field w 44 1) (field w 38 6) (field w 32 6) (field_below w 44 1) (exchange_kept (fields_of w) exchange),
      address_back (field w 44 1 == 1) (field w 38 6),
      address_back (not (field w 44 1 == 1)) (field w 32 6),
      bit_back (field w 51 1) (field_below w 51 1),
      bit_back (field w 50 1) (field_below w 50 1),
    )
    (branch_sum w below sig s.0 pm)

-- loads

kind_back : (f : Fields) → is_load f ≡ true → kind_code (kind_of f.kind) ≡ f.kind
kind_back f is = grind (arith, nat_tests, is)

-- a unit whose condition and address both say that it doesn't write, or neither
pub SaysOnce : ℕ → ℕ → Type 0
SaysOnce cond address = ((cond == 0) || (address == 39)) ≡ true → (cond ≡ 0) × (address ≡ 39)

pub says_once : (f : Fields) → f.sig ≡ 14 → is_load f ≡ true → load_rule f ≡ true → SaysOnce f.cond_add f.waddr_add × SaysOnce f.cond_mul f.waddr_mul
unfolding load_rule SaysOnce
says_once f sig is rule = (λ idle. grind (arith, nat_tests, is, rule, idle), λ idle. grind (arith, nat_tests, is, rule, idle))

cond_by : (idle in_b : Bool) (cond address : ℕ) → ((cond == 0) || (address == 39)) ≡ idle → SaysOnce cond address → write_cond (write_of cond in_b address) ≡ cond
unfolding SaysOnce
cond_by true in_b cond address is once = rw is (sym (once is).0)
cond_by false in_b cond address is once = rw is refl

pub target_by : (idle in_b : Bool) (cond address : ℕ) → ((cond == 0) || (address == 39)) ≡ idle → SaysOnce cond address → write_target (write_of cond in_b address) ≡ target_at_address in_b address
unfolding SaysOnce target_at_address
target_by true in_b cond address is once = rw (is, (once is).1) refl
target_by false in_b cond address is once = rw is refl

load_sum : (w : ℕ) → w < 2 ^ 64 → field w 60 4 ≡ 14 → field w 56 1 ≡ 0 → field w 52 4 ≡ 0
    → (14 * 2 ^ 28 + field w 57 3 * 2 ^ 25 + field w 49 3 % 8 * 2 ^ 17 + field w 46 3 % 8 * 2 ^ 14 + field w 45 1 * 2 ^ 13 + field w 44 1 * 2 ^ 12 + field w 38 6 % 64 * 2 ^ 6 + field w 32 6 % 64) * 2 ^ 32 + field w 0 32 ≡ w
load_sum w below sig pm pack = omega arith

pub load_back : (w : ℕ) → w < 2 ^ 64 → field w 60 4 ≡ 14 → is_load (fields_of w) ≡ true → field w 56 1 ≡ 0 → field w 52 4 ≡ 0 → load_rule (fields_of w) ≡ true → exchange_rule (fields_of w) ≡ true
    → load_word (load_of (fields_of w)) ≡ w
load_back w below sig is pm pack rule exchange =
    let once : SaysOnce (field w 49 3) (field w 38 6) × SaysOnce (field w 46 3) (field w 32 6) = says_once (fields_of w) sig is rule in
    rw (
      kind_back (fields_of w) is,
      cond_by _ (field w 44 1 == 1) (field w 49 3) (field w 38 6) refl once.0,
      cond_by _ (not (field w 44 1 == 1)) (field w 46 3) (field w 32 6) refl once.1,
      target_by _ (field w 44 1 == 1) (field w 49 3) (field w 38 6) refl once.0,
      target_by _ (not (field w 44 1 == 1)) (field w 46 3) (field w 32 6) refl once.1,
      exchange_back (field w 44 1) (field w 38 6) (field w 32 6) (field_below w 44 1) (exchange_kept (fields_of w) exchange),
      address_back (field w 44 1 == 1) (field w 38 6),
      address_back (not (field w 44 1 == 1)) (field w 32 6),
      bit_back (field w 45 1) (field_below w 45 1),
    )
    (load_sum w below sig pm pack)
