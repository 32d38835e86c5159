-- A word keeps all rules of canonical words exactly where it keeps each.
use Rattle.std.proofs.Common.{◌≡◌, ◌↔◌, ℕ, Bool, true, false, IsTrue, Option, Some, None, refl, sym, subst, arith}
use Rattle.std.specs.Prelude.{◌&&◌, is_none}
use Rattle.std.proofs.lemmas.Bool.Decides.{nat_tests}
use Rattle.qpu_word.specs.declared.word.Fields.{Fields}
use Rattle.qpu_word.specs.declared.fault.WordFault.{WordFault}
use Rattle.qpu_word.specs.Words.{fields_of, word_fault, IsInProfile}
use Rattle.qpu_word.specs.Canonical.{IsCanonical, add_rule, mul_rule, operand_rule, flags_rule, exchange_rule, row_rule, small_rule, load_rule, semaphore_rule, branch_rule, keeps_rules, is_canonical}

-- all rules of a word's fields, each by its name
pub record KeepsEach (f : Fields) : Type 0 where
  pub adds : add_rule f ≡ true
  pub muls : mul_rule f ≡ true
  pub operands : operand_rule f ≡ true
  pub flags : flags_rule f ≡ true
  pub exchange : exchange_rule f ≡ true
  pub rows : row_rule f ≡ true
  pub small : small_rule f ≡ true
  pub loads : load_rule f ≡ true
  pub semaphores : semaphore_rule f ≡ true
  pub branches : branch_rule f ≡ true

-- a word of the profile whose fields keep each is canonical
pub canonical_where : (w : ℕ) → IsInProfile w → KeepsEach (fields_of w) → IsCanonical w
canonical_where w inside k = record {
  inside = inside;
  adds = k.adds;
  muls = k.muls;
  operands = k.operands;
  flags = k.flags;
  exchange = k.exchange;
  rows = k.rows;
  small = k.small;
  loads = k.loads;
  semaphores = k.semaphores;
  branches = k.branches;
}

pub each_kept : (w : ℕ) → IsCanonical w → KeepsEach (fields_of w)
each_kept w c = record {
  adds = c.adds;
  muls = c.muls;
  operands = c.operands;
  flags = c.flags;
  exchange = c.exchange;
  rows = c.rows;
  small = c.small;
  loads = c.loads;
  semaphores = c.semaphores;
  branches = c.branches;
}

pub all_rules : (w : ℕ) → IsCanonical w → keeps_rules (fields_of w) ≡ true
unfolding keeps_rules
all_rules w c = rw (c.adds, c.muls, c.operands, c.flags, c.exchange, c.rows, c.small, c.loads, c.semaphores, c.branches) refl

pub each_rule : (w : ℕ) → IsInProfile w → keeps_rules (fields_of w) ≡ true → IsCanonical w
unfolding keeps_rules
each_rule w inside all = record {
  inside = inside;
  adds = grind (arith, nat_tests);
  muls = grind (arith, nat_tests);
  operands = grind (arith, nat_tests);
  flags = grind (arith, nat_tests);
  exchange = grind (arith, nat_tests);
  rows = grind (arith, nat_tests);
  small = grind (arith, nat_tests);
  loads = grind (arith, nat_tests);
  semaphores = grind (arith, nat_tests);
  branches = grind (arith, nat_tests);
}

-- no fault and all rules kept, as a test
fault_free : (fault : Option WordFault) (kept : Bool) → IsTrue (is_none fault && kept) → (fault ≡ None) × (kept ≡ true)
fault_free None true both = (refl, refl)
fault_free None false both = absurd (cc)
fault_free (Some fault) kept both = absurd (cc)

canonical_if : (w : ℕ) → IsTrue (is_canonical w) → IsCanonical w
unfolding is_canonical
canonical_if w both =
    let parts : (word_fault w ≡ None) × (keeps_rules (fields_of w) ≡ true) = fault_free (word_fault w) (keeps_rules (fields_of w)) both in
    each_rule w parts.0 parts.1

canonical_then : (w : ℕ) → IsCanonical w → IsTrue (is_canonical w)
unfolding is_canonical
canonical_then w c = rw (c.inside, all_rules w c) refl

pub canonical_tells : (w : ℕ) (test : Bool) → test ≡ is_canonical w → IsTrue test ↔ IsCanonical w
canonical_tells w test is = let P : Bool → Type 0 = λ t. IsTrue t ↔ IsCanonical w in subst P (sym is) (canonical_if w, canonical_then w)
