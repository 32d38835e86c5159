-- The word of a branch is canonical and says that branch.
use Rattle.std.proofs.Common.{◌≡◌, ℕ, ◌+◌, ◌*◌, ◌%◌, ◌<◌, ◌^◌, Bool, true, false, Option, Some, None, refl, ap, ◌∙◌, arith}
use Rattle.std.specs.Prelude.{◌==◌, ◌||◌, ◌&&◌, not, if◌then◌else◌, IfSome, is_some}
use Rattle.std.proofs.lemmas.Bool.Decides.{nat_tests}
use Rattle.qpu_word.specs.declared.name.Place.{Place}
use Rattle.qpu_word.specs.Words.{field, fields_of, has_fault, word_fault, is_link_address, between}
use Rattle.qpu_word.specs.Form.{word_form, form_of}
use Rattle.qpu_line.specs.declared.branch.Branch.{Branch as BranchOf}
use Rattle.qpu_line.specs.declared.instruction.Instruction.TheVariants.{Branch}
use Rattle.qpu_word.specs.Canonical.{file_matters, keeps_rules, add_rule, mul_rule, operand_rule, flags_rule, exchange_rule, row_rule, small_rule, load_rule, semaphore_rule, branch_rule}
use Rattle.qpu_line.specs.Canonical.{canonical_instruction}
use Rattle.qpu_line.specs.Instructions.{instruction_of, word_of}
use Rattle.qpu_line.specs.Targets.{address_of, exchange_of, in_file_a, in_file_b}
use Rattle.qpu_line.specs.Branches.{branch_of, branch_instruction_word, register_of, register_row}
use Rattle.qpu_line.specs.Worded.{IsBranch, IsTarget}
use Rattle.qpu_line.proofs.AgainLemmas.{matters_in_a, matters_in_b, exchange_by, link_below, link_writes, bit_below, sets_again}

-- the fields of a branch's word
record HasFields (w c rel reg row x aa am n : ℕ) : Type 0 where
  sig : field w 60 4 ≡ 15
  kind : field w 57 3 ≡ 0
  pm : field w 56 1 ≡ 0
  cond : field w 52 4 ≡ c
  relative : field w 51 1 ≡ rel
  register : field w 50 1 ≡ reg
  raddr : field w 45 5 ≡ row
  ws : field w 44 1 ≡ x
  waddr_add : field w 38 6 ≡ aa
  waddr_mul : field w 32 6 ≡ am
  immediate : field w 0 32 ≡ n

fields_are : (c rel reg row x aa am n : ℕ) → c < 16 → rel < 2 → reg < 2 → row < 32 → x < 2 → aa < 64 → am < 64 → n < 2 ^ 32
    → HasFields ((15 * 2 ^ 28 + c % 16 * 2 ^ 20 + rel * 2 ^ 19 + reg * 2 ^ 18 + row % 32 * 2 ^ 13 + x * 2 ^ 12 + aa % 64 * 2 ^ 6 + am % 64) * 2 ^ 32 + n) c rel reg row x aa am n
fields_are c rel reg row x aa am n cb relb regb rowb xb aab amb nb = record {
  sig = omega arith;
  kind = omega arith;
  pm = omega arith;
  cond = omega arith;
  relative = omega arith;
  register = omega arith;
  raddr = omega arith;
  ws = omega arith;
  waddr_add = omega arith;
  waddr_mul = omega arith;
  immediate = omega arith;
}

-- what the fields keep
record AreSaid (c reg row x aa am : ℕ) : Type 0 where
  known : between 12 c 14 ≡ false
  add_named : is_link_address aa ≡ true
  mul_named : is_link_address am ≡ true
  added : ((reg == 1) || (row == 0)) ≡ true
  exchange : ((x == 0) || (not (aa == 39) && file_matters aa) || (not (am == 39) && file_matters am)) ≡ true

inside : (w c rel reg row x aa am n : ℕ) → HasFields w c rel reg row x aa am n → AreSaid c reg row x aa am → word_fault w ≡ None
unfolding word_fault has_fault
inside w c rel reg row x aa am n h a = rw (h.sig, h.cond, h.waddr_add, h.waddr_mul, a.known, a.add_named, a.mul_named) refl

exchange_kept : (w c rel reg row x aa am n : ℕ) → HasFields w c rel reg row x aa am n → AreSaid c reg row x aa am → exchange_rule (fields_of w) ≡ true
unfolding exchange_rule
exchange_kept w c rel reg row x aa am n h a = rw (h.sig, h.ws, h.waddr_add, h.waddr_mul) (grind (arith, nat_tests, a.exchange))

branch_kept : (w c rel reg row x aa am n : ℕ) → HasFields w c rel reg row x aa am n → AreSaid c reg row x aa am → branch_rule (fields_of w) ≡ true
unfolding branch_rule
branch_kept w c rel reg row x aa am n h a = rw (h.sig, h.kind, h.register, h.raddr, a.added) refl

kept : (w c rel reg row x aa am n : ℕ) → HasFields w c rel reg row x aa am n → AreSaid c reg row x aa am → keeps_rules (fields_of w) ≡ true
unfolding keeps_rules add_rule mul_rule operand_rule flags_rule row_rule small_rule load_rule semaphore_rule
kept w c rel reg row x aa am n h a = rw (exchange_kept w c rel reg row x aa am n h a, branch_kept w c rel reg row x aa am n h a, h.sig, h.pm) refl

read : (w c rel reg row x aa am n : ℕ) → HasFields w c rel reg row x aa am n → AreSaid c reg row x aa am → canonical_instruction w ≡ Some (Branch (branch_of (fields_of w)))
unfolding canonical_instruction word_form form_of instruction_of
read w c rel reg row x aa am n h a = rw (inside w c rel reg row x aa am n h a, kept w c rel reg row x aa am n h a, h.sig) refl

-- what a branch says
added_of : (register : Option ℕ) → (((if is_some register then 1 else 0) == 1) || (register_row register == 0)) ≡ true
added_of None = refl
added_of (Some row) = refl

writes_b : (in_b : Bool) (to : Place) → IsTarget in_b to → in_file_b to ≡ true → (not (address_of to == 39) && file_matters (address_of to)) ≡ true
writes_b in_b to is there = let m : file_matters (address_of to) ≡ true = matters_in_b in_b to is there in rw (link_writes (address_of to) m, m) refl

writes_a : (in_b : Bool) (to : Place) → IsTarget in_b to → in_file_a to ≡ true → (not (address_of to == 39) && file_matters (address_of to)) ≡ true
writes_a in_b to is there = let m : file_matters (address_of to) ≡ true = matters_in_a in_b to is there in rw (link_writes (address_of to) m, m) refl

said : (b : BranchOf) → IsBranch b → AreSaid b.cond (if is_some b.register then 1 else 0) (register_row b.register) (exchange_of b.add b.mul) (address_of b.add) (address_of b.mul)
said b is = record {
  known = is.known;
  add_named = is.add;
  mul_named = is.mul;
  added = added_of b.register;
  exchange = exchange_by (in_file_b b.add) (in_file_a b.mul) _ _ (writes_b _ b.add is.add_to) (writes_a _ b.mul is.mul_to);
}

row_below : (register : Option ℕ) → IfSome register (λ row. row < 32) → register_row register < 32
row_below None is = omega arith
row_below (Some row) is = is

register_again : (register : Option ℕ) → register_of ((if is_some register then 1 else 0) == 1) (register_row register) ≡ register
register_again None = refl
register_again (Some row) = refl

-- the branch comes back
branch_again : (b : BranchOf) (w : ℕ) → IsBranch b
    → HasFields w b.cond (if b.relative then 1 else 0) (if is_some b.register then 1 else 0) (register_row b.register) (exchange_of b.add b.mul) (address_of b.add) (address_of b.mul) b.immediate
    → branch_of (fields_of w) ≡ b
branch_again b w is h =
    rw (
      h.cond,
      h.relative,
      h.register,
      h.raddr,
      h.ws,
      h.waddr_add,
      h.waddr_mul,
      h.immediate,
      sets_again b.relative,
      register_again b.register,
      is.add_to,
      is.mul_to,
    )
    refl

pub branches_again : (b : BranchOf) → IsBranch b → canonical_instruction (word_of (Branch b)) ≡ Some (Branch b)
unfolding word_of
branches_again b is =
    let h : HasFields (branch_instruction_word b) b.cond (if b.relative then 1 else 0) (if is_some b.register then 1 else 0) (register_row b.register) (exchange_of b.add b.mul) (address_of b.add) (address_of b.mul) b.immediate =
    fields_are b.cond (if b.relative then 1 else 0) (if is_some b.register then 1 else 0) (register_row b.register) (exchange_of b.add b.mul) (address_of b.add) (address_of b.mul) b.immediate
    is.cond (bit_below b.relative) (bit_below (is_some b.register)) (row_below b.register is.row) (bit_below _) (link_below (address_of b.add) is.add) (link_below (address_of b.mul) is.mul) is.immediate in
    read (branch_instruction_word b) b.cond (if b.relative then 1 else 0) (if is_some b.register then 1 else 0) (register_row b.register) (exchange_of b.add b.mul) (address_of b.add) (address_of b.mul) b.immediate h (said b is)
    ∙ ap (λ t. Some (Branch t)) (branch_again b (branch_instruction_word b) is h)
