-- The word of a load is canonical and says that load.
use Rattle.std.proofs.Common.{◌≡◌, ℕ, ◌+◌, ◌*◌, ◌%◌, ◌<◌, ◌^◌, Bool, true, false, Option, Some, None, refl, ap, ◌∙◌, arith}
use Rattle.std.specs.Prelude.{◌==◌, ◌||◌, ◌&&◌, not, if◌then◌else◌, IfSome}
use Rattle.qpu_word.specs.Words.{field, fields_of, has_fault, word_fault, is_write_address}
use Rattle.qpu_word.specs.Form.{word_form, form_of}
use Rattle.qpu_line.specs.declared.load.Load.{Load as LoadOf}
use Rattle.qpu_line.specs.declared.load.LoadKind.{LoadKind}
use Rattle.qpu_line.specs.declared.load.LoadKind.TheVariants.{Whole, Signed, Unsigned}
use Rattle.qpu_line.specs.declared.load.Write.{Write}
use Rattle.qpu_line.specs.declared.instruction.Instruction.TheVariants.{Load}
use Rattle.qpu_word.specs.Canonical.{file_matters, keeps_rules, add_rule, mul_rule, operand_rule, flags_rule, exchange_rule, row_rule, small_rule, load_rule, semaphore_rule, branch_rule}
use Rattle.qpu_line.specs.Canonical.{canonical_instruction}
use Rattle.qpu_line.specs.Instructions.{instruction_of, word_of}
use Rattle.qpu_line.specs.Targets.{address_of, exchange_of, in_file_a, in_file_b}
use Rattle.qpu_line.specs.Loads.{load_of, load_word, kind_of, kind_code, write_of, write_cond, write_target}
use Rattle.qpu_line.proofs.AgainLemmas.{matters_in_a, matters_in_b, exchange_by, named_below, bit_below, sets_again}
use Rattle.qpu_line.specs.Worded.{IsLoad, IsWrite, IsTarget}

-- the fields of a load's word
record HasFields (w k ca cm s x aa am n : ℕ) : Type 0 where
  sig : field w 60 4 ≡ 14
  kind : field w 57 3 ≡ k
  pm : field w 56 1 ≡ 0
  pack : field w 52 4 ≡ 0
  cond_add : field w 49 3 ≡ ca
  cond_mul : field w 46 3 ≡ cm
  sf : field w 45 1 ≡ s
  ws : field w 44 1 ≡ x
  waddr_add : field w 38 6 ≡ aa
  waddr_mul : field w 32 6 ≡ am
  immediate : field w 0 32 ≡ n

fields_are : (k ca cm s x aa am n : ℕ) → k < 8 → ca < 8 → cm < 8 → s < 2 → x < 2 → aa < 64 → am < 64 → n < 2 ^ 32
    → HasFields ((14 * 2 ^ 28 + k * 2 ^ 25 + ca % 8 * 2 ^ 17 + cm % 8 * 2 ^ 14 + s * 2 ^ 13 + x * 2 ^ 12 + aa % 64 * 2 ^ 6 + am % 64) * 2 ^ 32 + n) k ca cm s x aa am n
fields_are k ca cm s x aa am n kb cab cmb sb xb aab amb nb = record {
  sig = omega arith;
  kind = omega arith;
  pm = omega arith;
  pack = omega arith;
  cond_add = omega arith;
  cond_mul = omega arith;
  sf = omega arith;
  ws = omega arith;
  waddr_add = omega arith;
  waddr_mul = omega arith;
  immediate = omega arith;
}

-- a unit writes by its condition and address
abbrev writes_by : ℕ → ℕ → Bool
writes_by cond address = not (address == 39) && (not (cond == 0) || false)

-- what the units' fields keep
record AreSaid (ca cm x aa am : ℕ) : Type 0 where
  add_named : (not (ca == 0) && not (is_write_address aa)) ≡ false
  mul_named : (not (cm == 0) && not (is_write_address am)) ≡ false
  add_once : (writes_by ca aa || ((ca == 0) && (aa == 39))) ≡ true
  mul_once : (writes_by cm am || ((cm == 0) && (am == 39))) ≡ true
  exchange : ((x == 0) || (writes_by ca aa && file_matters aa) || (writes_by cm am && file_matters am)) ≡ true

inside : (kind : LoadKind) (w ca cm s x aa am n : ℕ) → HasFields w (kind_code kind) ca cm s x aa am n → AreSaid ca cm x aa am → word_fault w ≡ None
unfolding word_fault has_fault
inside Whole w ca cm s x aa am n h a = rw (h.sig, h.kind, h.pack, h.cond_add, h.cond_mul, h.waddr_add, h.waddr_mul, a.add_named, a.mul_named) refl
inside Signed w ca cm s x aa am n h a = rw (h.sig, h.kind, h.pack, h.cond_add, h.cond_mul, h.waddr_add, h.waddr_mul, a.add_named, a.mul_named) refl
inside Unsigned w ca cm s x aa am n h a = rw (h.sig, h.kind, h.pack, h.cond_add, h.cond_mul, h.waddr_add, h.waddr_mul, a.add_named, a.mul_named) refl

kept : (kind : LoadKind) (w ca cm s x aa am n : ℕ) → HasFields w (kind_code kind) ca cm s x aa am n → AreSaid ca cm x aa am → keeps_rules (fields_of w) ≡ true
unfolding keeps_rules add_rule mul_rule operand_rule flags_rule exchange_rule row_rule small_rule load_rule semaphore_rule branch_rule
kept Whole w ca cm s x aa am n h a = rw (h.sig, h.kind, h.pm, h.cond_add, h.cond_mul, h.ws, h.waddr_add, h.waddr_mul, a.exchange, a.add_once, a.mul_once) refl
kept Signed w ca cm s x aa am n h a = rw (h.sig, h.kind, h.pm, h.cond_add, h.cond_mul, h.ws, h.waddr_add, h.waddr_mul, a.exchange, a.add_once, a.mul_once) refl
kept Unsigned w ca cm s x aa am n h a = rw (h.sig, h.kind, h.pm, h.cond_add, h.cond_mul, h.ws, h.waddr_add, h.waddr_mul, a.exchange, a.add_once, a.mul_once) refl

read : (kind : LoadKind) (w ca cm s x aa am n : ℕ) → HasFields w (kind_code kind) ca cm s x aa am n → AreSaid ca cm x aa am → canonical_instruction w ≡ Some (Load (load_of (fields_of w)))
unfolding canonical_instruction word_form form_of instruction_of
read Whole w ca cm s x aa am n h a = rw (inside Whole w ca cm s x aa am n h a, kept Whole w ca cm s x aa am n h a, h.sig, h.kind) refl
read Signed w ca cm s x aa am n h a = rw (inside Signed w ca cm s x aa am n h a, kept Signed w ca cm s x aa am n h a, h.sig, h.kind) refl
read Unsigned w ca cm s x aa am n h a = rw (inside Unsigned w ca cm s x aa am n h a, kept Unsigned w ca cm s x aa am n h a, h.sig, h.kind) refl

-- a unit's fields by what it writes
named_of : (w : Option Write) → IfSome w IsWrite → (not (write_cond w == 0) && not (is_write_address (address_of (write_target w)))) ≡ false
named_of None is = refl
named_of (Some w) is = rw (is.some, is.named) refl

once_of : (w : Option Write) → IfSome w IsWrite
    → (writes_by (write_cond w) (address_of (write_target w)) || ((write_cond w == 0) && (address_of (write_target w) == 39))) ≡ true
once_of None is = refl
once_of (Some w) is = rw (is.some, is.somewhere) refl

writes_b : (w : Option Write) (in_b : Bool) → IfSome w IsWrite → IsTarget in_b (write_target w) → in_file_b (write_target w) ≡ true
    → (writes_by (write_cond w) (address_of (write_target w)) && file_matters (address_of (write_target w))) ≡ true
writes_b None in_b is to there = absurd (grind (arith, there))
writes_b (Some w) in_b is to there = rw (is.some, is.somewhere, matters_in_b in_b w.to to there) refl

writes_a : (w : Option Write) (in_b : Bool) → IfSome w IsWrite → IsTarget in_b (write_target w) → in_file_a (write_target w) ≡ true
    → (writes_by (write_cond w) (address_of (write_target w)) && file_matters (address_of (write_target w))) ≡ true
writes_a None in_b is to there = absurd (grind (arith, there))
writes_a (Some w) in_b is to there = rw (is.some, is.somewhere, matters_in_a in_b w.to to there) refl

said : (l : LoadOf) → IsLoad l → AreSaid (write_cond l.add) (write_cond l.mul) (exchange_of (write_target l.add) (write_target l.mul)) (address_of (write_target l.add)) (address_of (write_target l.mul))
said l is = record {
  add_named = named_of l.add is.add;
  mul_named = named_of l.mul is.mul;
  add_once = once_of l.add is.add;
  mul_once = once_of l.mul is.mul;
  exchange = exchange_by (in_file_b (write_target l.add)) (in_file_a (write_target l.mul)) _ _ (writes_b l.add _ is.add is.add_to) (writes_a l.mul _ is.mul is.mul_to);
}

-- bounds of a load's numbers
code_below : (kind : LoadKind) → kind_code kind < 8
code_below Whole = omega arith
code_below Signed = omega arith
code_below Unsigned = omega arith

cond_below : (w : Option Write) → IfSome w IsWrite → write_cond w < 8
cond_below None is = omega arith
cond_below (Some w) is = is.cond

address_below : (w : Option Write) → IfSome w IsWrite → address_of (write_target w) < 64
address_below None is = omega arith
address_below (Some w) is = named_below (address_of w.to) is.named

-- the load comes back
kind_again : (kind : LoadKind) → kind_of (kind_code kind) ≡ kind
kind_again Whole = refl
kind_again Signed = refl
kind_again Unsigned = refl

write_again : (w : Option Write) (in_b : Bool) → IfSome w IsWrite → IsTarget in_b (write_target w) → write_of (write_cond w) in_b (address_of (write_target w)) ≡ w
write_again None in_b is to = refl
write_again (Some w) in_b is to = rw (is.some, is.somewhere) (λ i. Some (record { cond = w.cond; to = to i }))

load_again : (l : LoadOf) (w : ℕ) → IsLoad l
    → HasFields w (kind_code l.kind) (write_cond l.add) (write_cond l.mul) (if l.sets then 1 else 0) (exchange_of (write_target l.add) (write_target l.mul)) (address_of (write_target l.add)) (address_of (write_target l.mul)) l.immediate
    → load_of (fields_of w) ≡ l
load_again l w is h =
    rw (
      h.kind,
      h.cond_add,
      h.cond_mul,
      h.sf,
      h.ws,
      h.waddr_add,
      h.waddr_mul,
      h.immediate,
      kind_again l.kind,
      sets_again l.sets,
      write_again l.add _ is.add is.add_to,
      write_again l.mul _ is.mul is.mul_to,
    )
    refl

pub loads_again : (l : LoadOf) → IsLoad l → canonical_instruction (word_of (Load l)) ≡ Some (Load l)
unfolding word_of
loads_again l is =
    let h : HasFields (load_word l) (kind_code l.kind) (write_cond l.add) (write_cond l.mul) (if l.sets then 1 else 0) (exchange_of (write_target l.add) (write_target l.mul)) (address_of (write_target l.add)) (address_of (write_target l.mul)) l.immediate =
    fields_are (kind_code l.kind) (write_cond l.add) (write_cond l.mul) (if l.sets then 1 else 0) (exchange_of (write_target l.add) (write_target l.mul)) (address_of (write_target l.add)) (address_of (write_target l.mul)) l.immediate
    (code_below l.kind) (cond_below l.add is.add) (cond_below l.mul is.mul) (bit_below l.sets) (bit_below _) (address_below l.add is.add) (address_below l.mul is.mul) is.immediate in
    read l.kind (load_word l) (write_cond l.add) (write_cond l.mul) (if l.sets then 1 else 0) (exchange_of (write_target l.add) (write_target l.mul)) (address_of (write_target l.add)) (address_of (write_target l.mul)) l.immediate h (said l is)
    ∙ ap (λ t. Some (Load t)) (load_again l (load_word l) is h)
