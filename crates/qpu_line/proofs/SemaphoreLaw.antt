-- The word of a semaphore instruction is canonical and says that instruction.
use Rattle.std.proofs.Common.{◌≡◌, ℕ, ◌+◌, ◌*◌, ◌%◌, ◌<◌, ◌^◌, Bool, true, false, Some, None, refl, ap, ◌∙◌, arith}
use Rattle.std.specs.Prelude.{◌==◌, nat_lt, if◌then◌else◌}
use Rattle.std.proofs.lemmas.Bool.Decides.{nat_tests}
use Rattle.qpu_word.specs.Words.{field, fields_of, has_fault, word_fault}
use Rattle.qpu_word.specs.Form.{word_form, form_of}
use Rattle.qpu_line.specs.declared.semaphore.Semaphore.{Semaphore as Step}
use Rattle.qpu_line.specs.declared.instruction.Instruction.TheVariants.{Semaphore}
use Rattle.qpu_word.specs.Canonical.{keeps_rules, add_rule, mul_rule, operand_rule, flags_rule, exchange_rule, row_rule, small_rule, load_rule, semaphore_rule, branch_rule}
use Rattle.qpu_line.specs.Canonical.{canonical_instruction}
use Rattle.qpu_line.specs.Instructions.{instruction_of, word_of}
use Rattle.qpu_line.specs.Semaphores.{semaphore_of, semaphore_word, semaphore_low, semaphore_high}
use Rattle.qpu_line.specs.Worded.{IsSemaphore}

-- the fields of a semaphore word, as far as the rules speak of them
record HasFields (w : ℕ) : Type 0 where
  sig : field w 60 4 ≡ 14
  kind : field w 57 3 ≡ 4
  pm : field w 56 1 ≡ 0
  pack : field w 52 4 ≡ 0
  cond_add : field w 49 3 ≡ 0
  cond_mul : field w 46 3 ≡ 0
  sf : field w 45 1 ≡ 0
  ws : field w 44 1 ≡ 0
  waddr_add : field w 38 6 ≡ 39
  waddr_mul : field w 32 6 ≡ 39
  low : nat_lt (field w 0 32) 32 ≡ true

fields_are : (low : ℕ) → low < 32 → HasFields (semaphore_high * 2 ^ 32 + low)
fields_are low below = record {
  sig = omega arith;
  kind = omega arith;
  pm = omega arith;
  pack = omega arith;
  cond_add = omega arith;
  cond_mul = omega arith;
  sf = omega arith;
  ws = omega arith;
  waddr_add = omega arith;
  waddr_mul = omega arith;
  low = (let is : field (semaphore_high * 2 ^ 32 + low) 0 32 ≡ low = omega arith in rw is (grind (arith, nat_tests, below)));
}

inside : (w : ℕ) → HasFields w → word_fault w ≡ None
unfolding word_fault has_fault
inside w h = rw (h.sig, h.kind, h.pack, h.waddr_add, h.waddr_mul) refl

kept : (w : ℕ) → HasFields w → keeps_rules (fields_of w) ≡ true
unfolding keeps_rules add_rule mul_rule operand_rule flags_rule exchange_rule row_rule small_rule load_rule semaphore_rule branch_rule
kept w h = rw (h.sig, h.kind, h.pm, h.pack, h.cond_add, h.cond_mul, h.sf, h.ws, h.low) refl

read : (w : ℕ) → HasFields w → canonical_instruction w ≡ Some (Semaphore (semaphore_of (fields_of w)))
unfolding canonical_instruction word_form form_of instruction_of
read w h = rw (inside w h, kept w h, h.sig, h.kind) refl

semaphore_again : (down : Bool) (number : ℕ) → number < 16 → semaphore_of (fields_of (semaphore_word (record { down = down; number = number }))) ≡ record { down = down; number = number }
semaphore_again true number below =
    let bit : field (semaphore_high * 2 ^ 32 + (16 + number % 16)) 4 1 ≡ 1 = omega arith in
    let low : field (semaphore_high * 2 ^ 32 + (16 + number % 16)) 0 4 ≡ number = omega arith in
    λ i. record { down = (bit i == 1); number = low i }
semaphore_again false number below =
    let bit : field (semaphore_high * 2 ^ 32 + (0 + number % 16)) 4 1 ≡ 0 = omega arith in
    let low : field (semaphore_high * 2 ^ 32 + (0 + number % 16)) 0 4 ≡ number = omega arith in
    λ i. record { down = (bit i == 1); number = low i }

low_below : (down : Bool) (n : ℕ) → (if down then 16 else 0) + n % 16 < 32
low_below true n = omega arith
low_below false n = omega arith

pub semaphores_again : (s : Step) → IsSemaphore s → canonical_instruction (word_of (Semaphore s)) ≡ Some (Semaphore s)
unfolding word_of
semaphores_again s below =
    read (semaphore_word s) (fields_are (semaphore_low s) (low_below s.down s.number))
    ∙ ap (λ t. Some (Semaphore t)) (semaphore_again s.down s.number below)
