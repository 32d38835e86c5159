-- A canonical word is the word of its instruction, form by form.
use Rattle.std.proofs.Common.{◌≡◌, ℕ, ◌<◌, ◌^◌, Bool, true, false, Option, Some, None, refl, sym, ap, ◌∙◌, arith}
use Rattle.std.specs.Prelude.{◌==◌, ◌||◌}
use Rattle.std.proofs.lemmas.Bool.Decides.{nat_tests}
use Rattle.qpu_word.specs.declared.word.Fields.{Fields}
use Rattle.qpu_word.specs.Words.{field, fields_of, is_unit_word, is_alu, is_small, is_branch}
use Rattle.qpu_word.specs.Form.{form_of}
use Rattle.qpu_line.specs.declared.instruction.Instruction.{Instruction}
use Rattle.qpu_word.specs.Canonical.{IsCanonical, operand_rule}
use Rattle.qpu_line.specs.Canonical.{canonical_instruction}
use Rattle.qpu_line.specs.Slots.{unit_fields, units_word}
use Rattle.qpu_line.specs.Units.{units_of, fields_of_units}
use Rattle.qpu_line.specs.Instructions.{instruction_of, word_of}
use Rattle.qpu_line.proofs.FormLemmas.{plain, immediate_signal, immediate_pack, is_a_load, semaphore_form, branch_signal}
use Rattle.qpu_line.proofs.RuleLemmas.{read_where_canonical, read_of_canonical}
use Rattle.qpu_line.proofs.PackLemmas.{unit_word_back}
use Rattle.qpu_line.proofs.UnitLaw.{fields_back}
use Rattle.qpu_line.proofs.OwnLemmas.{own}
use Rattle.qpu_line.proofs.PlainLemmas.{semaphore_back, load_back, branch_back}

-- the packing's unit is never chosen
pub no_pm : (f : Fields) → operand_rule f ≡ true → f.pm ≡ 0
unfolding operand_rule
no_pm f rule = grind (arith, nat_tests, rule)

-- words with the signal of load immediates
immediate_back : (w : ℕ) (k0 k1 k3 : Bool) → w < 2 ^ 64 → IsCanonical w → is_alu (fields_of w) ≡ false → is_small (fields_of w) ≡ false → is_branch (fields_of w) ≡ false
    → (field w 57 3 == 0) ≡ k0 → (field w 57 3 == 1) ≡ k1 → (field w 57 3 == 3) ≡ k3
    → word_of (instruction_of (form_of (fields_of w)) (fields_of w)) ≡ w
unfolding word_of instruction_of form_of
immediate_back w true k1 k3 below c alu small branch is0 is1 is3 =
    let sig : field w 60 4 ≡ 14 = immediate_signal (fields_of w) alu small branch (plain w c.inside) in
    rw (alu, small, branch, is0)
    (load_back w below sig (is_a_load (fields_of w) sig (rw (is0) refl)) (no_pm (fields_of w) c.operands) (immediate_pack (fields_of w) sig (plain w c.inside)) c.loads c.exchange)
immediate_back w false true k3 below c alu small branch is0 is1 is3 =
    let sig : field w 60 4 ≡ 14 = immediate_signal (fields_of w) alu small branch (plain w c.inside) in
    rw (alu, small, branch, is0, is1)
    (load_back w below sig (is_a_load (fields_of w) sig (rw (is0, is1) refl)) (no_pm (fields_of w) c.operands) (immediate_pack (fields_of w) sig (plain w c.inside)) c.loads c.exchange)
immediate_back w false false true below c alu small branch is0 is1 is3 =
    let sig : field w 60 4 ≡ 14 = immediate_signal (fields_of w) alu small branch (plain w c.inside) in
    rw (alu, small, branch, is0, is1, is3)
    (load_back w below sig (is_a_load (fields_of w) sig (rw (is0, is1, is3) refl)) (no_pm (fields_of w) c.operands) (immediate_pack (fields_of w) sig (plain w c.inside)) c.loads c.exchange)
immediate_back w false false false below c alu small branch is0 is1 is3 =
    let sig : field w 60 4 ≡ 14 = immediate_signal (fields_of w) alu small branch (plain w c.inside) in
    let none : ((field w 57 3 == 0) || (field w 57 3 == 1) || (field w 57 3 == 3)) ≡ false = rw (is0, is1, is3) refl in
    let known : (field w 57 3 ≡ 4) × (field w 38 6 ≡ 39) × (field w 32 6 ≡ 39) = semaphore_form (fields_of w) sig none (plain w c.inside) in
    rw (alu, small, branch, is0, is1, is3) (semaphore_back w below sig known.0 known.1 known.2 (no_pm (fields_of w) c.operands) c.semaphores)

-- words in which no unit computes
back_without_units : (w : ℕ) (branch : Bool) → w < 2 ^ 64 → IsCanonical w → is_alu (fields_of w) ≡ false → is_small (fields_of w) ≡ false → is_branch (fields_of w) ≡ branch
    → word_of (instruction_of (form_of (fields_of w)) (fields_of w)) ≡ w
unfolding word_of instruction_of form_of
back_without_units w true below c alu small branch =
    rw (alu, small, branch) (branch_back w below (branch_signal (fields_of w) branch) (no_pm (fields_of w) c.operands) c.branches c.exchange)
back_without_units w false below c alu small branch = immediate_back w _ _ _ below c alu small branch refl refl refl

-- words in which both units compute
back_of_units : (w : ℕ) → w < 2 ^ 64 → IsCanonical w → is_unit_word (fields_of w) ≡ true → units_word (fields_of_units (units_of (unit_fields (fields_of w)))) ≡ w
back_of_units w below c unit =
    ap units_word (fields_back (unit_fields (fields_of w)) (own w c unit)) ∙ unit_word_back w below (no_pm (fields_of w) c.operands)

back_by_form : (w : ℕ) (alu small : Bool) → w < 2 ^ 64 → IsCanonical w → is_alu (fields_of w) ≡ alu → is_small (fields_of w) ≡ small
    → word_of (instruction_of (form_of (fields_of w)) (fields_of w)) ≡ w
unfolding word_of instruction_of form_of
back_by_form w true small below c is_alu_word is_small_word = rw is_alu_word (back_of_units w below c (rw is_alu_word refl))
back_by_form w false true below c is_alu_word is_small_word = rw (is_alu_word, is_small_word) (back_of_units w below c (rw (is_alu_word, is_small_word) refl))
back_by_form w false false below c is_alu_word is_small_word = back_without_units w _ below c is_alu_word is_small_word refl

-- the word of what is read, where something is
abbrev word_or : Option Instruction → ℕ
word_or None = 0
word_or (Some i) = word_of i

pub word_back : (w : ℕ) (i : Instruction) → w < 2 ^ 64 → canonical_instruction w ≡ Some i → word_of i ≡ w
word_back w i below is =
    let c : IsCanonical w = (read_where_canonical w (Some i) (sym is)).0 refl in
    ap word_or (sym is) ∙ (ap word_or (read_of_canonical w c) ∙ back_by_form w _ _ below c refl refl)

pub one_word : (v w : ℕ) (i : Instruction) → v < 2 ^ 64 → w < 2 ^ 64 → canonical_instruction v ≡ Some i → canonical_instruction w ≡ Some i → v ≡ w
one_word v w i v_below w_below of_v of_w = sym (word_back v i v_below of_v) ∙ word_back w i w_below of_w
