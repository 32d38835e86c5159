-- Canonical words and the instructions that have a word are the same, whatever their form.
use Rattle.std.proofs.Common.{◌≡◌, ℕ, Bool, true, false, Option, Some, None, refl, sym, ◌∙◌, subst}
use Rattle.std.specs.Prelude.{◌==◌}
use Rattle.qpu_word.specs.Words.{field, fields_of, is_alu, is_small, is_branch, is_unit_word}
use Rattle.qpu_word.specs.Form.{form_of}
use Rattle.qpu_word.proofs.ProfileLemmas.{field_below}
use Rattle.qpu_line.specs.declared.instruction.Instruction.{Instruction}
use Rattle.qpu_line.specs.declared.instruction.Instruction.TheVariants.{Both, Load, Semaphore, Branch}
use Rattle.qpu_word.specs.Canonical.{IsCanonical}
use Rattle.qpu_line.specs.Canonical.{canonical_instruction}
use Rattle.qpu_line.specs.Instructions.{instruction_of, word_of}
use Rattle.qpu_line.specs.Slots.{unit_fields}
use Rattle.qpu_line.specs.Units.{units_of}
use Rattle.qpu_line.specs.Named.{HasWord}
use Rattle.qpu_line.proofs.FormLemmas.{plain, immediate_signal, is_a_load}
use Rattle.qpu_line.proofs.RuleLemmas.{read_where_canonical, read_of_canonical}
use Rattle.qpu_line.proofs.OwnLemmas.{own}
use Rattle.qpu_line.proofs.SemaphoreLaw.{semaphores_again}
use Rattle.qpu_line.proofs.LoadLaw.{loads_again}
use Rattle.qpu_line.proofs.BranchLaw.{branches_again}
use Rattle.qpu_line.proofs.NamedLaw.{named_again}
use Rattle.qpu_line.proofs.KeptLemmas.{said_of_canonical, whole_of_word}
use Rattle.qpu_line.proofs.HeldLemmas.{named_of_said, both_of_own}
use Rattle.qpu_line.proofs.PlainNames.{load_named, branch_named}

-- words in which both units compute
units_named : (w : ℕ) → IsCanonical w → is_unit_word (fields_of w) ≡ true → HasWord (Both (units_of (unit_fields (fields_of w))))
units_named w c unit = (
  both_of_own (unit_fields (fields_of w)) (whole_of_word w) (own w c unit),
  named_of_said (unit_fields (fields_of w)) (whole_of_word w) (said_of_canonical w c unit),
)

-- words with the signal of load immediates
immediate_named : (w : ℕ) (k0 k1 k3 : Bool) → IsCanonical w → is_alu (fields_of w) ≡ false → is_small (fields_of w) ≡ false → is_branch (fields_of w) ≡ false
    → (field w 57 3 == 0) ≡ k0 → (field w 57 3 == 1) ≡ k1 → (field w 57 3 == 3) ≡ k3 → HasWord (instruction_of (form_of (fields_of w)) (fields_of w))
unfolding instruction_of form_of
immediate_named w true k1 k3 c alu small branch is0 is1 is3 =
    let sig : field w 60 4 ≡ 14 = immediate_signal (fields_of w) alu small branch (plain w c.inside) in
    rw (alu, small, branch, is0) (load_named w sig (is_a_load (fields_of w) sig (rw (is0) refl)) c)
immediate_named w false true k3 c alu small branch is0 is1 is3 =
    let sig : field w 60 4 ≡ 14 = immediate_signal (fields_of w) alu small branch (plain w c.inside) in
    rw (alu, small, branch, is0, is1) (load_named w sig (is_a_load (fields_of w) sig (rw (is0, is1) refl)) c)
immediate_named w false false true c alu small branch is0 is1 is3 =
    let sig : field w 60 4 ≡ 14 = immediate_signal (fields_of w) alu small branch (plain w c.inside) in
    rw (alu, small, branch, is0, is1, is3) (load_named w sig (is_a_load (fields_of w) sig (rw (is0, is1, is3) refl)) c)
immediate_named w false false false c alu small branch is0 is1 is3 = rw (alu, small, branch, is0, is1, is3) (field_below w 0 4)

-- words in which no unit computes
named_without_units : (w : ℕ) (branch : Bool) → IsCanonical w → is_alu (fields_of w) ≡ false → is_small (fields_of w) ≡ false → is_branch (fields_of w) ≡ branch
    → HasWord (instruction_of (form_of (fields_of w)) (fields_of w))
unfolding instruction_of form_of
named_without_units w true c alu small branch = rw (alu, small, branch) (branch_named w branch c)
named_without_units w false c alu small branch = immediate_named w _ _ _ c alu small branch refl refl refl

named_by_form : (w : ℕ) (alu small : Bool) → IsCanonical w → is_alu (fields_of w) ≡ alu → is_small (fields_of w) ≡ small → HasWord (instruction_of (form_of (fields_of w)) (fields_of w))
unfolding instruction_of form_of
named_by_form w true small c is_alu_word is_small_word = rw is_alu_word (units_named w c (rw is_alu_word refl))
named_by_form w false true c is_alu_word is_small_word = rw (is_alu_word, is_small_word) (units_named w c (rw (is_alu_word, is_small_word) refl))
named_by_form w false false c is_alu_word is_small_word = named_without_units w _ c is_alu_word is_small_word refl

-- what is read, where something is
abbrev has_word_or : Option Instruction → Type 0
has_word_or None = Unit
has_word_or (Some i) = HasWord i

pub each_named : (w : ℕ) (i : Instruction) → canonical_instruction w ≡ Some i → HasWord i
each_named w i is =
    let c : IsCanonical w = (read_where_canonical w (Some i) (sym is)).0 refl in
    subst has_word_or (sym (read_of_canonical w c) ∙ is) (named_by_form w _ _ c refl refl)

pub each_again : (i : Instruction) → HasWord i → canonical_instruction (word_of i) ≡ Some i
each_again (Both u) has = named_again u has.0 has.1
each_again (Load l) has = loads_again l has
each_again (Semaphore s) has = semaphores_again s has
each_again (Branch b) has = branches_again b has
