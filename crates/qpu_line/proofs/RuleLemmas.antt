-- An instruction is read exactly where a word is canonical.
use Rattle.std.proofs.Common.{◌≡◌, ◌↔◌, ℕ, Bool, true, false, Option, Some, None, refl, sym, subst, arith}
use Rattle.std.specs.Prelude.{IsSome, if◌then◌else◌}
use Rattle.qpu_word.specs.declared.fault.WordFault.{WordFault}
use Rattle.qpu_line.specs.declared.instruction.Instruction.{Instruction}
use Rattle.qpu_line.specs.Instructions.{instruction_of}
use Rattle.std.proofs.lemmas.Bool.Decides.{nat_tests}
use Rattle.qpu_word.specs.Words.{fields_of, word_fault, IsInProfile}
use Rattle.qpu_word.specs.Form.{word_form, form_or, form_of}
use Rattle.qpu_word.specs.Canonical.{IsCanonical, keeps_rules}
use Rattle.qpu_word.proofs.CanonicalLemmas.{all_rules, each_rule}
use Rattle.qpu_line.specs.Canonical.{canonical_instruction, read_by}

some_where : (w : ℕ) → IsCanonical w → IsSome (canonical_instruction w)
unfolding canonical_instruction word_form
some_where w c = rw (c.inside, all_rules w c) refl

-- what is read of no fault or some, with the rules kept or not
read_inside : (w : ℕ) (fault : Option WordFault) → word_fault w ≡ fault → IsSome (read_by (form_or fault (fields_of w)) (fields_of w)) → IsInProfile w
read_inside w None is some = is
read_inside w (Some fault) is some = grind (arith, nat_tests)

some_if : {A : Type 0} (kept : Bool) (x : A) → IsSome (if kept then Some x else None) → kept ≡ true
some_if true x some = refl
some_if false x some = some

read_kept : (w : ℕ) (fault : Option WordFault) → word_fault w ≡ fault → IsSome (read_by (form_or fault (fields_of w)) (fields_of w)) → keeps_rules (fields_of w) ≡ true
read_kept w None is some = some_if (keeps_rules (fields_of w)) (instruction_of (form_of (fields_of w)) (fields_of w)) some
read_kept w (Some fault) is some = grind (arith, nat_tests)

only_there : (w : ℕ) → IsSome (canonical_instruction w) → IsCanonical w
unfolding canonical_instruction word_form
only_there w some = each_rule w (read_inside w (word_fault w) refl some) (read_kept w (word_fault w) refl some)

pub read_where_canonical : (w : ℕ) (read : Option Instruction) → read ≡ canonical_instruction w → IsSome read ↔ IsCanonical w
read_where_canonical w read is =
    let P : Option Instruction → Type 0 = λ r. IsSome r ↔ IsCanonical w in
    subst P (sym is) (only_there w, some_where w)

-- what is read of a canonical word
pub read_of_canonical : (w : ℕ) → IsCanonical w → canonical_instruction w ≡ Some (instruction_of (form_of (fields_of w)) (fields_of w))
unfolding canonical_instruction word_form
read_of_canonical w c = rw (c.inside, all_rules w c) refl
