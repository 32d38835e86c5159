-- A word and its canonical word have one meaning.
use Rattle.std.proofs.Common.{◌≡◌, ℕ, ◌%◌, ◌^◌, Bool, true, false, Option, Some, None, Ok, Err, refl, sym, ap, subst, ◌∙◌}
use Rattle.std.specs.Prelude.{if◌then◌else◌, IsSome, Result}
use Rattle.qpu_word.specs.declared.word.Fields.{Fields}
use Rattle.qpu_word.specs.declared.fault.WordFault.{WordFault}
use Rattle.qpu_word.specs.declared.fault.FaultKind.{FaultKind}
use Rattle.qpu_word.specs.declared.fault.FaultKind.TheVariants.{Branch as BranchFault}
use Rattle.qpu_word.specs.Processor.{ProcessorState}
use Rattle.qpu_word.specs.Words.{field, fields_of, is_semaphore, writes_link, has_fault, word_fault, IsInProfile}
use Rattle.qpu_word.specs.Packed.{unit_word, immediate_word, branch_word}
use Rattle.qpu_word.specs.Instruction.{after_setups, after_uniform_to, then_after, outs_of, branch_fails, no_ins, local_result}
use Rattle.qpu_word.specs.CanonicalWord.{canonical_units, canonical_load, canonical_semaphore, canonical_branch, canonical_word}
use Rattle.qpu_word.proofs.PackedLemmas.{down_hold, number_hold}
use Rattle.qpu_word.proofs.FaultLemmas.{IsFaultless, faultless}
use Rattle.qpu_word.proofs.UnitFields.{acts_as}
use Rattle.qpu_word.proofs.PlainForms.{load_acts, semaphore_acts, semaphore_by, target_by, branch_by, no_pack}
use Rattle.qpu_word.proofs.CanonicalLaw.{HasForm, units, load, semaphore, branch, form_of_profile, units_are, load_is, semaphore_is, branch_is, units_held, load_held, semaphore_held, branch_held, branch_sig, outside_back}
use Rattle.qpu_word.proofs.Alike.{same, Alike}
use Rattle.qpu_word.proofs.AlikeUnits.{units_alike}
use Rattle.qpu_word.proofs.AlikePlain.{load_alike, IsStep, semaphore_alike, branch_alike}
use Rattle.qpu_word.proofs.SameMeaning.{fails_same, outs_same, done_same, link_same}

-- fields are like themselves
like_itself : (f : Fields) → Alike f f
like_itself f = record {
  unit = refl;
  load = refl;
  semaphore = refl;
  branch = refl;
  ends = refl;
  take0 = refl;
  take1 = refl;
  stands_a = λ n quiet. refl;
  stands_b = λ n quiet. refl;
  acts_add = refl;
  acts_mul = refl;
  add = refl;
  mul = refl;
  add_to = λ writes. refl;
  mul_to = λ writes. refl;
  files = same refl;
  pack = λ in_b. refl;
  add_cond = λ writes. refl;
  mul_cond = λ writes. refl;
  adds = λ acts p ins. refl;
  carries = λ acts p ins. refl;
  muls = λ acts p ins. refl;
  turns = λ acts p. refl;
  plain = λ some place. refl;
  unit_sets = λ some. refl;
  load_sets = λ is. refl;
  branches = λ is. record { cond = refl; rel = refl; reg = refl; row = λ on. refl; immediate = refl };
  down = λ is. refl;
  number = λ is. refl;
}

is_step : (f : Fields) → is_semaphore f ≡ true → IsFaultless f → IsStep f
unfolding has_fault
is_step f is n =
    let known : (f.sig ≡ 14) × (f.kind ≡ 4) = semaphore_by f.sig f.kind is in
    let to : (f.waddr_add ≡ 39) × (f.waddr_mul ≡ 39) = target_by (is_semaphore f) f.waddr_add f.waddr_mul n.target is in
    record { sig = known.0; kind = known.1; pack = no_pack f known.0 n.packing; waddr_add = to.0; waddr_mul = to.1 }

low_bits : (w : ℕ) → (canonical_semaphore (fields_of w)).immediate ≡ field w 0 32 % 2 ^ 5
unfolding canonical_semaphore
low_bits w = refl

alike_by : (w : ℕ) → IsInProfile w → HasForm (fields_of w) → Alike (fields_of w) (fields_of (canonical_word w))
alike_by w p (units is) =
    let f : Fields = fields_of w in
    let g : Fields = fields_of (unit_word (canonical_units f)) in
    subst (λ n. Alike (fields_of w) (fields_of n)) (sym (units_are w p is))
    (units_alike f g (units_held w) (acts_as f g (units_held w) is) is (faultless w p))
alike_by w p (load is) =
    let f : Fields = fields_of w in
    let g : Fields = fields_of (immediate_word (canonical_load f)) in
    subst (λ n. Alike (fields_of w) (fields_of n)) (sym (load_is w p is))
    (load_alike f g (load_held w) (load_acts f g (load_held w) is) is (faultless w p))
alike_by w p (semaphore is) =
    let f : Fields = fields_of w in
    let g : Fields = fields_of (immediate_word (canonical_semaphore f)) in
    subst (λ n. Alike (fields_of w) (fields_of n)) (sym (semaphore_is w p is))
    (semaphore_alike f g f.immediate (semaphore_acts f g (semaphore_held w) is (faultless w p).target) (is_step f is (faultless w p))
    (down_hold w (canonical_semaphore f) (low_bits w)) (number_hold w (canonical_semaphore f) (low_bits w)))
alike_by w p (branch is) =
    let f : Fields = fields_of w in
    let g : Fields = fields_of (branch_word (canonical_branch f)) in
    let own : f.sig ≡ 15 = branch_by f.sig is in
    subst (λ n. Alike (fields_of w) (fields_of n)) (sym (branch_is w p is))
    (branch_alike f g (branch_held w) (branch_sig f g (branch_held w) ∙ own) own)

alike_if : (w : ℕ) (fault : Option WordFault) → word_fault w ≡ fault → Alike (fields_of w) (fields_of (canonical_word w))
alike_if w None is = alike_by w is (form_of_profile w is)
alike_if w (Some fault) is =
    let some : IsSome (word_fault w) = rw is refl in
    subst (λ n. Alike (fields_of w) (fields_of n)) (sym (outside_back w some)) (like_itself (fields_of w))

-- every word and its canonical word are alike
pub alike : (w : ℕ) → Alike (fields_of w) (fields_of (canonical_word w))
alike w = alike_if w (word_fault w) refl

-- one step after another, up to the first fault
pub after_same : {A B : Type 0} (r : Result A FaultKind) (next next' : A → Result B FaultKind) → ((a : A) → next a ≡ next' a) → then_after r next ≡ then_after r next'
after_same (Ok a) next next' equal = equal a
after_same (Err kind) next next' equal = refl

pub unless_same : {A : Type 0} (b : Bool) (x y z : A) → y ≡ z → (if b then x else y) ≡ (if b then x else z)
unless_same true x y z equal = refl
unless_same false x y z equal = equal

-- what a local word makes of its processor
pub local_same : (is_link : ℕ → Bool) (w : ℕ) (p : ProcessorState) → local_result is_link (canonical_word w) p ≡ local_result is_link w p
unfolding local_result
local_same is_link w p =
    let s : Alike (fields_of w) (fields_of (canonical_word w)) = alike w in
    rw (fails_same (fields_of w) (fields_of (canonical_word w)) s is_link p, outs_same (fields_of w) (fields_of (canonical_word w)) s p no_ins)
    (unless_same (branch_fails is_link (fields_of w) p) (Err BranchFault) _ _
    (after_same (after_setups (outs_of (fields_of w) p no_ins) p.book) _ _
    (λ book. ap (λ after. Ok after) (done_same (fields_of w) (fields_of (canonical_word w)) s p no_ins (after_uniform_to (outs_of (fields_of w) p no_ins).uniform_to book)))))

pub links_same : (w : ℕ) → writes_link (fields_of (canonical_word w)) ≡ writes_link (fields_of w)
links_same w = link_same (fields_of w) (fields_of (canonical_word w)) (alike w)
