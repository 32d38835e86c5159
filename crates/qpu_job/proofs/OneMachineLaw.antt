-- A job whose programs are clean is refused for nothing, and of one job one refusal at most is due.
use Rattle.std.proofs.Common.{◌≡◌, ◌≢◌, ℕ, ◌⊎◌, ◌<◌, All, List, [], refl, ap, sym, subst, inl, inr, ◌∙◌, arith}
use Rattle.std.specs.List.{AllWithin}
use Rattle.std.proofs.lemmas.Bool.{cases_order}
use Rattle.qpu_token.specs.declared.fault.AsmFault.{AsmFault}
use Rattle.qpu_flow.specs.Code.{AllInProfile, IsFirstOutside}
use Rattle.qpu_flow.proofs.OutsideLemmas.{none_outside}
use Rattle.qpu_hazard.specs.declared.breaks.Hazard.{Hazard}
use Rattle.qpu_hazard.specs.declared.checked.CheckFault.{CheckFault}
use Rattle.qpu_hazard.specs.declared.checked.CheckFault.TheVariants as check
use Rattle.qpu_hazard.specs.Refusal.{NoneRefusable, IsFirst}
use Rattle.qpu_hazard.proofs.FirstLemmas.{hazard, none_first, same_outside, same_break}
use Rattle.qpu_job.specs.declared.fault.JobFault.{JobFault}
use Rattle.qpu_job.specs.declared.fault.JobFault.TheVariants as fault
use Rattle.qpu_job.specs.Plan.{Plan}
use Rattle.qpu_job.specs.Programs.{IsFirstAsmFault}
use Rattle.qpu_job.specs.Opening.{AreClean, IsChecked, IsRefused, IsMakeFault, code_at}
use Rattle.qpu_job.specs.OneMachine.{CleanJobsAreAccepted, OneRefusal}
use Rattle.qpu_job.proofs.OneCode.{codes_one, never_first, first_one}

-- the two kinds of refusals

data Due (plan : Plan) (e : JobFault) : Type 0 where
  by_text : (told : AsmFault) → e ≡ fault.Asm told → IsFirstAsmFault plan.programs told → Due plan e
  by_check : (program : ℕ) (why : CheckFault) → e ≡ fault.Check program why → IsRefused plan program why → Due plan e

due : (plan : Plan) (e : JobFault) → IsMakeFault plan e → e ≢ fault.Memory → Due plan e
due plan (fault.Asm told) fails apart = by_text told refl fails
due plan (fault.Check program why) fails apart = by_check program why refl fails
due plan fault.Memory fails apart = absurd (apart refl)
due plan (fault.Line line) fails apart = absurd fails
due plan (fault.Size line) fails apart = absurd fails
due plan (fault.Limit line) fails apart = absurd fails
due plan (fault.Twice line) fails apart = absurd fails
due plan (fault.Processor line) fails apart = absurd fails
due plan (fault.NoProgram line) fails apart = absurd fails
due plan (fault.Place line) fails apart = absurd fails

-- a clean job

never_checked : (codes : List (List ℕ)) (program : ℕ) (why : CheckFault) → All AllInProfile codes → All NoneRefusable codes → IsChecked codes program why → ⊥
never_checked codes program (check.Word at f) inside clean checked = none_outside _ at f (inside program [] checked.0) checked.1
never_checked codes program (check.Hazard rule at before) inside clean checked =
    none_first _ (hazard at rule before) (clean program [] checked.0) checked.2
never_checked codes program check.Memory inside clean checked = checked

never_due : (plan : Plan) (codes : List (List ℕ)) (e : JobFault) → AreClean plan codes → Due plan e → ⊥
never_due plan codes e are (by_text told is first) = never_first plan.programs codes told are.built first
never_due plan codes e are (by_check program why is refused) =
    never_checked codes program why are.inside are.clean
    (subst (λ (cs : List (List ℕ)). IsChecked cs program why) (codes_one plan.programs refused.codes codes refused.built are.built) refused.first)

pub clean_jobs : CleanJobsAreAccepted
clean_jobs plan codes e are fails apart = never_due plan codes e are (due plan e fails apart)

-- one refusal of the words of all programs

-- of two programs that are the first for which something fails one can't be above the other
same_place : (P : List ℕ → Type 0) (codes : List (List ℕ)) (k j : ℕ) → AllWithin P codes 0 k → AllWithin P codes 0 j
    → (P (code_at codes k) → ⊥) → (P (code_at codes j) → ⊥) → k ≡ j
same_place P codes k j above above' fails fails' = by_order (cases_order k j)
  where
    by_order : (k ≡ j) ⊎ ((k < j) ⊎ (j < k)) → k ≡ j
    by_order (inl e) = e
    by_order (inr (inl low)) = absurd (fails (above' k [] (omega arith) low))
    by_order (inr (inr low)) = absurd (fails' (above j [] (omega arith) low))

same_refusal : (k j : ℕ) (why other : CheckFault) → k ≡ j → why ≡ other → fault.Check k why ≡ fault.Check j other
same_refusal k j why other e f = ap (λ (n : ℕ). fault.Check n why) e ∙ ap (λ (w : CheckFault). fault.Check j w) f

one_check : (codes : List (List ℕ)) (k j : ℕ) (why other : CheckFault) → IsChecked codes k why → IsChecked codes j other → fault.Check k why ≡ fault.Check j other
one_check codes k j (check.Word at f) (check.Word bt g) p q =
    let e : k ≡ j =
    same_place AllInProfile codes k j p.2 q.2 (λ inside. none_outside _ at f inside p.1) (λ inside. none_outside _ bt g inside q.1) in
    same_refusal k j _ _ e (same_outside (code_at codes j) at bt f g (subst (λ (n : ℕ). IsFirstOutside (code_at codes n) at f) e p.1) q.1)
one_check codes k j (check.Word at f) (check.Hazard rule bt before) p q = absurd (none_outside _ at f (q.1 k [] p.0) p.1)
one_check codes k j (check.Hazard rule at before) (check.Word bt g) p q = absurd (none_outside _ bt g (p.1 j [] q.0) q.1)
one_check codes k j (check.Hazard rule at before) (check.Hazard rule' bt before') p q =
    let x : Hazard = hazard at rule before in
    let y : Hazard = hazard bt rule' before' in
    let e : k ≡ j =
    same_place NoneRefusable codes k j p.3 q.3 (λ none. none_first _ x none p.2) (λ none. none_first _ y none q.2) in
    same_refusal k j _ _ e (same_break (code_at codes j) x y (subst (λ (n : ℕ). IsFirst (code_at codes n) x) e p.2) q.2)
one_check codes k j check.Memory other p q = absurd p
one_check codes k j (check.Word at f) check.Memory p q = absurd q
one_check codes k j (check.Hazard rule at before) check.Memory p q = absurd q

one_due : (plan : Plan) (e f : JobFault) → Due plan e → Due plan f → e ≡ f
one_due plan e f (by_text told is first) (by_text told' is' first') =
    is ∙ (ap (λ (t : AsmFault). fault.Asm t) (first_one plan.programs told told' first first') ∙ sym is')
one_due plan e f (by_text told is first) (by_check program why is' refused) = absurd (never_first plan.programs refused.codes told refused.built first)
one_due plan e f (by_check program why is refused) (by_text told is' first) = absurd (never_first plan.programs refused.codes told refused.built first)
one_due plan e f (by_check k why is p) (by_check j other is' q) =
    let there : IsChecked q.codes k why = subst (λ (cs : List (List ℕ)). IsChecked cs k why) (codes_one plan.programs p.codes q.codes p.built q.built) p.first in
    is ∙ (one_check q.codes k j why other there q.first ∙ sym is')

pub one_refusal : OneRefusal
one_refusal plan e f p q apart apart' = one_due plan e f (due plan e p apart) (due plan f q apart')
