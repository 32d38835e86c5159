-- The checker's answer to assembly text.
use Rattle.std.proofs.Common.{◌≡◌, ℕ, List, length, None, Ok, ap, subst}
use Rattle.std.specs.Prelude.{codes}
use Rattle.qpu_token.specs.declared.fault.AsmFault.{AsmFault}
use Rattle.qpu_asm.specs.Assembly.{IsAssembly}
use Rattle.qpu_hazard.specs.declared.checked.CheckFault.{CheckFault}
use Rattle.qpu_hazard.specs.Faults.{IsCheckFault}
use Rattle.qpu_hazard.proofs.FirstLemmas.{no_fault, one_fault}
use Rattle.qpu_tool.specs.declared.answer.Answer.{Answer}
use Rattle.qpu_tool.specs.declared.answer.Answer.TheVariants.{Counted, Refused}
use Rattle.qpu_tool.specs.declared.refusal.Refusal.TheVariants.{Asm, Hazard}
use Rattle.qpu_tool.specs.Checking.{CheckAnswer, misspelled, hazardous, accepted}
use Rattle.qpu_tool.specs.Answer.{status_of}
use Rattle.qpu_tool.specs.Causes.{IsOfText}
use Rattle.qpu_tool.proofs.AsmLemmas.{no_fault_due, same_due, one_told}
use Rattle.qpu_tool.proofs.Soundness.{Sound}

-- words that are due are one, so what holds of them holds of the others

along : (P : List ℕ → Type 0) (text words other : List ℕ) → IsAssembly text (Ok words) → IsAssembly text (Ok other) → P words → P other
along P text words other due due' holds = subst P (same_due text other words due' due) holds

one : (text : List ℕ) (a b : Answer) → CheckAnswer text a → CheckAnswer text b → a ≡ b
one text a b (misspelled f is none) (misspelled g is' none') = ap (λ (x : AsmFault). Refused (Asm x)) (one_told text f g is is')
one text a b (misspelled f is none) (hazardous words e due is' none') = absurd (no_fault_due text words f due is)
one text a b (misspelled f is none) (accepted words due inside clean) = absurd (no_fault_due text words f due is)
one text a b (hazardous words e due is none) (misspelled f is' none') = absurd (no_fault_due text words f due is')
one text a b (hazardous words e due is none) (hazardous other f due' is' none') =
    ap (λ (x : CheckFault). Refused (Hazard None x))
    (one_fault other e f (along (λ (w : List ℕ). IsCheckFault w e) text words other due due' is) is' none none')
one text a b (hazardous words e due is none) (accepted other due' inside clean) =
    absurd (no_fault other e inside clean (along (λ (w : List ℕ). IsCheckFault w e) text words other due due' is) none)
one text a b (accepted words due inside clean) (misspelled f is none) = absurd (no_fault_due text words f due is)
one text a b (accepted words due inside clean) (hazardous other e due' is none) =
    absurd (no_fault words e inside clean (along (λ (w : List ℕ). IsCheckFault w e) text other words due' due is) none)
one text a b (accepted words due inside clean) (accepted other due' inside' clean') =
    ap (λ (w : List ℕ). Counted (record { said = codes "accepted"; words = length w })) (same_due text other words due' due)

of_text : (text : List ℕ) (answer : Answer) → CheckAnswer text answer → IsOfText (status_of answer)
of_text text answer (misspelled f is none) = tt
of_text text answer (hazardous words e due is none) = tt
of_text text answer (accepted words due inside clean) = tt

pub sound_check : Sound CheckAnswer
sound_check = record { one = one; of_text = of_text }
