-- The answer to assembly text.
use Rattle.std.proofs.Common.{◌≡◌, ◌≢◌, ◌⊎◌, inl, inr, ℕ, List, Result, Ok, Err, refl, ap}
use Rattle.qpu_token.specs.declared.fault.AsmKind.TheVariants.{Memory}
use Rattle.qpu_token.specs.declared.fault.AsmFault.{AsmFault}
use Rattle.qpu_token.specs.Stops.{no_memory}
use Rattle.qpu_asm.specs.Assembly.{IsAssembly, IsItsFault}
use Rattle.qpu_asm.proofs.OneAssembly.{one_assembly}
use Rattle.qpu_tool.specs.declared.answer.Answer.{Answer}
use Rattle.qpu_tool.specs.declared.answer.Answer.TheVariants.{Words, Refused}
use Rattle.qpu_tool.specs.declared.refusal.Refusal.TheVariants.{Asm}
use Rattle.qpu_tool.specs.Assembling.{AsmAnswer, refused, assembled}
use Rattle.qpu_tool.specs.Answer.{status_of}
use Rattle.qpu_tool.specs.Causes.{IsOfText}
use Rattle.qpu_tool.proofs.ResultLemmas.{one_error}
use Rattle.qpu_tool.proofs.Soundness.{Sound}

-- a fault that isn't want of memory is the text's

fault_by : (text : List ℕ) (fault : AsmFault) → (fault ≡ no_memory) ⊎ IsAssembly text (Err fault) → fault.kind ≢ Memory → IsAssembly text (Err fault)
fault_by text fault (inl is) none = absurd (none (ap (λ (f : AsmFault). f.kind) is))
fault_by text fault (inr is) none = is

pub fault_is : (text : List ℕ) (fault : AsmFault) → IsItsFault text fault → fault.kind ≢ Memory → IsAssembly text (Err fault)
fault_is text fault is none = fault_by text fault is none

-- it has one fault or one list of words

pub no_fault_due : (text codes : List ℕ) (fault : AsmFault) → IsAssembly text (Ok codes) → IsAssembly text (Err fault) → ⊥
no_fault_due text codes fault due is = absurd (let e : ◌≡◌ {A = Result (List ℕ) AsmFault} (Ok codes) (Err fault) = one_assembly text (Ok codes) (Err fault) due is in cc)

pub same_due : (text codes words : List ℕ) → IsAssembly text (Ok codes) → IsAssembly text (Ok words) → words ≡ codes
same_due text codes words due is = let e : ◌≡◌ {A = Result (List ℕ) AsmFault} (Ok words) (Ok codes) = one_assembly text (Ok words) (Ok codes) is due in cc

pub one_told : (text : List ℕ) (f g : AsmFault) → IsAssembly text (Err f) → IsAssembly text (Err g) → f ≡ g
one_told text f g is is' = one_error (Err f) f g refl (one_assembly text (Err f) (Err g) is is')

one : (text : List ℕ) (a b : Answer) → AsmAnswer text a → AsmAnswer text b → a ≡ b
one text a b (refused f is none) (refused g is' none') = ap (λ (x : AsmFault). Refused (Asm x)) (one_told text f g is is')
one text a b (refused f is none) (assembled words due) = absurd (no_fault_due text words f due is)
one text a b (assembled words due) (refused f is none) = absurd (no_fault_due text words f due is)
one text a b (assembled words due) (assembled other due') = ap (λ (w : List ℕ). Words w) (same_due text other words due' due)

of_text : (text : List ℕ) (answer : Answer) → AsmAnswer text answer → IsOfText (status_of answer)
of_text text answer (refused f is none) = tt
of_text text answer (assembled words due) = tt

pub sound_asm : Sound AsmAnswer
sound_asm = record { one = one; of_text = of_text }
