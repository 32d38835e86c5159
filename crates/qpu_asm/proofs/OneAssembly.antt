-- Assembly text has one answer: its words, or its first fault.
use Rattle.std.proofs.Common.{◌≡◌, ℕ, List, Result, Ok, Err, refl, sym, ap, ◌∙◌}
use Rattle.qpu_token.specs.declared.token.Token.{Token}
use Rattle.qpu_token.specs.declared.fault.AsmFault.{AsmFault}
use Rattle.qpu_token.specs.Tokens.{AreTokens}
use Rattle.qpu_token.specs.OneAnswer.{IsAnswer}
use Rattle.qpu_token.proofs.AnswerLaw.{one_answer}
use Rattle.qpu_asm.specs.Assembly.{IsAssembly, assembled}

-- where the answer comes from
pub data Known (text : List ℕ) (answer : Result (List ℕ) AsmFault) : Type 0 where
  by_fault : (fault : AsmFault) → answer ≡ Err fault → IsAnswer text (Err fault) → Known text answer
  by_tokens : (tokens : List Token) → AreTokens text tokens → assembled text tokens ≡ answer → Known text answer

pub known : (text : List ℕ) (answer : Result (List ℕ) AsmFault) → IsAssembly text answer → Known text answer
known text answer (IsAssembly.faulty is none) = by_fault _ refl (is, none)
known text answer (IsAssembly.read are is) = by_tokens _ are is

same_fault : (f g : AsmFault) → ◌≡◌ {A = Result (List Token) AsmFault} (Err f) (Err g) → f ≡ g
same_fault f g e = cc

same_tokens : (t u : List Token) → ◌≡◌ {A = Result (List Token) AsmFault} (Ok t) (Ok u) → t ≡ u
same_tokens t u e = cc

not_both : (f : AsmFault) (t : List Token) → ◌≡◌ {A = Result (List Token) AsmFault} (Err f) (Ok t) → ⊥
not_both f t e = absurd (cc)

one_known : (text : List ℕ) (a b : Result (List ℕ) AsmFault) → Known text a → Known text b → a ≡ b
one_known text a b (by_fault f e is) (by_fault g e' is') =
    let same : f ≡ g = same_fault f g (one_answer text (Err f) (Err g) is is') in
    e ∙ (ap (λ (x : AsmFault). Err x) same ∙ sym e')
one_known text a b (by_fault f e is) (by_tokens t are e') = absurd (not_both f t (one_answer text (Err f) (Ok t) is are))
one_known text a b (by_tokens t are e) (by_fault f e' is) = absurd (not_both f t (one_answer text (Err f) (Ok t) is are))
one_known text a b (by_tokens t are e) (by_tokens u too e') =
    sym e ∙ (ap (assembled text) (same_tokens t u (one_answer text (Ok t) (Ok u) are too)) ∙ e')

pub one_assembly : (text : List ℕ) (a b : Result (List ℕ) AsmFault) → IsAssembly text a → IsAssembly text b → a ≡ b
one_assembly text a b p q = one_known text a b (known text a p) (known text b q)
