-- The answer to lines with words.
use Rattle.std.proofs.Common.{◌≡◌, ◌≢◌, ◌⊎◌, inl, inr, ℕ, List, Err, ap}
use Rattle.qpu_token.specs.declared.fault.AsmKind.TheVariants.{Memory}
use Rattle.qpu_token.specs.declared.fault.AsmFault.{AsmFault}
use Rattle.qpu_token.specs.Stops.{no_memory}
use Rattle.qpu_asm.specs.HexLines.{hex_words, IsHexFault}
use Rattle.qpu_tool.specs.declared.answer.Answer.{Answer}
use Rattle.qpu_tool.specs.declared.answer.Answer.TheVariants.{Lines, Refused}
use Rattle.qpu_tool.specs.declared.refusal.Refusal.TheVariants.{Asm}
use Rattle.qpu_tool.specs.Disassembling.{DisAnswer, misread, told}
use Rattle.qpu_tool.specs.Answer.{status_of}
use Rattle.qpu_tool.specs.Causes.{IsOfText}
use Rattle.qpu_tool.proofs.ResultLemmas.{one_value, one_error, not_both}
use Rattle.qpu_tool.proofs.Soundness.{Sound}

-- a fault that isn't want of memory is the text's

line_by : (text : List ℕ) (fault : AsmFault) → (fault ≡ no_memory) ⊎ (hex_words text ≡ Err fault) → fault.kind ≢ Memory → hex_words text ≡ Err fault
line_by text fault (inl is) none = absurd (none (ap (λ (f : AsmFault). f.kind) is))
line_by text fault (inr is) none = is

pub line_is : (text : List ℕ) (fault : AsmFault) → IsHexFault text fault → fault.kind ≢ Memory → hex_words text ≡ Err fault
line_is text fault is none = line_by text fault is none

one : (text : List ℕ) (a b : Answer) → DisAnswer text a → DisAnswer text b → a ≡ b
one text a b (misread f is) (misread g is') = ap (λ (x : AsmFault). Refused (Asm x)) (one_error (hex_words text) f g is is')
one text a b (misread f is) (told words due) = absurd (not_both (hex_words text) words f due is)
one text a b (told words due) (misread f is) = absurd (not_both (hex_words text) words f due is)
one text a b (told words due) (told other due') = ap (λ (w : List ℕ). Lines w) (one_value (hex_words text) words other due due')

of_text : (text : List ℕ) (answer : Answer) → DisAnswer text answer → IsOfText (status_of answer)
of_text text answer (misread fault is) = tt
of_text text answer (told words is) = tt

pub sound_dis : Sound DisAnswer
sound_dis = record { one = one; of_text = of_text }
