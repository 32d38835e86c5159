-- The answer of `check`. This project's own.
use Rattle.std.specs.Prelude.{◌≢◌, ℕ, List, length, None, Ok, Err, codes}
use Rattle.qpu_token.specs.declared.fault.AsmKind.TheVariants as kind
use Rattle.qpu_token.specs.declared.fault.AsmFault.{AsmFault}
use Rattle.qpu_asm.specs.Assembly.{IsAssembly}
use Rattle.qpu_flow.specs.Code.{AllInProfile}
use Rattle.qpu_hazard.specs.declared.checked.CheckFault.{CheckFault}
use Rattle.qpu_hazard.specs.declared.checked.CheckFault.TheVariants as check
use Rattle.qpu_hazard.specs.Refusal.{NoneRefusable}
use Rattle.qpu_hazard.specs.Faults.{IsCheckFault}
use Rattle.qpu_tool.specs.declared.answer.Answer.{Answer}
use Rattle.qpu_tool.specs.declared.answer.Answer.TheVariants.{Counted, Refused}
use Rattle.qpu_tool.specs.declared.refusal.Refusal.TheVariants.{Asm, Hazard}

-- the answer to a text of ASCII, in the order in which refusals are tried: its first fault; the least
-- word outside the profile, or the first hazard; or that it is accepted, with how many words it has
pub data CheckAnswer (text : List ℕ) : Answer → Type 0 where
  misspelled : (fault : AsmFault) → IsAssembly text (Err fault) → fault.kind ≢ kind.Memory → CheckAnswer text (Refused (Asm fault))
  hazardous : (words : List ℕ) (fault : CheckFault) → IsAssembly text (Ok words) → IsCheckFault words fault → fault ≢ check.Memory
      → CheckAnswer text (Refused (Hazard None fault))
  accepted : (words : List ℕ) → IsAssembly text (Ok words) → AllInProfile words → NoneRefusable words
      → CheckAnswer text (Counted (record { said = codes "accepted"; words = length words }))
