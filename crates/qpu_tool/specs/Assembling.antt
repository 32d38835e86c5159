-- The answer of `asm`. This project's own.
use Rattle.std.specs.Prelude.{◌≢◌, ℕ, List, Ok, Err}
use Rattle.qpu_token.specs.declared.fault.AsmKind.TheVariants.{Memory}
use Rattle.qpu_token.specs.declared.fault.AsmFault.{AsmFault}
use Rattle.qpu_asm.specs.Assembly.{IsAssembly}
use Rattle.qpu_tool.specs.declared.answer.Answer.{Answer}
use Rattle.qpu_tool.specs.declared.answer.Answer.TheVariants.{Words, Refused}
use Rattle.qpu_tool.specs.declared.refusal.Refusal.TheVariants.{Asm}

-- the answer to a text of ASCII: its first fault, or its words
pub data AsmAnswer (text : List ℕ) : Answer → Type 0 where
  refused : (fault : AsmFault) → IsAssembly text (Err fault) → fault.kind ≢ Memory → AsmAnswer text (Refused (Asm fault))
  assembled : (words : List ℕ) → IsAssembly text (Ok words) → AsmAnswer text (Words words)
