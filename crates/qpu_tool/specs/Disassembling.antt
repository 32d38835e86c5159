-- The answer of `dis`. This project's own.
use Rattle.std.specs.Prelude.{◌≡◌, ℕ, List, Ok, Err}
use Rattle.qpu_token.specs.declared.fault.AsmFault.{AsmFault}
use Rattle.qpu_asm.specs.HexLines.{hex_words}
use Rattle.qpu_tool.specs.declared.answer.Answer.{Answer}
use Rattle.qpu_tool.specs.declared.answer.Answer.TheVariants.{Lines, Refused}
use Rattle.qpu_tool.specs.declared.refusal.Refusal.TheVariants.{Asm}

-- the answer to a text of ASCII: its first line that is no word, or the lines of its words
pub data DisAnswer (text : List ℕ) : Answer → Type 0 where
  misread : (fault : AsmFault) → hex_words text ≡ Err fault → DisAnswer text (Refused (Asm fault))
  told : (words : List ℕ) → hex_words text ≡ Ok words → DisAnswer text (Lines words)
