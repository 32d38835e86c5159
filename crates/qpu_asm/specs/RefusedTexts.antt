-- Why a text has no words: its first fault, of its tokens, of its expansion, or of the first of its lines that
-- spells none. This project's own.
use Rattle.std.specs.Prelude.{◌≡◌, ◌≢◌, ℕ, List, ◌∷◌, ◌++◌, Ok, Err}
use Rattle.qpu_token.specs.declared.token.Token.{Token}
use Rattle.qpu_token.specs.declared.fault.AsmKind.TheVariants.{Memory}
use Rattle.qpu_token.specs.declared.fault.AsmFault.{AsmFault}
use Rattle.qpu_token.specs.Tokens.{AreTokens}
use Rattle.qpu_token.specs.Faults.{IsFirstFault as IsFirstOfTokens}
use Rattle.qpu_expr.specs.Expansion.{Left, expansion}
use Rattle.qpu_asm.specs.Placed.{Labels}
use Rattle.qpu_asm.specs.Assembly.{labels_of, closing_token}
use Rattle.qpu_asm.specs.SpelledTexts.{placed_line, SpellWords}
use Rattle.qpu_asm.specs.Faults.{IsFirstFault}

-- the first of some lines, from a place on, that spells no word, with its fault by the table
pub record IsFirstRefused (text : List ℕ) (labels : Labels) (at : ℕ) (lines : List (List Token)) (fault : AsmFault) : Type 0 where
  pub before : List (List Token)
  pub line : List Token
  pub after : List (List Token)
  pub words : List ℕ
  pub whole : lines ≡ before ++ line ∷ after
  pub spell : SpellWords text labels at before words
  pub faulty : IsFirstFault (closing_token line) (placed_line text labels line) fault

-- a text and its first fault
pub data RefusesText (text : List ℕ) (fault : AsmFault) : Type 0 where
  of_tokens : IsFirstOfTokens text fault → fault.kind ≢ Memory → RefusesText text fault
  of_expansion : {tokens : List Token} → AreTokens text tokens → expansion text tokens ≡ Err fault → RefusesText text fault
  of_line : {tokens : List Token} {left : Left} → AreTokens text tokens → expansion text tokens ≡ Ok left
      → IsFirstRefused text (labels_of text left.labels) 0 left.lines fault → RefusesText text fault
