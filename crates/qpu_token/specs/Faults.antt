-- The first fault of a text's tokens: lines are judged in order, and in one line a byte that begins no
-- word before a number that is too large. This project's own.
use Rattle.std.specs.Prelude.{◌≡◌, ℕ, ◌<◌, ◌⊎◌, false, List, ◌∷◌, ◌++◌, length, drop, All}
use Rattle.qpu_token.specs.declared.fault.AsmKind.{AsmKind}
use Rattle.qpu_token.specs.declared.fault.AsmKind.TheVariants.{BadByte, NumberTooLarge, Memory}
use Rattle.qpu_token.specs.declared.fault.AsmFault.{AsmFault}
use Rattle.qpu_token.specs.declared.token.Token.{Token}
use Rattle.qpu_token.specs.declared.piece.Shape.TheVariants.{LineEnd}
use Rattle.qpu_token.specs.declared.before.Before.TheVariants.{Other}
use Rattle.qpu_token.specs.Places.{place_at}
use Rattle.qpu_token.specs.Tokens.{dotted, Begins, NothingBegins, Cut, before_of, fits, AllFit}

abbrev pub InLine : ℕ → List Token → Type 0
InLine line tokens = All (λ token. token.line ≡ line) tokens

-- no word begins at a place, and every number of the lines before it fits
pub record IsBadByte (text : List ℕ) (line column : ℕ) : Type 0 where
  pub front : List Token
  pub back : List Token
  pub at : ℕ
  pub cut : Cut text (front ++ back) at
  pub fit : AllFit text Other front
  pub same_line : InLine line back
  pub some : at < length text
  pub nothing : NothingBegins (dotted text at) (drop at text)
  pub place : place_at text at ≡ record { line = line; column = column }

-- the text's end, or that of a line
abbrev pub IsLineDone : List ℕ → ℕ → Type 0
IsLineDone text at = (at ≡ length text) ⊎ ((n : ℕ) × Begins (dotted text at) LineEnd n (drop at text))

-- a number doesn't fit, all before it do, and its line has a word at every place
pub record IsTooLarge (text : List ℕ) (line column : ℕ) : Type 0 where
  pub front : List Token
  pub token : Token
  pub back : List Token
  pub at : ℕ
  pub cut : Cut text (front ++ token ∷ back) at
  pub fit : AllFit text Other front
  pub large : fits (before_of text Other front) token.kind ≡ false
  pub same_line : InLine line (token ∷ back)
  pub done : IsLineDone text at
  pub column_is : token.column ≡ column

-- the first fault of a text's tokens; want of memory, which is free, has no place
abbrev pub FaultOf : List ℕ → AsmKind → ℕ → ℕ → Type 0
FaultOf text BadByte line column = IsBadByte text line column
FaultOf text NumberTooLarge line column = IsTooLarge text line column
FaultOf text Memory line column = (line ≡ 0) × (column ≡ 0)
FaultOf text _ line column = ⊥

abbrev pub IsFirstFault : List ℕ → AsmFault → Type 0
IsFirstFault text fault = FaultOf text fault.kind fault.line fault.column
