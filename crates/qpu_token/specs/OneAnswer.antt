-- A text has one answer: its tokens, or its first fault.
use Rattle.std.specs.Prelude.{◌≡◌, ◌≢◌, ℕ, List, Result, Ok, Err}
use Rattle.qpu_token.specs.declared.token.Token.{Token}
use Rattle.qpu_token.specs.declared.fault.AsmFault.{AsmFault}
use Rattle.qpu_token.specs.declared.fault.AsmKind.TheVariants.{Memory}
use Rattle.qpu_token.specs.Tokens.{AreTokens}
use Rattle.qpu_token.specs.Faults.{IsFirstFault}

-- the answer for a text, want of memory aside
abbrev pub IsAnswer : List ℕ → Result (List Token) AsmFault → Type 0
IsAnswer text (Ok tokens) = AreTokens text tokens
IsAnswer text (Err fault) = IsFirstFault text fault × (fault.kind ≢ Memory)

-- two answers for a text are the same
abbrev pub HasOneAnswer : Type 0
HasOneAnswer = (text : List ℕ) (a b : Result (List Token) AsmFault) → IsAnswer text a → IsAnswer text b → a ≡ b
