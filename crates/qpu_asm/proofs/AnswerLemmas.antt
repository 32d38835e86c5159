-- What is answered for a text, from what its stages answer.
use Rattle.std.proofs.Common.{◌≡◌, ℕ, List, sym, ap, refl, Ok, Bool, true, false, true≢false, inl, inr}
use Rattle.qpu_token.specs.declared.token.Token.{Token}
use Rattle.qpu_token.specs.declared.fault.AsmKind.{AsmKind}
use Rattle.qpu_token.specs.declared.fault.AsmKind.TheVariants as kind
use Rattle.qpu_token.specs.declared.fault.AsmFault.{AsmFault}
use Rattle.qpu_token.specs.Tokens.{AreTokens}
use Rattle.qpu_token.specs.Faults.{FaultOf, IsFirstFault}
use Rattle.qpu_expr.specs.Expansion.{Left, expansion}
use Rattle.qpu_expr.specs.Answer.{IsItsFault as IsExpansionFault}
use Rattle.qpu_token.specs.declared.stop.Stop.{Stop}
use Rattle.qpu_token.specs.declared.stop.Stop.TheVariants.{Fault, Memory}
use Rattle.qpu_token.specs.Stops.{answered, StopsBy}
use Rattle.qpu_asm.specs.Assembly.{encoding, IsAssembly, IsItsFault}

abbrev is_memory : AsmKind → Bool
is_memory kind.Memory = true
is_memory _ = false

-- the first fault of tokens is the text's
by_kind : (text : List ℕ) (k : AsmKind) (line column : ℕ) → FaultOf text k line column → IsItsFault text (record { kind = k; line = line; column = column })
by_kind text kind.BadByte line column f = inr (IsAssembly.faulty f (λ e. true≢false (sym (ap is_memory e))))
by_kind text kind.NumberTooLarge line column f = inr (IsAssembly.faulty f (λ e. true≢false (sym (ap is_memory e))))
by_kind text kind.Memory line column f = inl (rw (f.0, f.1) refl)
by_kind text _ line column f = elim f [ ]

pub token_fault : (text : List ℕ) (fault : AsmFault) → IsFirstFault text fault → IsItsFault text fault
token_fault text fault f = by_kind text fault.kind fault.line fault.column f

-- a fault of the expansion is the text's
pub expansion_fault : (text : List ℕ) (tokens : List Token) (fault : AsmFault) → AreTokens text tokens → IsExpansionFault (expansion text tokens) fault → IsItsFault text fault
expansion_fault text tokens fault t (inl e) = inl e
expansion_fault text tokens fault t (inr e) = inr (IsAssembly.read t (rw e refl))

-- the words of what is left are the text's, and its fault is the text's
pub words_due : (text : List ℕ) (tokens : List Token) (left : Left) (words : List ℕ) → AreTokens text tokens → expansion text tokens ≡ Ok left → encoding text left ≡ Ok words → IsAssembly text (Ok words)
words_due text tokens left words t e w = IsAssembly.read t (rw e w)

pub stop_due : (text : List ℕ) (tokens : List Token) (left : Left) (stop : Stop) → AreTokens text tokens → expansion text tokens ≡ Ok left → StopsBy (encoding text left) stop → IsItsFault text (answered stop)
stop_due text tokens left (Fault fault) t e s = inr (IsAssembly.read t (rw e s))
stop_due text tokens left Memory t e s = inl refl
