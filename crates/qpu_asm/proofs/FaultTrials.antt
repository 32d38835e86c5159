-- The table of faults, tried on worked lines: each row is a token that the table tells, by its own rule.
use Rattle.std.proofs.Common.{ℕ, List, [], ◌∷◌, None, map, refl}
use Rattle.qpu_token.specs.declared.token.Token.{Token}
use Rattle.qpu_token.specs.declared.fault.AsmKind.TheVariants as kind
use Rattle.qpu_word.specs.declared.operation.AddOp.TheVariants as add
use Rattle.qpu_word.specs.declared.name.Place.TheVariants as place
use Rattle.qpu_word.specs.Operands.{small_value}
use Rattle.qpu_line.specs.declared.name.Name.TheVariants as name
use Rattle.qpu_line.specs.declared.name.Register.TheVariants as register
use Rattle.qpu_line.specs.declared.symbol.Symbol.{Symbol}
use Rattle.qpu_line.specs.declared.symbol.Symbol.TheVariants as symbol
use Rattle.qpu_asm.specs.declared.mark.What.TheVariants as what
use Rattle.qpu_asm.specs.declared.judge.Judged.TheVariants as judged
use Rattle.qpu_asm.specs.Roles.{code_of}
use Rattle.qpu_asm.specs.Faults.{Faulty}
use Rattle.qpu_asm.specs.Faults.FaultyPart.{off_form, off_place, no_mnemonic, meant_so}
use Rattle.qpu_asm.specs.Faults.Faulty.{head, plain}
use Rattle.qpu_asm.specs.declared.placed.Placed.{Placed}
use Rattle.qpu_asm.proofs.SpellsTrials.{r, or_symbols, brr_symbols, sinc_symbols}

abbrev line : Token → List Symbol → List Placed
line token ss = map (λ s. record { symbol = s; token = token; label = None }) ss

abbrev ra : ℕ → Symbol
ra n = symbol.Name (name.Register (register.RowA n))

-- Shape

-- or r0 r1: a comma is due at r1
pub no_comma : (end token : Token) → Faulty end (line token (symbol.Name (name.Add add.Or) ∷ r 0 ∷ r 1 ∷ [])) kind.Shape 0 2
no_comma end token = plain refl (off_form refl)

-- or r0, r1: a second operand is due, at the line's end
pub no_operand : (end token : Token) → Faulty end (line token (symbol.Name (name.Add add.Or) ∷ r 0 ∷ symbol.Comma ∷ r 1 ∷ [])) kind.Shape 0 4
no_operand end token = plain refl (off_form refl)

-- nop; nop; nop: there is no third unit
pub third_nop : (end token : Token) → Faulty end (line token (symbol.Name name.Nop ∷ symbol.Semicolon ∷ symbol.Name name.Nop ∷ symbol.Semicolon ∷ symbol.Name name.Nop ∷ [])) kind.Shape 2 0
third_nop end token = plain refl (off_place refl (refl, refl))

-- .word r0: a number is due
pub no_number : (end token : Token) → Faulty end (line token (symbol.Dot ∷ symbol.Name name.Word ∷ r 0 ∷ [])) kind.Shape 0 2
no_number end token = head refl

-- UnknownOp

-- frob r0
pub no_operation : (end token : Token) → Faulty end (line token (symbol.Unknown ∷ r 0 ∷ [])) kind.UnknownOp 0 0
no_operation end token = plain refl (no_mnemonic (refl, refl))

-- Operands

-- or r0, r1.setf, r2: `.setf` stands at no operand
pub no_unpack : (end token : Token) → Faulty end (line token (symbol.Name (name.Add add.Or) ∷ r 0 ∷ symbol.Comma ∷ r 1 ∷ symbol.Dot ∷ symbol.Name name.SetFlags ∷ symbol.Comma ∷ r 2 ∷ [])) kind.Operands 0 4
no_unpack end token = plain refl (meant_so judged.Operands (record { before = ((0, 0), what.Adds) ∷ ((0, 1), what.Writes (place.Both 32)) ∷ []; meant = what.Wrong; behind = []; among = refl; faulty = refl }))

-- TwoImmediates

-- or r0, 1, 2
pub two_numbers : (end token : Token) → Faulty end (line token or_symbols) kind.TwoImmediates 0 5
unfolding code_of small_value
two_numbers end token =
    plain refl
    (meant_so judged.TwoImmediates
    (record { before = ((0, 0), what.Adds) ∷ ((0, 1), what.Writes (place.Both 32)) ∷ ((0, 3), what.Number 1) ∷ []; meant = what.Number 2; behind = []; among = refl; faulty = refl }))

-- TwoReads

-- or r0, ra1, ra2
pub two_rows : (end token : Token) → Faulty end (line token (symbol.Name (name.Add add.Or) ∷ r 0 ∷ symbol.Comma ∷ ra 1 ∷ symbol.Comma ∷ ra 2 ∷ [])) kind.TwoReads 0 5
two_rows end token =
    plain refl
    (meant_so judged.TwoReads
    (record {
      before = ((0, 0), what.Adds) ∷ ((0, 1), what.Writes (place.Both 32)) ∷ ((0, 3), what.ReadsA 1) ∷ ((0, 3), what.Unpacks 1 0) ∷ [];
      meant = what.ReadsA 2;
      behind = ((0, 5), what.Unpacks 2 0) ∷ [];
      among = refl;
      faulty = refl;
    }))

-- Label

-- brr -, :x without a label x
pub no_word : (end token : Token) → Faulty end (line token brr_symbols) kind.Label 0 4
no_word end token = plain refl (meant_so judged.Label (record { before = ((0, 1), what.Writes (place.Both 39)) ∷ []; meant = what.Missing; behind = []; among = refl; faulty = refl }))

-- Range

-- sinc 16
pub sixteenth : (end token : Token) → Faulty end (line token sinc_symbols) kind.Range 0 1
sixteenth end token = plain refl (meant_so judged.Range (record { before = []; meant = what.Far; behind = []; among = refl; faulty = refl }))
