-- Signals, rotations and other reads of a line in which no fault is found.
use Rattle.std.proofs.Common.{◌≡◌, ℕ, ◌+◌, ◌%◌, ◌<◌, inl, Bool, true, false, List, [], ◌∷◌, Option, Some, None, refl, arith}
use Rattle.std.specs.Prelude.{nat_lt, nat_le, IfSome, if◌then◌else◌}
use Rattle.std.specs.List.{list_any}
use Rattle.std.proofs.lemmas.Bool.Decides.{nat_tests}
use Rattle.qpu_token.specs.declared.token.Token.{Token}
use Rattle.qpu_word.specs.Words.{between}
use Rattle.qpu_line.specs.declared.operand.Operand.{Operand}
use Rattle.qpu_line.specs.declared.operand.Operand.TheVariants as operand
use Rattle.qpu_line.specs.declared.units.Signal.{Signal}
use Rattle.qpu_line.specs.declared.units.Signal.TheVariants as signal
use Rattle.qpu_line.specs.Named.{is_source, IsOther}
use Rattle.qpu_asm.specs.declared.piece.Core.{Core}
use Rattle.qpu_asm.specs.declared.piece.Core.TheVariants as core
use Rattle.qpu_asm.specs.declared.part.Part.{Part}
use Rattle.qpu_asm.specs.declared.part.Part.TheVariants as part
use Rattle.qpu_asm.specs.declared.mark.What.{What}
use Rattle.qpu_asm.specs.declared.mark.What.TheVariants as what
use Rattle.qpu_asm.specs.declared.mark.Mark.{Mark}
use Rattle.qpu_asm.specs.reader.Marks.{mark, source_in, is_r5, rotation_marks, other_a, other_b, part_marks}
use Rattle.qpu_asm.specs.reader.Orders.{is_rotation}
use Rattle.qpu_asm.specs.reader.Meanings.{number_of, signal_in, address_a, address_b, address_of_source, other_a_part, other_b_part, first_told}
use Rattle.qpu_asm.proofs.GoodNames.{IsPlain, source_good}
use Rattle.qpu_asm.proofs.MarkLemmas.{Has}
use Rattle.qpu_asm.proofs.ProperParts.{Each, GoodCore, IsPlainSignal, GoodPart}
use Rattle.qpu_asm.proofs.GrowLemmas.{grown_old, grows_rotation, later_marks, later_first, later_rest}
use Rattle.qpu_asm.proofs.TestLemmas.{some_or}

-- signals

abbrev pub SignalSaid : List Mark → Signal → Type 0
SignalSaid U signal.Nothing = Unit {0}
SignalSaid U signal.End = Has what.Signals U
SignalSaid U signal.Load0 = Has what.Signals U
SignalSaid U signal.Load1 = Has what.Signals U
SignalSaid U (signal.Rotate code) = Has what.Rotates U × (between 48 code 63 ≡ true)

quiet_said : (U : List Mark) (s : Signal) → IsPlainSignal s → Has what.Signals U → SignalSaid U s
quiet_said U signal.Nothing quiet has = tt
quiet_said U signal.End quiet has = has
quiet_said U signal.Load0 quiet has = has
quiet_said U signal.Load1 quiet has = has
quiet_said U (signal.Rotate code) quiet has = absurd quiet

rotation_by : (b : Bool) (n : ℕ) → between 48 (if b then 48 else 48 + n % 16) 63 ≡ true
rotation_by true n = refl
rotation_by false n = let low : n % 16 < 16 = omega arith in near (n % 16) low
  where
    near : (k : ℕ) → k < 16 → between 48 (48 + k) 63 ≡ true
    near k low = grind (arith, nat_tests)

pub signal_told : (U : List Mark) (later : List Part) → Each GoodPart later → ((w : What) → Has w (later_marks later) → Has w U) → SignalSaid U (signal_in later)
unfolding part_marks
signal_told U [] good inside = tt
signal_told U (part.Signal s token ∷ later) good inside =
    quiet_said U s good.0 (inside what.Signals (later_first what.Signals (part.Signal s token) later (inl refl)))
signal_told U (part.Rotate token p ∷ later) good inside = (
  inside what.Rotates (later_first what.Rotates (part.Rotate token p) later (grown_old (rotation_marks p) (grows_rotation p) what.Rotates (mark what.Rotates token []) (inl refl))),
  rotation_by (is_r5 p.core) (number_of p.core),
)
signal_told U (part.Nop ∷ later) good inside = signal_told U later good.1 (λ w has. inside w (later_rest w part.Nop later has))
signal_told U (part.Unit u ∷ later) good inside = signal_told U later good.1 (λ w has. inside w (later_rest w (part.Unit u) later has))
signal_told U (part.Load l ∷ later) good inside = signal_told U later good.1 (λ w has. inside w (later_rest w (part.Load l) later has))
signal_told U (part.Also a ∷ later) good inside = signal_told U later good.1 (λ w has. inside w (later_rest w (part.Also a) later has))
signal_told U (part.Increment p ∷ later) good inside = signal_told U later good.1 (λ w has. inside w (later_rest w (part.Increment p) later has))
signal_told U (part.Decrement p ∷ later) good inside = signal_told U later good.1 (λ w has. inside w (later_rest w (part.Decrement p) later has))
signal_told U (part.Branch b ∷ later) good inside = signal_told U later good.1 (λ w has. inside w (later_rest w (part.Branch b) later has))
signal_told U (part.Link p ∷ later) good inside = signal_told U later good.1 (λ w has. inside w (later_rest w (part.Link p) later has))
signal_told U (part.Row p ∷ later) good inside = signal_told U later good.1 (λ w has. inside w (later_rest w (part.Row p) later has))
signal_told U (part.ReadA p ∷ later) good inside = signal_told U later good.1 (λ w has. inside w (later_rest w (part.ReadA p) later has))
signal_told U (part.ReadB p ∷ later) good inside = signal_told U later good.1 (λ w has. inside w (later_rest w (part.ReadB p) later has))

-- a rotation is one of the parts
abbrev pub is_turn : Signal → Bool
is_turn (signal.Rotate code) = true
is_turn _ = false

quiet_turn : (s : Signal) → IsPlainSignal s → is_turn s ≡ true → ⊥
quiet_turn (signal.Rotate code) quiet turn = quiet
quiet_turn _ quiet turn = grind (arith, turn)

pub turn_there : (later : List Part) → Each GoodPart later → is_turn (signal_in later) ≡ true → list_any is_rotation later ≡ true
turn_there [] good turn = absurd (grind (arith, turn))
turn_there (part.Signal s token ∷ later) good turn = absurd (quiet_turn s good.0 turn)
turn_there (part.Rotate token p ∷ later) good turn = refl
turn_there (part.Nop ∷ later) good turn = turn_there later good.1 turn
turn_there (part.Unit u ∷ later) good turn = turn_there later good.1 turn
turn_there (part.Load l ∷ later) good turn = turn_there later good.1 turn
turn_there (part.Also a ∷ later) good turn = turn_there later good.1 turn
turn_there (part.Increment p ∷ later) good turn = turn_there later good.1 turn
turn_there (part.Decrement p ∷ later) good turn = turn_there later good.1 turn
turn_there (part.Branch b ∷ later) good turn = turn_there later good.1 turn
turn_there (part.Link p ∷ later) good turn = turn_there later good.1 turn
turn_there (part.Row p ∷ later) good turn = turn_there later good.1 turn
turn_there (part.ReadA p ∷ later) good turn = turn_there later good.1 turn
turn_there (part.ReadB p ∷ later) good turn = turn_there later good.1 turn

-- other reads

pub record OtherSaid (reading : ℕ → What) (U : List Mark) (n : ℕ) : Type 0 where
  pub fits : IsOther n
  pub told : Has (reading n) U

far_source : (n : ℕ) → is_source n ≡ true → nat_lt n 32 ≡ false → IsOther n
far_source n source far = let e : nat_le 32 n ≡ true = grind (arith, nat_tests, far) in rw (source, e) refl

other_by : (reading : ℕ → What) (n : ℕ) (b : Bool) (token : Token) (U : List Mark) → nat_lt n 32 ≡ b → is_source n ≡ true
    → ((w : What) → Has w (mark (if b then what.Wrong else reading n) token []) → Has w U) → (Has what.Wrong U → ⊥) → OtherSaid reading U n
other_by reading n true token U is source inside right = absurd (right (inside what.Wrong (inl refl)))
other_by reading n false token U is source inside right = record { fits = far_source n source is; told = inside (reading n) (inl refl) }

a_by : (o : Option Operand) (token : Token) (U : List Mark) → IfSome o IsPlain → ((w : What) → Has w (other_a o token []) → Has w U) → (Has what.Wrong U → ⊥)
    → IfSome (address_of_source address_a o) (OtherSaid what.ReadsA U)
a_by None token U plain inside right = tt
a_by (Some (operand.FileA n unpack)) token U plain inside right = other_by what.ReadsA n (nat_lt n 32) token U refl plain inside right
a_by (Some (operand.Accumulator n)) token U plain inside right = tt
a_by (Some (operand.FileB n)) token U plain inside right = tt
a_by (Some (operand.Small code)) token U plain inside right = tt

b_by : (o : Option Operand) (token : Token) (U : List Mark) → IfSome o IsPlain → ((w : What) → Has w (other_b o token []) → Has w U) → (Has what.Wrong U → ⊥)
    → IfSome (address_of_source address_b o) (OtherSaid what.ReadsB U)
b_by None token U plain inside right = tt
b_by (Some (operand.FileB n)) token U plain inside right = other_by what.ReadsB n (nat_lt n 32) token U refl plain inside right
b_by (Some (operand.Accumulator n)) token U plain inside right = tt
b_by (Some (operand.FileA n unpack)) token U plain inside right = tt
b_by (Some (operand.Small code)) token U plain inside right = tt

source_plain : (c : Core) → GoodCore c → IfSome (source_in c) IsPlain
source_plain (core.Name n) good = source_good n good
source_plain (core.Number n) good = tt
source_plain core.Unknown good = tt
source_plain core.Nowhere good = tt
source_plain (core.Label at) good = tt

a_part : (p : Part) (U : List Mark) → GoodPart p → ((w : What) → Has w (part_marks true [] p) → Has w U) → (Has what.Wrong U → ⊥) → IfSome (other_a_part p) (OtherSaid what.ReadsA U)
unfolding part_marks
a_part (part.ReadA p) U good inside right = a_by (source_in p.core) p.token U (source_plain p.core good.core) inside right
a_part _ U good inside right = tt

b_part : (p : Part) (U : List Mark) → GoodPart p → ((w : What) → Has w (part_marks true [] p) → Has w U) → (Has what.Wrong U → ⊥) → IfSome (other_b_part p) (OtherSaid what.ReadsB U)
unfolding part_marks
b_part (part.ReadB p) U good inside right = b_by (source_in p.core) p.token U (source_plain p.core good.core) inside right
b_part _ U good inside right = tt

pub other_a_told : (U : List Mark) (later : List Part) → Each GoodPart later → ((w : What) → Has w (later_marks later) → Has w U) → (Has what.Wrong U → ⊥)
    → IfSome (first_told other_a_part later) (OtherSaid what.ReadsA U)
other_a_told U [] good inside right = tt
other_a_told U (p ∷ later) good inside right =
    some_or (OtherSaid what.ReadsA U) (other_a_part p) (first_told other_a_part later)
    (a_part p U good.0 (λ w has. inside w (later_first w p later has)) right) (other_a_told U later good.1 (λ w has. inside w (later_rest w p later has)) right)

pub other_b_told : (U : List Mark) (later : List Part) → Each GoodPart later → ((w : What) → Has w (later_marks later) → Has w U) → (Has what.Wrong U → ⊥)
    → IfSome (first_told other_b_part later) (OtherSaid what.ReadsB U)
other_b_told U [] good inside right = tt
other_b_told U (p ∷ later) good inside right =
    some_or (OtherSaid what.ReadsB U) (other_b_part p) (first_told other_b_part later)
    (b_part p U good.0 (λ w has. inside w (later_first w p later has)) right) (other_b_told U later good.1 (λ w has. inside w (later_rest w p later has)) right)
