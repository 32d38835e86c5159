-- What the word of an instruction of both units holds agrees with what its line names.
use Rattle.std.proofs.Common.{◌≡◌, ℕ, Bool, true, false, refl, sym, ap, ◌∙◌, arith}
use Rattle.std.proofs.lemmas.Bool.Decides.{nat_tests}
use Rattle.std.specs.Prelude.{◌==◌, ◌&&◌, ◌||◌, not, nat_lt, nat_le, Some, None, if◌then◌else◌}
use Rattle.qpu_word.specs.declared.name.Place.{Place}
use Rattle.qpu_word.specs.declared.name.Place.TheVariants.{Both, FileA as InA, FileB as InB}
use Rattle.qpu_word.specs.Canonical.{file_matters}
use Rattle.qpu_line.specs.declared.operand.Operand.{Operand}
use Rattle.qpu_line.specs.declared.operand.Operand.TheVariants.{Accumulator, FileA, FileB, Small}
use Rattle.qpu_line.specs.declared.units.Signal.{Signal}
use Rattle.qpu_line.specs.declared.units.Signal.TheVariants.{Nothing, End, Load0, Load1, Rotate}
use Rattle.qpu_line.specs.declared.slots.UnitFields.{UnitFields}
use Rattle.qpu_line.specs.Targets.{target_at_address, address_of, in_file_a, in_file_b}
use Rattle.qpu_line.specs.Units.{signal_of, other_read}
use Rattle.qpu_line.specs.Worded.{IsTarget}
use Rattle.qpu_line.specs.Both.{IsOperand}
use Rattle.qpu_line.specs.Named.{IsNamedOperand, is_turned}
use Rattle.qpu_asm.specs.Clashes.{cross}
use Rattle.qpu_asm.proofs.AgainMarks.{Given}
use Rattle.qpu_asm.proofs.AgainSources.{Holds}

-- targets

file_a_of : (matters in_b : Bool) (a : ℕ) → in_file_a (if matters then (if in_b then InB a else InA a) else Both a) ≡ (matters && not in_b)
file_a_of true true a = refl
file_a_of true false a = refl
file_a_of false in_b a = refl

file_b_of : (matters in_b : Bool) (a : ℕ) → in_file_b (if matters then (if in_b then InB a else InA a) else Both a) ≡ (matters && in_b)
file_b_of true true a = refl
file_b_of true false a = refl
file_b_of false in_b a = refl

a_held : (in_b : Bool) (p : Place) → IsTarget in_b p → in_file_a p ≡ (file_matters (address_of p) && not in_b)
unfolding target_at_address
a_held in_b p is = ap in_file_a (sym is) ∙ file_a_of (file_matters (address_of p)) in_b (address_of p)

b_held : (in_b : Bool) (p : Place) → IsTarget in_b p → in_file_b p ≡ (file_matters (address_of p) && in_b)
unfolding target_at_address
b_held in_b p is = ap in_file_b (sym is) ∙ file_b_of (file_matters (address_of p)) in_b (address_of p)

crossed : (m n e : Bool) → (((m && not e) && (n && not (not e))) || ((m && e) && (n && not e))) ≡ false
crossed true true true = refl
crossed true true false = refl
crossed true false true = refl
crossed true false false = refl
crossed false n e = refl

pub no_cross : (e : Bool) (p q : Place) → IsTarget e p → IsTarget (not e) q → cross p q ≡ false
no_cross e p q is other =
    rw (a_held e p is, b_held e p is, a_held (not e) q other, b_held (not e) q other) (crossed (file_matters (address_of p)) (file_matters (address_of q)) e)

-- signals

abbrev pub is_rotation : Signal → Bool
is_rotation Nothing = false
is_rotation End = false
is_rotation Load0 = false
is_rotation Load1 = false
is_rotation (Rotate code) = true

abbrev pub is_plain_signal : Signal → Bool
is_plain_signal Nothing = false
is_plain_signal End = true
is_plain_signal Load0 = true
is_plain_signal Load1 = true
is_plain_signal (Rotate code) = false

rotation_facts : (sig code : ℕ) (a b c d : Bool) → (sig == 13) ≡ d
    → is_rotation (if a then End else if b then Load0 else if c then Load1 else if d && nat_le 48 code then Rotate code else Nothing) ≡ true
    → (d ≡ true) × (nat_le 48 code ≡ true)
rotation_facts sig code true b c d e h = absurd cc
rotation_facts sig code false true c d e h = absurd cc
rotation_facts sig code false false true d e h = absurd cc
rotation_facts sig code false false false false e h = absurd cc
rotation_facts sig code false false false true e h = (refl, rotates (nat_le 48 code) h)
  where
    rotates : (b : Bool) → is_rotation (if b then Rotate code else Nothing) ≡ true → b ≡ true
    rotates true h = refl
    rotates false h = absurd cc

pub rotation_held : (sig code : ℕ) (signal : Signal) → signal_of sig code ≡ signal → is_rotation signal ≡ true → ((sig == 13) ≡ true) × (nat_le 48 code ≡ true)
unfolding signal_of
rotation_held sig code signal e h =
    let turned : is_rotation (signal_of sig code) ≡ true = ap is_rotation e ∙ h in
    rotation_facts sig code (sig == 3) (sig == 10) (sig == 11) (sig == 13) refl turned

other_than : (n m : ℕ) → (n == m) ≡ true → (m == 13) ≡ false → (n == 13) ≡ false
other_than n m e f = let is : n ≡ m = grind (arith, nat_tests, e) in rw is f

signal_facts : (sig code : ℕ) (a b c d : Bool) → (sig == 3) ≡ a → (sig == 10) ≡ b → (sig == 11) ≡ c
    → is_plain_signal (if a then End else if b then Load0 else if c then Load1 else if d then Rotate code else Nothing) ≡ true → (sig == 13) ≡ false
signal_facts sig code true b c d e f g h = other_than sig 3 e refl
signal_facts sig code false true c d e f g h = other_than sig 10 f refl
signal_facts sig code false false true d e f g h = other_than sig 11 g refl
signal_facts sig code false false false true e f g h = absurd cc
signal_facts sig code false false false false e f g h = absurd cc

pub signal_held : (sig code : ℕ) (signal : Signal) → signal_of sig code ≡ signal → is_plain_signal signal ≡ true → (sig == 13) ≡ false
unfolding signal_of
signal_held sig code signal e h =
    let plain : is_plain_signal (signal_of sig code) ≡ true = ap is_plain_signal e ∙ h in
    signal_facts sig code (sig == 3) (sig == 10) (sig == 11) ((sig == 13) && nat_le 48 code) refl refl refl plain

-- what the word holds
abbrev pub given_of : UnitFields → Bool → Bool → Given
given_of s adds turns = record { small = (s.sig == 13); a = s.raddr_a; unpack = s.unpack; b = s.raddr_b; adds = adds; turns = turns }

-- a rotation stands beside accumulators alone
still_by : (b : Bool) → (b ≡ true → ⊥) → b ≡ false
still_by true h = absurd (h refl)
still_by false h = refl

low_turned : (n : ℕ) (mul : Bool) → (mul && nat_lt 3 n) ≡ true → (mul ≡ true → nat_lt n 4 ≡ true) → ⊥
low_turned n true far near = let low : nat_lt n 4 ≡ true = near refl in grind (arith, nat_tests, far, low)
low_turned n false far near = cc

pub holds_of : (s : UnitFields) (adds turns mul : Bool) (o : Operand) → IsOperand s o → IsNamedOperand o → (turns ≡ true → mul ≡ true → is_turned o ≡ true)
    → (turns ≡ true → nat_le 48 s.raddr_b ≡ true) → Holds (given_of s adds turns) mul o
holds_of s adds turns mul (Accumulator n) is named turned far = λ high. still_by turns (λ t. low_turned n mul high (turned t))
holds_of s adds turns mul (FileA n u) is named turned far = (is.0, is.1, named.1, λ m. still_by turns (λ t. let no : false ≡ true = turned t m in cc))
holds_of s adds turns mul (FileB n) is named turned far = (is.0, is.1, λ m. still_by turns (λ t. let no : false ≡ true = turned t m in cc))
holds_of s adds turns mul (Small code) is named turned far =
    (is.0, is.1, named, still_by turns (λ t. let high : nat_le 48 code ≡ true = rw is.0 at (far t) in grind (arith, nat_tests, high, named)))

-- other reads

pub other_held : (named : Bool) (address n : ℕ) → other_read named address ≡ Some n → (named ≡ false) × (address ≡ n)
other_held named address n e = by named (address == 39) e
  where
    by : (a b : Bool) → (if a || b then None else Some address) ≡ Some n → (a ≡ false) × (address ≡ n)
    by true b e = absurd cc
    by false true e = absurd cc
    by false false e = (refl, cc)

pub both_false : (x y : Bool) → (x || y) ≡ false → (x ≡ false) × (y ≡ false)
both_false true y h = absurd cc
both_false false y h = (refl, h)
