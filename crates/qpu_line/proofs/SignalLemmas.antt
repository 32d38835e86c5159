-- Signals and rotations that a line can name, in tests of the fields of their word.
use Rattle.std.proofs.Common.{◌≡◌, ℕ, ◌<◌, Bool, true, false, refl, subst, arith}
use Rattle.std.specs.Prelude.{◌==◌, ◌||◌, ◌&&◌, not, nat_lt, nat_le, if◌then◌else◌, Option, Some, None, IsSomeAnd}
use Rattle.std.proofs.lemmas.Bool.Decides.{nat_tests}
use Rattle.qpu_line.specs.declared.part.Part.{Part}
use Rattle.qpu_line.specs.declared.units.Signal.{Signal}
use Rattle.qpu_line.specs.declared.units.Signal.TheVariants.{Rotate}
use Rattle.qpu_line.specs.declared.slots.UnitFields.{UnitFields}
use Rattle.qpu_line.specs.Units.{operand_of, part_of, part_uses, any_uses, signal_of, over, signal_code, small_signal}
use Rattle.qpu_line.specs.Named.{is_turned, CanTurn, IsNamedSignal}
use Rattle.qpu_line.proofs.UnitLemmas.{idle, signal_used}
use Rattle.qpu_line.proofs.UnitLaw.{mul_part}
use Rattle.qpu_line.proofs.BothLaw.{IsWhole}
use Rattle.qpu_line.proofs.SaidLemmas.{acts}
use Rattle.qpu_line.proofs.SourceLemmas.{all_sources}
use Rattle.qpu_line.proofs.NamedLemmas.{ComesBack, IsNamedBy, mul_there, acts_is}

-- a small immediate's code of 48 or more rotates
rotation_at : (s : UnitFields) → (s.sig == 13) ≡ true → nat_le 48 s.raddr_b ≡ true → signal_of s.sig s.raddr_b ≡ Rotate s.raddr_b
unfolding signal_of
rotation_at s small far = let e : s.sig ≡ 13 = grind (arith, nat_tests, small) in rw (e, far) refl

turns_by : (signal : Signal) (code : ℕ) (mul : Option Part) → signal ≡ Rotate code → IsNamedSignal signal mul → IsSomeAnd mul CanTurn
turns_by signal code mul is named = let P : Signal → Type 0 = λ g. IsNamedSignal g mul in (subst P is named).1

turning : (nothing : Bool) (p : Part) → IsSomeAnd (if nothing then None else Some p) CanTurn → (nothing ≡ false) × CanTurn p
turning true p turns = absurd turns
turning false p turns = (refl, turns)

turns : (s : UnitFields) → IsNamedBy s → (s.sig == 13) ≡ true → nat_le 48 s.raddr_b ≡ true → (idle s.op_mul s.cond_mul ≡ false) × CanTurn (mul_there s)
unfolding part_of
turns s n small far =
    turning (idle s.op_mul s.cond_mul) (mul_there s) (turns_by (signal_of s.sig s.raddr_b) s.raddr_b (mul_part s) (rotation_at s small far) n.signal)

-- its operands are accumulators below r4
low_by : (s : UnitFields) (x : ℕ) (low six small : Bool) → nat_lt x 6 ≡ low → (x == 6) ≡ six → (s.sig == 13) ≡ small → is_turned (operand_of s x) ≡ true → nat_lt 3 x ≡ false
low_by s x true six small is_low is_six is_small turned = let near : nat_lt x 4 ≡ true = rw is_low at turned in grind (arith, nat_tests, near)
low_by s x false true small is_low is_six is_small turned = let no : false ≡ true = rw (is_low, is_six) at turned in absurd (grind (arith, no))
low_by s x false false true is_low is_six is_small turned = let no : false ≡ true = rw (is_low, is_six, is_small) at turned in absurd (grind (arith, no))
low_by s x false false false is_low is_six is_small turned = let no : false ≡ true = rw (is_low, is_six, is_small) at turned in absurd (grind (arith, no))

two_low : (a b : Bool) → (a && b) ≡ true → (a ≡ true) × (b ≡ true)
two_low true true both = (refl, refl)
two_low true false both = absurd (grind (arith, both))
two_low false b both = absurd (grind (arith, both))

not_used : (used : Bool) (code : ℕ) → (used ≡ true → code < 48) → nat_le 48 code ≡ true → used ≡ false
not_used true code near far = let below : code < 48 = near refl in absurd (grind (arith, nat_tests, far, below))
not_used false code near far = refl

record IsStill (la lb used : Bool) : Type 0 where
  first : la ≡ false
  second : lb ≡ false
  alone : used ≡ false

still : (s : UnitFields) → IsNamedBy s → all_sources s → (s.sig == 13) ≡ true → nat_le 48 s.raddr_b ≡ true → IsStill (nat_lt 3 s.mul_a) (nat_lt 3 s.mul_b) (any_uses s 7)
still s n from small far =
    let low : (is_turned (operand_of s s.mul_a) ≡ true) × (is_turned (operand_of s s.mul_b) ≡ true) = two_low _ _ (turns s n small far).1 in
    record {
      first = low_by s s.mul_a _ _ _ refl refl refl low.0;
      second = low_by s s.mul_b _ _ _ refl refl refl low.1;
      alone = not_used (any_uses s 7) s.raddr_b (λ used. from.small used small) far;
    }

rotation_by : (small far acting la lb used : Bool) → (small ≡ true → far ≡ true → IsStill la lb used) → (small && far && ((acting && (la || lb)) || used)) ≡ false
rotation_by true true true la lb used is = rw ((is refl refl).first, (is refl refl).second, (is refl refl).alone) refl
rotation_by true true false la lb used is = (is refl refl).alone
rotation_by true false acting la lb used is = refl
rotation_by false far acting la lb used is = refl

pub rotation_of : (s : UnitFields) → IsNamedBy s → all_sources s
    → ((s.sig == 13) && nat_le 48 s.raddr_b && ((acts s.op_mul s.cond_mul && (nat_lt 3 s.mul_a || nat_lt 3 s.mul_b)) || any_uses s 7)) ≡ false
rotation_of s n from =
    rotation_by (s.sig == 13) (nat_le 48 s.raddr_b) (acts s.op_mul s.cond_mul) (nat_lt 3 s.mul_a) (nat_lt 3 s.mul_b) (any_uses s 7) (still s n from)

-- a code below 48 is used
unasked : (a b small : Bool) (sig rest : ℕ)
    → (if a then (if small then 13 else (if b then (if small then 13 else rest) else rest)) else (if b then (if small then 13 else rest) else rest)) ≡ sig → (a || b) ≡ false → rest ≡ sig
unasked true b small sig rest is none = absurd (grind (arith, none))
unasked false true small sig rest is none = absurd (grind (arith, none))
unasked false false small sig rest is none = is

signal_alone : (s : UnitFields) → IsWhole s → ComesBack s → any_uses s 7 ≡ false → signal_code (signal_of s.sig s.raddr_b) ≡ s.sig
signal_alone s h c none =
    let rest : ℕ = signal_code (signal_of s.sig s.raddr_b) in
    unasked (part_uses s.op_add s.cond_add s.add_a s.add_b 7) (part_uses s.op_mul s.cond_mul s.mul_a s.mul_b 7) (s.sig == 13) s.sig rest
    (rw (
      signal_used s (s.sig == 13) refl (s.ws == 1) s.op_add s.cond_add s.waddr_add s.add_a s.add_b (over small_signal (mul_part s) rest) h.add_a h.add_b,
      signal_used s (s.sig == 13) refl (not (s.ws == 1)) s.op_mul s.cond_mul s.waddr_mul s.mul_a s.mul_b rest h.mul_a h.mul_b,
    ) at
    c.sig)
    none

near_signal : (sig code : ℕ) → (sig == 13) ≡ true → nat_lt code 48 ≡ true → signal_code (signal_of sig code) ≡ 1
unfolding signal_of
near_signal sig code small near =
    let e : sig ≡ 13 = grind (arith, nat_tests, small) in
    let no : nat_le 48 code ≡ false = grind (arith, nat_tests, near) in
    rw (e, no) refl

is_used : (used : Bool) (sig code : ℕ) → (used ≡ false → code ≡ sig) → code ≡ 1 → (sig == 13) ≡ true → used ≡ true
is_used true sig code same one small = refl
is_used false sig code same one small = let e : code ≡ sig = same refl in absurd (grind (arith, nat_tests, e, one, small))

small_by : (small near used acting : Bool) → (small ≡ true → near ≡ true → used ≡ true) → (small ≡ true → near ≡ false → acting ≡ true)
    → (not small || (if near then used else acting)) ≡ true
small_by true true used acting by far = by refl refl
small_by true false used acting by far = far refl refl
small_by false near used acting by far = refl

pub far_code : (code : ℕ) → nat_lt code 48 ≡ false → nat_le 48 code ≡ true
far_code code near = grind (arith, nat_tests, near)

not_of : (nothing : Bool) → nothing ≡ false → not nothing ≡ true
not_of true is = absurd (grind (arith, is))
not_of false is = refl

pub small_of : (s : UnitFields) → IsWhole s → ComesBack s → IsNamedBy s → (not (s.sig == 13) || (if nat_lt s.raddr_b 48 then any_uses s 7 else acts s.op_mul s.cond_mul)) ≡ true
small_of s h c n =
    rw (acts_is s.op_mul s.cond_mul)
    (small_by (s.sig == 13) (nat_lt s.raddr_b 48) (any_uses s 7) (not (idle s.op_mul s.cond_mul))
    (λ small near. is_used (any_uses s 7) s.sig (signal_code (signal_of s.sig s.raddr_b)) (signal_alone s h c) (near_signal s.sig s.raddr_b small near) small)
    (λ small far. not_of (idle s.op_mul s.cond_mul) (turns s n small (far_code s.raddr_b far)).0))
