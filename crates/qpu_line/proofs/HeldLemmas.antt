-- The instruction of a canonical word of both units is one that a line can name, and the word's
-- fields hold it.
use Rattle.std.proofs.Common.{◌≡◌, ℕ, ◌<◌, Bool, true, false, refl, sym, ◌∙◌, subst, arith}
use Rattle.std.specs.Prelude.{◌==◌, ◌||◌, ◌&&◌, not, nat_lt, nat_le, if◌then◌else◌, Option, Some, None, IfSome, IsSomeAnd, is_some}
use Rattle.std.proofs.lemmas.Bool.Decides.{nat_tests}
use Rattle.qpu_word.specs.Words.{between, is_read_address}
use Rattle.qpu_line.specs.declared.part.Part.{Part}
use Rattle.qpu_line.specs.declared.operand.Operand.TheVariants.{Small, FileB}
use Rattle.qpu_line.specs.declared.units.Signal.TheVariants.{Nothing, End, Load0, Load1, Rotate}
use Rattle.qpu_line.specs.declared.slots.UnitFields.{UnitFields}
use Rattle.qpu_line.specs.Targets.{target_at_address}
use Rattle.qpu_line.specs.Units.{operand_of, part_of, part_to, part_uses, any_uses, signal_of, units_of}
use Rattle.qpu_line.specs.Both.{IsOperand, IsPart, IsHeld, IsBoth}
use Rattle.qpu_line.specs.Named.{is_turned, IsAddPart, IsMulPart, CanTurn, IsNamedSignal, IsOther, IsNamed}
use Rattle.qpu_line.proofs.UnitLemmas.{idle}
use Rattle.qpu_line.proofs.UnitLaw.{add_part, mul_part, IsOwn, fields_back}
use Rattle.qpu_line.proofs.BothLaw.{IsWhole}
use Rattle.qpu_line.proofs.TestLemmas.{is_target}
use Rattle.qpu_line.proofs.SaidLemmas.{acts, IsSaid}
use Rattle.qpu_line.proofs.SourceLemmas.{all_sources, part_sources, first_of_two, second_of_two}
use Rattle.qpu_line.proofs.NamedLemmas.{acts_is, add_there, mul_there}
use Rattle.qpu_line.proofs.SayLemmas.{if_there, sources, add_named, mul_named}

-- flags
some_by : (nothing : Bool) (p : Part) → is_some (if nothing then None else Some p) ≡ not nothing
some_by true p = refl
some_by false p = refl

sets_by : (sf : ℕ) (a b : Bool) → ((sf == 0) || a || b) ≡ true → (sf == 1) ≡ true → (a || b) ≡ true
sets_by sf a b rule is = let no : (sf == 0) ≡ false = grind (arith, nat_tests, is) in rw no at rule

sets_named : (s : UnitFields) → IsSaid s → (s.sf == 1) ≡ true → (is_some (add_part s) || is_some (mul_part s)) ≡ true
unfolding part_of
sets_named s d is =
    rw (some_by (idle s.op_add s.cond_add) (add_there s), some_by (idle s.op_mul s.cond_mul) (mul_there s))
    (sets_by s.sf (not (idle s.op_add s.cond_add)) (not (idle s.op_mul s.cond_mul)) (rw (acts_is s.op_add s.cond_add, acts_is s.op_mul s.cond_mul) at d.flags) is)

-- rotations
quiet_or : (end load0 load1 turns : Bool) (code : ℕ) (mul : Option Part) → (turns ≡ true → IsNamedSignal (Rotate code) mul)
    → IsNamedSignal (if end then End else if load0 then Load0 else if load1 then Load1 else if turns then Rotate code else Nothing) mul
quiet_or true load0 load1 turns code mul turning = tt
quiet_or false true load1 turns code mul turning = tt
quiet_or false false true turns code mul turning = tt
quiet_or false false false true code mul turning = turning refl
quiet_or false false false false code mul turning = tt

turned_by : (s : UnitFields) (x : ℕ) → nat_lt 3 x ≡ false → is_turned (operand_of s x) ≡ true
turned_by s x low =
    let near : nat_lt x 6 ≡ true = grind (arith, nat_tests, low) in
    let below : nat_lt x 4 ≡ true = grind (arith, nat_tests, low) in
    rw near below

record IsStill (la lb : Bool) : Type 0 where
  first : la ≡ false
  second : lb ≡ false

still_by : (small far active la lb used : Bool) → (small && far && ((active && (la || lb)) || used)) ≡ false → (small && far) ≡ true → active ≡ true → IsStill la lb
still_by small far active true lb used none is acts = absurd (grind (arith, none, is, acts))
still_by small far active false true used none is acts = absurd (grind (arith, none, is, acts))
still_by small far active false false used none is acts = record { first = refl; second = refl }

small_active : (small : Bool) (code : ℕ) (used active : Bool) → (not small || (if nat_lt code 48 then used else active)) ≡ true → (small && nat_le 48 code) ≡ true → active ≡ true
small_active true code used active rule is = let far : nat_lt code 48 ≡ false = grind (arith, nat_tests, is) in rw far at rule
small_active false code used active rule is = absurd (grind (arith, is))

turn_there : (nothing : Bool) (p : Part) → not nothing ≡ true → CanTurn p → IsSomeAnd (if nothing then None else Some p) CanTurn
turn_there true p is turns = absurd (grind (arith, is))
turn_there false p is turns = turns

code_between : (small : Bool) (code : ℕ) → code < 64 → (small && nat_le 48 code) ≡ true → between 48 code 63 ≡ true
code_between true code below is = grind (arith, nat_tests, is)
code_between false code below is = absurd (grind (arith, is))

turning : (s : UnitFields) → IsSaid s → ((s.sig == 13) && nat_le 48 s.raddr_b) ≡ true → IsSomeAnd (mul_part s) CanTurn
unfolding part_of
turning s d is =
    let active : acts s.op_mul s.cond_mul ≡ true = small_active (s.sig == 13) s.raddr_b (any_uses s 7) (acts s.op_mul s.cond_mul) d.small is in
    let low : IsStill (nat_lt 3 s.mul_a) (nat_lt 3 s.mul_b) = still_by (s.sig == 13) (nat_le 48 s.raddr_b) _ _ _ (any_uses s 7) d.rotation is active in
    turn_there (idle s.op_mul s.cond_mul) (mul_there s) (rw acts_is at active) (rw (turned_by s s.mul_a low.first, turned_by s s.mul_b low.second) refl)

signal_named : (s : UnitFields) → IsWhole s → IsSaid s → IsNamedSignal (signal_of s.sig s.raddr_b) (mul_part s)
unfolding signal_of
signal_named s h d =
    quiet_or (s.sig == 3) (s.sig == 10) (s.sig == 11) ((s.sig == 13) && nat_le 48 s.raddr_b) s.raddr_b (mul_part s)
    (λ is. (code_between (s.sig == 13) s.raddr_b h.range.raddr_b is, turning s d is))

-- other reads
other_there : (named nowhere : Bool) (address : ℕ) → (named ≡ false → nowhere ≡ false → IsOther address) → IfSome (if named || nowhere then None else Some address) IsOther
other_there true nowhere address is = tt
other_there false true address is = tt
other_there false false address is = is refl refl

far_by : (address : ℕ) → is_read_address address ≡ true → (address == 39) ≡ false → nat_lt address 32 ≡ false → IsOther address
far_by address read at near = grind (arith, nat_tests, read, at, near)

row_a_by : (near used : Bool) → (not near || used) ≡ true → used ≡ false → near ≡ false
row_a_by true used rule none = sym rule ∙ none
row_a_by false used rule none = refl

row_b_by : (small near used : Bool) → (small || not near || used) ≡ true → (small || used) ≡ false → near ≡ false
row_b_by small true used rule none = absurd (grind (arith, rule, none))
row_b_by small false used rule none = refl

read_a_by : (a b small : Bool) → (not a || (not small && not b)) ≡ false → a ≡ true
read_a_by true b small none = refl
read_a_by false b small none = sym none

read_b_by : (a b small used : Bool) → (not a || (not small && not b)) ≡ false → (small || used) ≡ false → b ≡ true
read_b_by a true small used none other = refl
read_b_by a false small used none other = absurd (grind (arith, none, other))

pub named_of_said : (s : UnitFields) → IsWhole s → IsSaid s → IsNamed (units_of s)
unfolding units_of part_of
named_of_said s h d =
    let from : all_sources s = sources s h d in
    let add : part_sources s s.op_add s.cond_add s.add_a s.add_b = first_of_two s _ _ (part_uses s.op_mul s.cond_mul s.mul_a s.mul_b 6) (part_uses s.op_mul s.cond_mul s.mul_a s.mul_b 7) from in
    let mul : part_sources s s.op_mul s.cond_mul s.mul_a s.mul_b = second_of_two s (part_uses s.op_add s.cond_add s.add_a s.add_b 6) (part_uses s.op_add s.cond_add s.add_a s.add_b 7) _ _ from in
    record {
      add = if_there IsAddPart (idle s.op_add s.cond_add) (add_there s) (add_named s h d add);
      mul = if_there IsMulPart (idle s.op_mul s.cond_mul) (mul_there s) (mul_named s h d mul);
      sets = sets_named s d;
      signal = signal_named s h d;
      other_a = other_there (any_uses s 6) (s.raddr_a == 39) s.raddr_a
          (λ none at. far_by s.raddr_a (read_a_by _ (is_read_address s.raddr_b) (s.sig == 13) d.read) at (row_a_by (nat_lt s.raddr_a 32) (any_uses s 6) d.row_a none));
      other_b = other_there ((s.sig == 13) || any_uses s 7) (s.raddr_b == 39) s.raddr_b
          (λ none at. far_by s.raddr_b (read_b_by (is_read_address s.raddr_a) _ (s.sig == 13) (any_uses s 7) d.read none) at (row_b_by (s.sig == 13) (nat_lt s.raddr_b 32) (any_uses s 7) d.row_b none));
    }

-- the fields hold what they say
b_held : (s : UnitFields) (small : Bool) → (s.sig == 13) ≡ small → IsOperand s (if small then Small s.raddr_b else FileB s.raddr_b)
b_held s true is = (refl, is)
b_held s false is = (refl, is)

operand_by : (s : UnitFields) (x : ℕ) (low six : Bool) → nat_lt x 6 ≡ low → (x == 6) ≡ six → IsOperand s (operand_of s x)
operand_by s x true six is_low is_six = rw is_low (grind (arith, nat_tests, is_low))
operand_by s x false true is_low is_six = rw (is_low, is_six) (refl, refl)
operand_by s x false false is_low is_six = rw (is_low, is_six) (b_held s (s.sig == 13) refl)

part_held : (s : UnitFields) (in_b : Bool) (op cond address x y : ℕ) → idle op cond ≡ false → IsPart s in_b (part_to s (target_at_address in_b address) op cond x y)
part_held s in_b op cond address x y is = record {
  acts = is;
  target = is_target in_b address;
  packs = refl;
  first = operand_by s x _ _ refl refl;
  second = operand_by s y _ _ refl refl;
}

held : (s : UnitFields) → IsWhole s → IsHeld s (units_of s)
unfolding units_of part_of
held s h = record {
  range = h.range;
  add = if_there (IsPart s (s.ws == 1)) (idle s.op_add s.cond_add) (add_there s) (part_held s (s.ws == 1) s.op_add s.cond_add s.waddr_add s.add_a s.add_b);
  mul = if_there (IsPart s (not (s.ws == 1))) (idle s.op_mul s.cond_mul) (mul_there s) (part_held s (not (s.ws == 1)) s.op_mul s.cond_mul s.waddr_mul s.mul_a s.mul_b);
  signal = refl;
  other_a = refl;
  other_b = refl;
}

pub both_of_own : (s : UnitFields) → IsWhole s → IsOwn s → IsBoth (units_of s)
both_of_own s h own = let P : UnitFields → Type 0 = λ t. IsHeld t (units_of s) in subst P (sym (fields_back s own)) (held s h)
