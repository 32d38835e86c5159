-- What a line can name of an instruction of both units, in tests of the fields of its word.
use Rattle.std.proofs.Common.{◌≡◌, ℕ, Bool, true, false, refl, sym, ap, arith}
use Rattle.std.specs.Prelude.{◌==◌, ◌||◌, ◌&&◌, not, nat_lt, nat_le, if◌then◌else◌, Some, None, IfSome, IsSome, is_some}
use Rattle.std.proofs.lemmas.Bool.Decides.{nat_tests}
use Rattle.qpu_word.specs.Words.{between, is_read_address}
use Rattle.qpu_word.specs.Operations.{add_op, mul_op}
use Rattle.qpu_line.specs.declared.part.Part.{Part}
use Rattle.qpu_line.specs.declared.slots.UnitFields.{UnitFields}
use Rattle.qpu_line.specs.Targets.{target_at_address, address_of, exchange_of}
use Rattle.qpu_line.specs.Units.{part_of, part_to, any_uses, signal_of, other_read, units_of, unpack_of, small_signal, over, op_of, cond_of, to_of, first_of, second_of, pack_of, signal_code, fields_of_units}
use Rattle.qpu_line.specs.Named.{is_source, IsAddPart, IsMulPart, IsNamedSignal, IsOther, IsNamed}
use Rattle.qpu_line.proofs.UnitLemmas.{IsTidy, SaysNothing, idle}
use Rattle.qpu_line.proofs.UnitLaw.{add_part, mul_part}
use Rattle.qpu_line.proofs.SaidLemmas.{acts}

-- fields that come back from the instruction that they say
pub record ComesBack (s : UnitFields) : Type 0 where
  pub sig : over small_signal (add_part s) (over small_signal (mul_part s) (signal_code (signal_of s.sig s.raddr_b))) ≡ s.sig
  pub unpack : over unpack_of (add_part s) (over unpack_of (mul_part s) 0) ≡ s.unpack
  pub pack : pack_of (add_part s) (pack_of (mul_part s) 0) ≡ s.pack
  pub ws : exchange_of (to_of (add_part s)) (to_of (mul_part s)) ≡ s.ws
  pub op_add : op_of (add_part s) ≡ s.op_add
  pub cond_add : cond_of (add_part s) ≡ s.cond_add
  pub waddr_add : address_of (to_of (add_part s)) ≡ s.waddr_add
  pub add_a : first_of (add_part s) ≡ s.add_a
  pub add_b : second_of (add_part s) ≡ s.add_b
  pub op_mul : op_of (mul_part s) ≡ s.op_mul
  pub cond_mul : cond_of (mul_part s) ≡ s.cond_mul
  pub waddr_mul : address_of (to_of (mul_part s)) ≡ s.waddr_mul
  pub mul_a : first_of (mul_part s) ≡ s.mul_a
  pub mul_b : second_of (mul_part s) ≡ s.mul_b

pub comes_back : (s : UnitFields) → fields_of_units (units_of s) ≡ s → ComesBack s
unfolding fields_of_units units_of
comes_back s same = record {
  sig = ap (λ t. t.sig) same;
  unpack = ap (λ t. t.unpack) same;
  pack = ap (λ t. t.pack) same;
  ws = ap (λ t. t.ws) same;
  op_add = ap (λ t. t.op_add) same;
  cond_add = ap (λ t. t.cond_add) same;
  waddr_add = ap (λ t. t.waddr_add) same;
  add_a = ap (λ t. t.add_a) same;
  add_b = ap (λ t. t.add_b) same;
  op_mul = ap (λ t. t.op_mul) same;
  cond_mul = ap (λ t. t.cond_mul) same;
  waddr_mul = ap (λ t. t.waddr_mul) same;
  mul_a = ap (λ t. t.mul_a) same;
  mul_b = ap (λ t. t.mul_b) same;
}

-- an idle unit says nothing
tidy_by : (nothing : Bool) (p : Part) (op cond address x y : ℕ)
    → op_of (if nothing then None else Some p) ≡ op → cond_of (if nothing then None else Some p) ≡ cond → address_of (to_of (if nothing then None else Some p)) ≡ address
    → first_of (if nothing then None else Some p) ≡ x → second_of (if nothing then None else Some p) ≡ y → nothing ≡ true → SaysNothing op cond address x y
tidy_by true p op cond address x y o c t a b is = record { op = sym o; cond = sym c; address = sym t; x = sym a; y = sym b }
tidy_by false p op cond address x y o c t a b is = absurd (grind (arith, is))

pub add_tidy : (s : UnitFields) → ComesBack s → IsTidy s.op_add s.cond_add s.waddr_add s.add_a s.add_b
unfolding part_of
add_tidy s c = tidy_by (idle s.op_add s.cond_add) (part_to s (target_at_address (s.ws == 1) s.waddr_add) s.op_add s.cond_add s.add_a s.add_b) _ _ _ _ _ c.op_add c.cond_add c.waddr_add c.add_a c.add_b

pub mul_tidy : (s : UnitFields) → ComesBack s → IsTidy s.op_mul s.cond_mul s.waddr_mul s.mul_a s.mul_b
unfolding part_of
mul_tidy s c = tidy_by (idle s.op_mul s.cond_mul) (part_to s (target_at_address (not (s.ws == 1)) s.waddr_mul) s.op_mul s.cond_mul s.mul_a s.mul_b) _ _ _ _ _ c.op_mul c.cond_mul c.waddr_mul c.mul_a c.mul_b

-- a unit acts where it isn't idle
not_either : (a b : Bool) → (not a && not b) ≡ not (a || b)
not_either true b = refl
not_either false b = refl

pub acts_is : (op cond : ℕ) → acts op cond ≡ not (idle op cond)
acts_is op cond = not_either (op == 0) (cond == 0)

-- a part that is there
there : (P : Part → Type 0) (nothing : Bool) (p : Part) → IfSome (if nothing then None else Some p) P → nothing ≡ false → P p
there P true p named is = absurd (grind (arith, is))
there P false p named is = named

abbrev pub add_there : UnitFields → Part
add_there s = part_to s (target_at_address (s.ws == 1) s.waddr_add) s.op_add s.cond_add s.add_a s.add_b

abbrev pub mul_there : UnitFields → Part
mul_there s = part_to s (target_at_address (not (s.ws == 1)) s.waddr_mul) s.op_mul s.cond_mul s.mul_a s.mul_b

-- an instruction's parts and signal, by its fields
pub record IsNamedBy (s : UnitFields) : Type 0 where
  pub add : idle s.op_add s.cond_add ≡ false → IsAddPart (add_there s)
  pub mul : idle s.op_mul s.cond_mul ≡ false → IsMulPart (mul_there s)
  pub sets : (s.sf == 1) ≡ true → (not (idle s.op_add s.cond_add) || not (idle s.op_mul s.cond_mul)) ≡ true
  pub signal : IsNamedSignal (signal_of s.sig s.raddr_b) (mul_part s)
  pub other_a : IfSome (other_read (any_uses s 6) s.raddr_a) IsOther
  pub other_b : IfSome (other_read ((s.sig == 13) || any_uses s 7) s.raddr_b) IsOther

some_by : (nothing : Bool) (p : Part) → is_some (if nothing then None else Some p) ≡ not nothing
some_by true p = refl
some_by false p = refl

sets_by : (s : UnitFields) → (is_some (add_part s) || is_some (mul_part s)) ≡ true → (not (idle s.op_add s.cond_add) || not (idle s.op_mul s.cond_mul)) ≡ true
unfolding part_of
sets_by s some = rw (some_by (idle s.op_add s.cond_add) (add_there s), some_by (idle s.op_mul s.cond_mul) (mul_there s)) at some

pub named_by : (s : UnitFields) → IsNamed (units_of s) → IsNamedBy s
unfolding units_of part_of
named_by s named = record {
  add = there IsAddPart (idle s.op_add s.cond_add) (add_there s) named.add;
  mul = there IsMulPart (idle s.op_mul s.cond_mul) (mul_there s) named.mul;
  sets = λ is. sets_by s (named.sets is);
  signal = named.signal;
  other_a = named.other_a;
  other_b = named.other_b;
}

-- operations
add_code : (op : ℕ) → IsSome (add_op op) → (between 1 op 8 ≡ false) × ((between 9 op 11 || between 25 op 29) ≡ false)
unfolding add_op
add_code op some = (grind (arith, nat_tests, some), grind (arith, nat_tests, some))

mul_code : (op : ℕ) → IsSome (mul_op op) → (op == 1) ≡ false
unfolding mul_op
mul_code op some = grind (arith, nat_tests, some)

pub codes_of_add : (nothing : Bool) (op : ℕ) → (nothing ≡ true → op ≡ 0) → (nothing ≡ false → IsSome (add_op op)) → (between 1 op 8 ≡ false) × ((between 9 op 11 || between 25 op 29) ≡ false)
codes_of_add true op none some = rw (none refl) (refl, refl)
codes_of_add false op none some = add_code op (some refl)

pub code_of_mul : (nothing : Bool) (op : ℕ) → (nothing ≡ true → op ≡ 0) → (nothing ≡ false → IsSome (mul_op op)) → (op == 1) ≡ false
code_of_mul true op none some = rw (none refl) refl
code_of_mul false op none some = mul_code op (some refl)

-- read addresses
other_by : (named nowhere : Bool) (address : ℕ) → IfSome (if named || nowhere then None else Some address) IsOther → named ≡ false
    → (nowhere || (is_source address && nat_le 32 address)) ≡ true
other_by true nowhere address other is = absurd (grind (arith, is))
other_by false true address other is = refl
other_by false false address other is = other

abbrev pub is_free : ℕ → Bool
is_free address = (address == 39) || (is_source address && nat_le 32 address)

pub free_a : (s : UnitFields) → IsNamedBy s → any_uses s 6 ≡ false → is_free s.raddr_a ≡ true
free_a s n none = other_by (any_uses s 6) (s.raddr_a == 39) s.raddr_a n.other_a none

pub free_b : (s : UnitFields) → IsNamedBy s → (s.sig == 13) ≡ false → any_uses s 7 ≡ false → is_free s.raddr_b ≡ true
free_b s n other none = other_by ((s.sig == 13) || any_uses s 7) (s.raddr_b == 39) s.raddr_b n.other_b (rw (other, none) refl)

pub source_read : (address : ℕ) → is_source address ≡ true → is_read_address address ≡ true
source_read address is = grind (arith, is)

pub source_somewhere : (address : ℕ) → is_source address ≡ true → (address == 39) ≡ false
source_somewhere address is = grind (arith, is)

free_read : (nowhere : Bool) (address : ℕ) → (address == 39) ≡ nowhere → is_free address ≡ true → is_read_address address ≡ true
free_read true address at free = let e : address ≡ 39 = grind (arith, nat_tests, at) in rw e refl
free_read false address at free = grind (arith, at, free)

free_far : (nowhere : Bool) (address : ℕ) → (address == 39) ≡ nowhere → is_free address ≡ true → nat_lt address 32 ≡ false
free_far true address at free = grind (arith, nat_tests, at)
free_far false address at free = let far : nat_le 32 address ≡ true = grind (arith, at, free) in grind (arith, nat_tests, far)

pub read_by : (used : Bool) (address : ℕ) → (used ≡ true → is_source address ≡ true) → (used ≡ false → is_free address ≡ true) → is_read_address address ≡ true
read_by true address source free = source_read address (source refl)
read_by false address source free = free_read _ address refl (free refl)

ready : (a : Bool) → (a || true) ≡ true
ready true = refl
ready false = refl

pub row_by : (used : Bool) (address : ℕ) → (used ≡ false → is_free address ≡ true) → (not (nat_lt address 32) || used) ≡ true
row_by true address free = ready (not (nat_lt address 32))
row_by false address free = rw (free_far _ address refl (free refl)) refl
