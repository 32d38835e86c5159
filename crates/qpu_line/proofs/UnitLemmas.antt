-- ALU and small immediate words come back from their instructions, field by field.
use Rattle.std.proofs.Common.{◌≡◌, ℕ, ◌<◌, Bool, true, false, refl, sym, ◌∙◌, arith}
use Rattle.std.specs.Prelude.{◌==◌, ◌||◌, ◌&&◌, not, if◌then◌else◌, Option, Some, None}
use Rattle.std.proofs.lemmas.Bool.Decides.{nat_tests}
use Rattle.qpu_line.specs.declared.part.Part.{Part}
use Rattle.qpu_line.specs.declared.operand.Operand.{Operand}
use Rattle.qpu_line.specs.declared.slots.UnitFields.{UnitFields}
use Rattle.qpu_line.specs.Targets.{target_at_address}
use Rattle.qpu_line.specs.Units.{operand_of, part_to, part_of, part_uses, mux_of, row_a, unpack_of, row_b, small_signal, over, op_of, cond_of, to_of, first_of, second_of}

-- what is read of a part that is there or isn't
read_back : {A : Type 0} (g : Option Part → A) (idle : Bool) (p : Part) (v : A) → (idle ≡ true → g None ≡ v) → (idle ≡ false → g (Some p) ≡ v)
    → g (if idle then None else Some p) ≡ v
read_back g true p v none some = none refl
read_back g false p v none some = some refl

-- an idle unit's fields are 0, and its address is 39
pub record SaysNothing (o c t a b : ℕ) : Type 0 where
  pub op : o ≡ 0
  pub cond : c ≡ 0
  pub address : t ≡ 39
  pub x : a ≡ 0
  pub y : b ≡ 0

abbrev pub idle : ℕ → ℕ → Bool
idle op cond = (op == 0) || (cond == 0)

abbrev pub IsTidy : ℕ → ℕ → ℕ → ℕ → ℕ → Type 0
IsTidy op cond address x y = idle op cond ≡ true → SaysNothing op cond address x y

pub op_back : (s : UnitFields) (in_b : Bool) (op cond address x y : ℕ) → IsTidy op cond address x y → op_of (part_of s in_b op cond address x y) ≡ op
unfolding part_of
op_back s in_b op cond address x y tidy = read_back op_of (idle op cond) _ op (λ i. sym (tidy i).op) (λ i. refl)

pub cond_back : (s : UnitFields) (in_b : Bool) (op cond address x y : ℕ) → IsTidy op cond address x y → cond_of (part_of s in_b op cond address x y) ≡ cond
unfolding part_of
cond_back s in_b op cond address x y tidy = read_back cond_of (idle op cond) _ cond (λ i. sym (tidy i).cond) (λ i. refl)

-- 39 is no place of one file
nowhere_target : (in_b : Bool) (address : ℕ) → address ≡ 39 → to_of None ≡ target_at_address in_b address
unfolding target_at_address
nowhere_target in_b address is = rw is refl

pub to_back : (s : UnitFields) (in_b : Bool) (op cond address x y : ℕ) → IsTidy op cond address x y → to_of (part_of s in_b op cond address x y) ≡ target_at_address in_b address
unfolding part_of
to_back s in_b op cond address x y tidy = read_back to_of (idle op cond) _ (target_at_address in_b address) (λ i. nowhere_target in_b address (tidy i).address) (λ i. refl)

pub mux_back : (s : UnitFields) (m : ℕ) → m < 8 → mux_of (operand_of s m) ≡ m
mux_back s m below = grind (arith, nat_tests)

pub first_back : (s : UnitFields) (in_b : Bool) (op cond address x y : ℕ) → IsTidy op cond address x y → x < 8 → first_of (part_of s in_b op cond address x y) ≡ x
unfolding part_of
first_back s in_b op cond address x y tidy below = read_back first_of (idle op cond) _ x (λ i. sym (tidy i).x) (λ i. mux_back s x below)

pub second_back : (s : UnitFields) (in_b : Bool) (op cond address x y : ℕ) → IsTidy op cond address x y → y < 8 → second_of (part_of s in_b op cond address x y) ≡ y
unfolding part_of
second_back s in_b op cond address x y tidy below = read_back second_of (idle op cond) _ y (λ i. sym (tidy i).y) (λ i. mux_back s y below)

-- fields that operands share

row_a_at : (s : UnitFields) (m rest : ℕ) → row_a (operand_of s m) rest ≡ (if m == 6 then s.raddr_a else rest)
row_a_at s m rest = grind (arith, nat_tests)

unpack_at : (s : UnitFields) (m rest : ℕ) → unpack_of (operand_of s m) rest ≡ (if m == 6 then s.unpack else rest)
unpack_at s m rest = grind (arith, nat_tests)

row_b_at : (s : UnitFields) (m rest : ℕ) → m < 8 → row_b (operand_of s m) rest ≡ (if m == 7 then s.raddr_b else rest)
row_b_at s m rest below = grind (arith, nat_tests)

signal_at : (s : UnitFields) (m rest : ℕ) → m < 8 → small_signal (operand_of s m) rest ≡ (if (m == 7) && (s.sig == 13) then 13 else rest)
signal_at s m rest below = grind (arith, nat_tests)

-- one of two operands, or the rest
either : (a b : Bool) (v rest : ℕ) → (if a then v else if b then v else rest) ≡ (if a || b then v else rest)
either true b v rest = refl
either false true v rest = refl
either false false v rest = refl

-- a part shares a field: the operands of one that is there
over_by : (read : Operand → ℕ → ℕ) (nothing : Bool) (p : Part) (used : Bool) (v rest : ℕ)
    → read p.a (read p.b rest) ≡ (if used then v else rest)
    → over read (if nothing then None else Some p) rest ≡ (if not nothing && used then v else rest)
over_by read true p used v rest some = refl
over_by read false p used v rest some = some

pub over_row_a : (s : UnitFields) (in_b : Bool) (op cond address x y rest : ℕ)
    → over row_a (part_of s in_b op cond address x y) rest ≡ (if part_uses op cond x y 6 then s.raddr_a else rest)
unfolding part_of
over_row_a s in_b op cond address x y rest =
    over_by row_a (idle op cond) (part_to s (target_at_address in_b address) op cond x y) ((x == 6) || (y == 6)) s.raddr_a rest
    (row_a_at s x (row_a (operand_of s y) rest) ∙ (rw (row_a_at s y rest) refl ∙ either (x == 6) (y == 6) s.raddr_a rest))

pub over_unpack : (s : UnitFields) (in_b : Bool) (op cond address x y rest : ℕ)
    → over unpack_of (part_of s in_b op cond address x y) rest ≡ (if part_uses op cond x y 6 then s.unpack else rest)
unfolding part_of
over_unpack s in_b op cond address x y rest =
    over_by unpack_of (idle op cond) (part_to s (target_at_address in_b address) op cond x y) ((x == 6) || (y == 6)) s.unpack rest
    (unpack_at s x (unpack_of (operand_of s y) rest) ∙ (rw (unpack_at s y rest) refl ∙ either (x == 6) (y == 6) s.unpack rest))

pub over_row_b : (s : UnitFields) (in_b : Bool) (op cond address x y rest : ℕ) → x < 8 → y < 8
    → over row_b (part_of s in_b op cond address x y) rest ≡ (if part_uses op cond x y 7 then s.raddr_b else rest)
unfolding part_of
over_row_b s in_b op cond address x y rest xs ys =
    over_by row_b (idle op cond) (part_to s (target_at_address in_b address) op cond x y) ((x == 7) || (y == 7)) s.raddr_b rest
    (row_b_at s x (row_b (operand_of s y) rest) xs ∙ (rw (row_b_at s y rest ys) refl ∙ either (x == 7) (y == 7) s.raddr_b rest))

small_either : (a b small : Bool) (v rest : ℕ) → (if a && small then v else if b && small then v else rest) ≡ (if a || b then (if small then v else rest) else rest)
small_either true b true v rest = refl
small_either true true false v rest = refl
small_either true false false v rest = refl
small_either false true small v rest = refl
small_either false false small v rest = refl

-- where the word has a small immediate
pub signal_used : (s : UnitFields) (small : Bool) → (s.sig == 13) ≡ small → (in_b : Bool) (op cond address x y rest : ℕ) → x < 8 → y < 8
    → over small_signal (part_of s in_b op cond address x y) rest ≡ (if part_uses op cond x y 7 then (if small then 13 else rest) else rest)
unfolding part_of
signal_used s small is in_b op cond address x y rest xs ys =
    read_back (λ p. over small_signal p rest) (idle op cond) (part_to s (target_at_address in_b address) op cond x y) _
    (λ i. rw i refl)
    (λ i. rw i (signal_at s x (small_signal (operand_of s y) rest) xs ∙ (rw (signal_at s y rest ys, is) refl ∙ small_either (x == 7) (y == 7) small 13 rest)))

-- fields that both parts share

pub two_uses : (a b : Bool) (v rest : ℕ) → (a ≡ false → b ≡ false → rest ≡ v) → (if a then v else if b then v else rest) ≡ v
two_uses true b v rest otherwise = refl
two_uses false true v rest otherwise = refl
two_uses false false v rest otherwise = otherwise refl refl
