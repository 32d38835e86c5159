-- What a unit's part says, in a line in which no fault is found.
use Rattle.std.proofs.Common.{◌≡◌, ℕ, ◌<◌, inl, Bool, true, false, List, [], Option, Some, None, refl, ap, arith}
use Rattle.std.specs.Prelude.{◌==◌, ◌&&◌, ◌||◌, not, IfSome, IsSome, is_some, unwrap_or, if◌then◌else◌}
use Rattle.std.proofs.lemmas.Bool.Decides.{nat_tests}
use Rattle.qpu_token.specs.declared.token.Token.{Token}
use Rattle.qpu_word.specs.declared.operation.AddOp.{AddOp}
use Rattle.qpu_word.specs.declared.operation.AddOp.TheVariants as add
use Rattle.qpu_word.specs.declared.operation.MulOp.{MulOp}
use Rattle.qpu_word.specs.declared.operation.MulOp.TheVariants as mulop
use Rattle.qpu_word.specs.declared.name.Place.{Place}
use Rattle.qpu_word.specs.Words.{between, is_unary}
use Rattle.qpu_word.specs.Operations.{add_op, mul_op}
use Rattle.qpu_line.specs.declared.part.Part.{Part as UnitDoes}
use Rattle.qpu_line.specs.declared.name.Name.{Name}
use Rattle.qpu_line.specs.declared.name.Name.TheVariants as name
use Rattle.qpu_line.specs.Named.{is_pack_at, IsNamedPart, IsAddPart, IsMulPart}
use Rattle.qpu_asm.specs.declared.piece.Suffix.{Suffix}
use Rattle.qpu_asm.specs.declared.part.UnitPart.{UnitPart}
use Rattle.qpu_asm.specs.declared.mark.What.{What}
use Rattle.qpu_asm.specs.declared.mark.What.TheVariants as what
use Rattle.qpu_asm.specs.declared.mark.Mark.{Mark}
use Rattle.qpu_asm.specs.Roles.{add_code, mul_code, op_in_add, op_in_mul, takes_one, pack_of}
use Rattle.qpu_asm.specs.reader.Marks.{mark_if, suffix_marks, target_place, place_mark, pack_marks, target_marks, operand_marks, unit_marks}
use Rattle.qpu_asm.specs.Roles.{is_row}
use Rattle.qpu_asm.specs.Roles.{is_pack}
use Rattle.qpu_asm.specs.SpelledPieces.{is_nowhere}
use Rattle.qpu_asm.specs.reader.Meanings.{condition_in, pack_name, pack_in, nowhere_place, place_of, operand_of, condition_at, unit_of}
use Rattle.qpu_asm.proofs.GoodNames.{is_placed, is_pack as is_pack_mode, pack_good}
use Rattle.qpu_asm.proofs.MarkLemmas.{Has, has_right}
use Rattle.qpu_asm.proofs.ProperParts.{GoodName, GoodSuffix, GoodUnit}
use Rattle.qpu_asm.proofs.GrowLemmas.{Marking, grown_old, grown_new, grows_place, grows_pack, grows_operand}
use Rattle.qpu_asm.proofs.TargetLemmas.{condition_fits, placed_fits, written_address, place_told}
use Rattle.qpu_asm.proofs.OperandMarks.{IsSaid, operand_said}
use Rattle.qpu_asm.proofs.TestLemmas.{never, both_true, or_true}

-- packs

pack_mode : (n : Option Name) → GoodName n → is_pack n ≡ true → is_pack_mode (unwrap_or (pack_name n) 0) ≡ true
pack_mode None good is = absurd (grind (arith, is))
pack_mode (Some n) good is = some (pack_of n) (pack_good n good) is
  where
    some : (o : Option ℕ) → IfSome o (λ mode. is_pack_mode mode ≡ true) → is_some o ≡ true → is_pack_mode (unwrap_or o 0) ≡ true
    some None fits there = absurd (grind (arith, there))
    some (Some mode) fits there = fits

pack_at_row : (to : Option Place) (pack : ℕ) → is_row to ≡ true → is_pack_mode pack ≡ true → is_pack_at (unwrap_or to nowhere_place) pack ≡ true
pack_at_row None pack row mode = absurd (grind (arith, row))
pack_at_row (Some p) pack row mode = rw (row, mode) (or_true (pack == 0))

pack_by : (to : Option Place) (s : Suffix) (b : Bool) (token : Token) (ms U : List Mark) → (is_row to && is_pack s.name) ≡ b → GoodName s.name
    → ((w : What) → Has w (mark_if (not b) what.Wrong token ms) → Has w U) → (Has what.Wrong U → ⊥) → is_pack_at (unwrap_or to nowhere_place) (pack_in (Some s)) ≡ true
pack_by to s true token ms U is good inside right =
    let both = both_true (is_row to) (is_pack s.name) is in
    pack_at_row to (unwrap_or (pack_name s.name) 0) both.0 (pack_mode s.name good both.1)
pack_by to s false token ms U is good inside right = absurd (right (inside what.Wrong (has_right what.Wrong ms _ (inl refl))))

pack_said : (to : Option Place) (s : Option Suffix) (ms U : List Mark) → GoodSuffix s → ((w : What) → Has w (pack_marks to s ms) → Has w U) → (Has what.Wrong U → ⊥)
    → is_pack_at (unwrap_or to nowhere_place) (pack_in s) ≡ true
pack_said to None ms U good inside right = refl
pack_said to (Some s) ms U good inside right = pack_by to s (is_row to && is_pack s.name) s.dot ms U refl good inside right

-- a part's target and operands

pub record UnitSaid (mul : Bool) (u : UnitPart) (U : List Mark) : Type 0 where
  pub a : IsSaid mul U (operand_of u.a)
  pub b : IsSaid mul U (operand_of u.b)
  pub to : Has (what.Writes (place_of u.to.core)) U
  pub pack : is_pack_at (place_of u.to.core) (pack_in u.to.suffix) ≡ true

pub unit_said : (mul : Bool) (u : UnitPart) (U : List Mark) → GoodUnit u → ((w : What) → Has w (unit_marks mul u []) → Has w U)
    → (Has what.Wrong U → ⊥) → (Has what.Far U → ⊥) → UnitSaid mul u U
unfolding unit_marks target_marks
unit_said mul u U good inside right near =
    let before = suffix_marks mul u.suffixes (mark_if (not mul) what.Adds u.token []) in
    let placing : Marking = place_mark (target_place u.to.core) u.to.token in
    let packing : Marking = pack_marks (target_place u.to.core) u.to.suffix in
    let first : Marking = operand_marks mul u.a in
    let second : Marking = operand_marks mul u.b in
    let targets = packing (placing before) in
    let of_second : (w : What) → Has w (second []) → Has w U = λ w has. inside w (grown_new second (grows_operand mul u.b) w (first targets) has) in
    let of_first : (w : What) → Has w (first []) → Has w U =
    λ w has. inside w (grown_old second (grows_operand mul u.b) w (first targets) (grown_new first (grows_operand mul u.a) w targets has)) in
    let of_targets : (w : What) → Has w targets → Has w U =
    λ w has. inside w (grown_old second (grows_operand mul u.b) w (first targets) (grown_old first (grows_operand mul u.a) w targets has)) in
    record {
      a = operand_said mul u.a U good.a of_first right near;
      b = operand_said mul u.b U good.b of_second right near;
      to = place_told (target_place u.to.core) u.to.token U
          (λ w has. of_targets w (grown_old packing (grows_pack (target_place u.to.core) u.to.suffix) w (placing before) (grown_new placing (grows_place (target_place u.to.core) u.to.token) w before has))) right;
      pack = pack_said (target_place u.to.core) u.to.suffix (placing before) U good.to.suffix of_targets right;
    }

-- the part's own numbers

cond_by : (b : Bool) (c : ℕ) → between 1 c 7 ≡ true → between 1 (if b then 1 else c) 7 ≡ true
cond_by true c fits = refl
cond_by false c fits = fits

always_by : (b : Bool) (c : ℕ) → b ≡ true → (if b then 1 else c) ≡ 1
always_by true c is = refl
always_by false c is = absurd (grind (arith, is))

named_part : (mul : Bool) (op : ℕ) (u : UnitPart) (U : List Mark) → GoodUnit u → UnitSaid mul u U → IsNamedPart (unit_of op u)
unfolding unit_of
named_part mul op u U good said = record {
  cond = cond_by (is_nowhere (place_of u.to.core)) (condition_in u.suffixes.first) (condition_fits u.suffixes.first good.suffixes.first);
  always = λ is. always_by (is_nowhere (place_of u.to.core)) (condition_in u.suffixes.first) is;
  to = written_address (place_of u.to.core) (placed_fits u.to.core good.to.core);
  pack = said.pack;
  a = said.a.named;
  b = said.b.named;
}

-- operations

record AddFits (n : Name) (code : ℕ) : Type 0 where
  op : IsSome (add_op code)
  some : (code == 0) ≡ false
  low : code < 32
  one : is_unary code ≡ true → takes_one n ≡ true

add_op_fits : (op : AddOp) → AddFits (name.Add op) (add_code op)
unfolding add_op
add_op_fits add.Add = record { op = refl; some = refl; low = omega arith; one = λ e. never _ e }
add_op_fits add.Sub = record { op = refl; some = refl; low = omega arith; one = λ e. never _ e }
add_op_fits add.Shr = record { op = refl; some = refl; low = omega arith; one = λ e. never _ e }
add_op_fits add.Asr = record { op = refl; some = refl; low = omega arith; one = λ e. never _ e }
add_op_fits add.Ror = record { op = refl; some = refl; low = omega arith; one = λ e. never _ e }
add_op_fits add.Shl = record { op = refl; some = refl; low = omega arith; one = λ e. never _ e }
add_op_fits add.Min = record { op = refl; some = refl; low = omega arith; one = λ e. never _ e }
add_op_fits add.Max = record { op = refl; some = refl; low = omega arith; one = λ e. never _ e }
add_op_fits add.And = record { op = refl; some = refl; low = omega arith; one = λ e. never _ e }
add_op_fits add.Or = record { op = refl; some = refl; low = omega arith; one = λ e. never _ e }
add_op_fits add.Xor = record { op = refl; some = refl; low = omega arith; one = λ e. never _ e }
add_op_fits add.Not = record { op = refl; some = refl; low = omega arith; one = λ e. refl }
add_op_fits add.Clz = record { op = refl; some = refl; low = omega arith; one = λ e. refl }
add_op_fits add.V8adds = record { op = refl; some = refl; low = omega arith; one = λ e. never _ e }
add_op_fits add.V8subs = record { op = refl; some = refl; low = omega arith; one = λ e. never _ e }

add_fits : (n : Name) → is_some (op_in_add n) ≡ true → AddFits n (unwrap_or (op_in_add n) 0)
unfolding add_op
add_fits (name.Add op) some = add_op_fits op
add_fits name.Mov some = record { op = refl; some = refl; low = omega arith; one = λ e. refl }
add_fits _ some = absurd (grind (arith, some))

record MulFits (code : ℕ) : Type 0 where
  op : IsSome (mul_op code)
  some : (code == 0) ≡ false
  low : code < 8

mul_op_fits : (op : MulOp) → MulFits (mul_code op)
unfolding mul_op
mul_op_fits mulop.Mul24 = record { op = refl; some = refl; low = omega arith }
mul_op_fits mulop.V8muld = record { op = refl; some = refl; low = omega arith }
mul_op_fits mulop.V8min = record { op = refl; some = refl; low = omega arith }
mul_op_fits mulop.V8max = record { op = refl; some = refl; low = omega arith }
mul_op_fits mulop.V8adds = record { op = refl; some = refl; low = omega arith }
mul_op_fits mulop.V8subs = record { op = refl; some = refl; low = omega arith }

both_fit : (op : AddOp) → is_some (op_in_mul (name.Add op)) ≡ true → MulFits (unwrap_or (op_in_mul (name.Add op)) 0)
both_fit add.V8adds some = mul_op_fits mulop.V8adds
both_fit add.V8subs some = mul_op_fits mulop.V8subs
both_fit _ some = absurd (grind (arith, some))

mul_fits : (n : Name) → is_some (op_in_mul n) ≡ true → MulFits (unwrap_or (op_in_mul n) 0)
mul_fits (name.Mul op) some = mul_op_fits op
mul_fits (name.Add op) some = both_fit op some
mul_fits name.Mov some = mul_op_fits mulop.V8min
mul_fits _ some = absurd (grind (arith, some))

-- what a unit does

pub record DoesSaid (mul : Bool) (U : List Mark) (p : UnitDoes) : Type 0 where
  pub acts : ((p.op == 0) || (p.cond == 0)) ≡ false
  pub named : IsNamedPart p
  pub placed : is_placed p.to ≡ true
  pub told : Has (what.Writes p.to) U
  pub a : IsSaid mul U p.a
  pub b : IsSaid mul U p.b

acts_by : (op cond : ℕ) → (op == 0) ≡ false → between 1 cond 7 ≡ true → ((op == 0) || (cond == 0)) ≡ false
acts_by op cond some fits = grind (arith, nat_tests, some, fits)

does : (mul : Bool) (op : ℕ) (u : UnitPart) (U : List Mark) → GoodUnit u → UnitSaid mul u U → (op == 0) ≡ false → DoesSaid mul U (unit_of op u)
unfolding unit_of
does mul op u U good said some = record {
  acts = acts_by op (condition_at (place_of u.to.core) u.suffixes.first) some (named_part mul op u U good said).cond;
  named = named_part mul op u U good said;
  placed = placed_fits u.to.core good.to.core;
  told = said.to;
  a = said.a;
  b = said.b;
}

pub record AddSaid (U : List Mark) (p : UnitDoes) : Type 0 where
  pub does : DoesSaid false U p
  pub fits : IsAddPart p
  pub low : p.op < 32

pub record MulSaid (U : List Mark) (p : UnitDoes) : Type 0 where
  pub does : DoesSaid true U p
  pub fits : IsMulPart p
  pub low : p.op < 8

pub add_said : (u : UnitPart) (U : List Mark) → GoodUnit u → UnitSaid false u U → is_some (op_in_add u.op) ≡ true → AddSaid U (unit_of (unwrap_or (op_in_add u.op) 0) u)
unfolding unit_of
add_said u U good said some =
    let fits : AddFits u.op (unwrap_or (op_in_add u.op) 0) = add_fits u.op some in
    record {
      does = does false (unwrap_or (op_in_add u.op) 0) u U good said fits.some;
      fits = record { op = fits.op; twice = λ one. ap operand_of (good.twice (fits.one one)); part = named_part false (unwrap_or (op_in_add u.op) 0) u U good said };
      low = fits.low;
    }

pub mul_said : (u : UnitPart) (U : List Mark) → GoodUnit u → UnitSaid true u U → is_some (op_in_mul u.op) ≡ true → MulSaid U (unit_of (unwrap_or (op_in_mul u.op) 0) u)
unfolding unit_of
mul_said u U good said some =
    let fits : MulFits (unwrap_or (op_in_mul u.op) 0) = mul_fits u.op some in
    record {
      does = does true (unwrap_or (op_in_mul u.op) 0) u U good said fits.some;
      fits = record { op = fits.op; part = named_part true (unwrap_or (op_in_mul u.op) 0) u U good said };
      low = fits.low;
    }
