-- Every operation on one row of lanes. The values come from an independent program.
use Rattle.std.proofs.Common.{◌≡◌, ℕ, List, [], ◌∷◌, Some, refl}
use Rattle.qpu_word.specs.declared.operation.AddOp.TheVariants as AddUnit
use Rattle.qpu_word.specs.declared.operation.MulOp.TheVariants as MulUnit
use Rattle.qpu_word.specs.Lanes.{lanes, lane, mask_below}
use Rattle.qpu_word.specs.Operations.{add_result, mul_result, add_op, mul_op}
use Rattle.qpu_word.specs.Instruction.{carry_mask}

-- the operands, lane by lane
abbrev first : List ℕ
first = 0x0 ∷ 0x1 ∷ 0x7fffffff ∷ 0x80000000 ∷ 0xffffffff ∷ 0x0 ∷ 0x1 ∷ 0x7fffffff ∷ 0xff01ff01 ∷ 0x2020202 ∷ 0x12345678 ∷ 0x80000000 ∷ 0xffffffff ∷ 0xffffff ∷ 0x5 ∷ 0x7f80ff01 ∷ []

abbrev second : List ℕ
second = 0x0 ∷ 0xffffffff ∷ 0x1 ∷ 0x80000000 ∷ 0xffffffff ∷ 0x1 ∷ 0x80000000 ∷ 0x7fffffff ∷ 0x2020202 ∷ 0xff01ff01 ∷ 0x4 ∷ 0x1f ∷ 0x20 ∷ 0xffffff ∷ 0x80000003 ∷ 0x1ff7f80 ∷ []

add : lanes (λ i. add_result AddUnit.Add (lane first i) (lane second i)) ≡ 0x0 ∷ 0x0 ∷ 0x80000000 ∷ 0x0 ∷ 0xfffffffe ∷ 0x1 ∷ 0x80000001 ∷ 0xfffffffe ∷ 0x1040103 ∷ 0x1040103 ∷ 0x1234567c ∷ 0x8000001f ∷ 0x1f ∷ 0x1fffffe ∷ 0x80000008 ∷ 0x81807e81 ∷ []
unfolding lanes add_result
add = refl

add_code : add_op 12 ≡ Some AddUnit.Add
unfolding add_op
add_code = refl

add_carries : carry_mask (Some AddUnit.Add) (lane first) (lane second) ≡ Some 0x131a
unfolding mask_below
add_carries = refl

sub : lanes (λ i. add_result AddUnit.Sub (lane first i) (lane second i)) ≡ 0x0 ∷ 0x2 ∷ 0x7ffffffe ∷ 0x0 ∷ 0x0 ∷ 0xffffffff ∷ 0x80000001 ∷ 0x0 ∷ 0xfcfffcff ∷ 0x3000301 ∷ 0x12345674 ∷ 0x7fffffe1 ∷ 0xffffffdf ∷ 0x0 ∷ 0x80000002 ∷ 0x7d817f81 ∷ []
unfolding lanes add_result
sub = refl

sub_code : add_op 13 ≡ Some AddUnit.Sub
unfolding add_op
sub_code = refl

sub_carries : carry_mask (Some AddUnit.Sub) (lane first) (lane second) ≡ Some 0x4262
unfolding mask_below
sub_carries = refl

shr : lanes (λ i. add_result AddUnit.Shr (lane first i) (lane second i)) ≡ 0x0 ∷ 0x0 ∷ 0x3fffffff ∷ 0x80000000 ∷ 0x1 ∷ 0x0 ∷ 0x1 ∷ 0x0 ∷ 0x3fc07fc0 ∷ 0x1010101 ∷ 0x1234567 ∷ 0x1 ∷ 0xffffffff ∷ 0x0 ∷ 0x0 ∷ 0x7f80ff01 ∷ []
unfolding lanes add_result
shr = refl

shr_code : add_op 14 ≡ Some AddUnit.Shr
unfolding add_op
shr_code = refl

asr : lanes (λ i. add_result AddUnit.Asr (lane first i) (lane second i)) ≡ 0x0 ∷ 0x0 ∷ 0x3fffffff ∷ 0x80000000 ∷ 0xffffffff ∷ 0x0 ∷ 0x1 ∷ 0x0 ∷ 0xffc07fc0 ∷ 0x1010101 ∷ 0x1234567 ∷ 0xffffffff ∷ 0xffffffff ∷ 0x0 ∷ 0x0 ∷ 0x7f80ff01 ∷ []
unfolding lanes add_result
asr = refl

asr_code : add_op 15 ≡ Some AddUnit.Asr
unfolding add_op
asr_code = refl

ror : lanes (λ i. add_result AddUnit.Ror (lane first i) (lane second i)) ≡ 0x0 ∷ 0x2 ∷ 0xbfffffff ∷ 0x80000000 ∷ 0xffffffff ∷ 0x0 ∷ 0x1 ∷ 0xfffffffe ∷ 0x7fc07fc0 ∷ 0x1010101 ∷ 0x81234567 ∷ 0x1 ∷ 0xffffffff ∷ 0x1fffffe ∷ 0xa0000000 ∷ 0x7f80ff01 ∷ []
unfolding lanes add_result
ror = refl

ror_code : add_op 16 ≡ Some AddUnit.Ror
unfolding add_op
ror_code = refl

shl : lanes (λ i. add_result AddUnit.Shl (lane first i) (lane second i)) ≡ 0x0 ∷ 0x80000000 ∷ 0xfffffffe ∷ 0x80000000 ∷ 0x80000000 ∷ 0x0 ∷ 0x1 ∷ 0x80000000 ∷ 0xfc07fc04 ∷ 0x4040404 ∷ 0x23456780 ∷ 0x0 ∷ 0xffffffff ∷ 0x80000000 ∷ 0x28 ∷ 0x7f80ff01 ∷ []
unfolding lanes add_result
shl = refl

shl_code : add_op 17 ≡ Some AddUnit.Shl
unfolding add_op
shl_code = refl

min : lanes (λ i. add_result AddUnit.Min (lane first i) (lane second i)) ≡ 0x0 ∷ 0xffffffff ∷ 0x1 ∷ 0x80000000 ∷ 0xffffffff ∷ 0x0 ∷ 0x80000000 ∷ 0x7fffffff ∷ 0xff01ff01 ∷ 0xff01ff01 ∷ 0x4 ∷ 0x80000000 ∷ 0xffffffff ∷ 0xffffff ∷ 0x80000003 ∷ 0x1ff7f80 ∷ []
unfolding lanes add_result
min = refl

min_code : add_op 18 ≡ Some AddUnit.Min
unfolding add_op
min_code = refl

max : lanes (λ i. add_result AddUnit.Max (lane first i) (lane second i)) ≡ 0x0 ∷ 0x1 ∷ 0x7fffffff ∷ 0x80000000 ∷ 0xffffffff ∷ 0x1 ∷ 0x1 ∷ 0x7fffffff ∷ 0x2020202 ∷ 0x2020202 ∷ 0x12345678 ∷ 0x1f ∷ 0x20 ∷ 0xffffff ∷ 0x5 ∷ 0x7f80ff01 ∷ []
unfolding lanes add_result
max = refl

max_code : add_op 19 ≡ Some AddUnit.Max
unfolding add_op
max_code = refl

and : lanes (λ i. add_result AddUnit.And (lane first i) (lane second i)) ≡ 0x0 ∷ 0x1 ∷ 0x1 ∷ 0x80000000 ∷ 0xffffffff ∷ 0x0 ∷ 0x0 ∷ 0x7fffffff ∷ 0x2000200 ∷ 0x2000200 ∷ 0x0 ∷ 0x0 ∷ 0x20 ∷ 0xffffff ∷ 0x1 ∷ 0x1807f00 ∷ []
unfolding lanes add_result
and = refl

and_code : add_op 20 ≡ Some AddUnit.And
unfolding add_op
and_code = refl

or : lanes (λ i. add_result AddUnit.Or (lane first i) (lane second i)) ≡ 0x0 ∷ 0xffffffff ∷ 0x7fffffff ∷ 0x80000000 ∷ 0xffffffff ∷ 0x1 ∷ 0x80000001 ∷ 0x7fffffff ∷ 0xff03ff03 ∷ 0xff03ff03 ∷ 0x1234567c ∷ 0x8000001f ∷ 0xffffffff ∷ 0xffffff ∷ 0x80000007 ∷ 0x7fffff81 ∷ []
unfolding lanes add_result
or = refl

or_code : add_op 21 ≡ Some AddUnit.Or
unfolding add_op
or_code = refl

xor : lanes (λ i. add_result AddUnit.Xor (lane first i) (lane second i)) ≡ 0x0 ∷ 0xfffffffe ∷ 0x7ffffffe ∷ 0x0 ∷ 0x0 ∷ 0x1 ∷ 0x80000001 ∷ 0x0 ∷ 0xfd03fd03 ∷ 0xfd03fd03 ∷ 0x1234567c ∷ 0x8000001f ∷ 0xffffffdf ∷ 0x0 ∷ 0x80000006 ∷ 0x7e7f8081 ∷ []
unfolding lanes add_result
xor = refl

xor_code : add_op 22 ≡ Some AddUnit.Xor
unfolding add_op
xor_code = refl

not : lanes (λ i. add_result AddUnit.Not (lane first i) (lane second i)) ≡ 0xffffffff ∷ 0xfffffffe ∷ 0x80000000 ∷ 0x7fffffff ∷ 0x0 ∷ 0xffffffff ∷ 0xfffffffe ∷ 0x80000000 ∷ 0xfe00fe ∷ 0xfdfdfdfd ∷ 0xedcba987 ∷ 0x7fffffff ∷ 0x0 ∷ 0xff000000 ∷ 0xfffffffa ∷ 0x807f00fe ∷ []
unfolding lanes add_result
not = refl

not_code : add_op 23 ≡ Some AddUnit.Not
unfolding add_op
not_code = refl

clz : lanes (λ i. add_result AddUnit.Clz (lane first i) (lane second i)) ≡ 0x20 ∷ 0x1f ∷ 0x1 ∷ 0x0 ∷ 0x0 ∷ 0x20 ∷ 0x1f ∷ 0x1 ∷ 0x0 ∷ 0x6 ∷ 0x3 ∷ 0x0 ∷ 0x0 ∷ 0x8 ∷ 0x1d ∷ 0x1 ∷ []
unfolding lanes add_result lib.Count.count_leading_zeros
clz = refl

clz_code : add_op 24 ≡ Some AddUnit.Clz
unfolding add_op
clz_code = refl

v8adds : lanes (λ i. add_result AddUnit.V8adds (lane first i) (lane second i)) ≡ 0x0 ∷ 0xffffffff ∷ 0x7fffffff ∷ 0xff000000 ∷ 0xffffffff ∷ 0x1 ∷ 0x80000001 ∷ 0xfeffffff ∷ 0xff03ff03 ∷ 0xff03ff03 ∷ 0x1234567c ∷ 0x8000001f ∷ 0xffffffff ∷ 0xffffff ∷ 0x80000008 ∷ 0x80ffff81 ∷ []
unfolding lanes add_result
v8adds = refl

v8adds_code : add_op 30 ≡ Some AddUnit.V8adds
unfolding add_op
v8adds_code = refl

v8subs : lanes (λ i. add_result AddUnit.V8subs (lane first i) (lane second i)) ≡ 0x0 ∷ 0x0 ∷ 0x7ffffffe ∷ 0x0 ∷ 0x0 ∷ 0x0 ∷ 0x1 ∷ 0x0 ∷ 0xfd00fd00 ∷ 0x10001 ∷ 0x12345674 ∷ 0x80000000 ∷ 0xffffffdf ∷ 0x0 ∷ 0x2 ∷ 0x7e008000 ∷ []
unfolding lanes add_result
v8subs = refl

v8subs_code : add_op 31 ≡ Some AddUnit.V8subs
unfolding add_op
v8subs_code = refl

mul_mul24 : lanes (λ i. mul_result MulUnit.Mul24 (lane first i) (lane second i)) ≡ 0x0 ∷ 0xffffff ∷ 0xffffff ∷ 0x0 ∷ 0xfe000001 ∷ 0x0 ∷ 0x0 ∷ 0xfe000001 ∷ 0x2040002 ∷ 0x2040002 ∷ 0xd159e0 ∷ 0x0 ∷ 0x1fffffe0 ∷ 0xfe000001 ∷ 0xf ∷ 0x40ffff80 ∷ []
unfolding lanes mul_result
mul_mul24 = refl

mul_mul24_code : mul_op 2 ≡ Some MulUnit.Mul24
unfolding mul_op
mul_mul24_code = refl

mul_v8muld : lanes (λ i. mul_result MulUnit.V8muld (lane first i) (lane second i)) ≡ 0x0 ∷ 0x1 ∷ 0x1 ∷ 0x40000000 ∷ 0xffffffff ∷ 0x0 ∷ 0x0 ∷ 0x3fffffff ∷ 0x2000200 ∷ 0x2000200 ∷ 0x2 ∷ 0x0 ∷ 0x20 ∷ 0xffffff ∷ 0x0 ∷ 0x807f01 ∷ []
unfolding lanes mul_result
mul_v8muld = refl

mul_v8muld_code : mul_op 3 ≡ Some MulUnit.V8muld
unfolding mul_op
mul_v8muld_code = refl

mul_v8min : lanes (λ i. mul_result MulUnit.V8min (lane first i) (lane second i)) ≡ 0x0 ∷ 0x1 ∷ 0x1 ∷ 0x80000000 ∷ 0xffffffff ∷ 0x0 ∷ 0x0 ∷ 0x7fffffff ∷ 0x2010201 ∷ 0x2010201 ∷ 0x4 ∷ 0x0 ∷ 0x20 ∷ 0xffffff ∷ 0x3 ∷ 0x1807f01 ∷ []
unfolding lanes mul_result
mul_v8min = refl

mul_v8min_code : mul_op 4 ≡ Some MulUnit.V8min
unfolding mul_op
mul_v8min_code = refl

mul_v8max : lanes (λ i. mul_result MulUnit.V8max (lane first i) (lane second i)) ≡ 0x0 ∷ 0xffffffff ∷ 0x7fffffff ∷ 0x80000000 ∷ 0xffffffff ∷ 0x1 ∷ 0x80000001 ∷ 0x7fffffff ∷ 0xff02ff02 ∷ 0xff02ff02 ∷ 0x12345678 ∷ 0x8000001f ∷ 0xffffffff ∷ 0xffffff ∷ 0x80000005 ∷ 0x7fffff80 ∷ []
unfolding lanes mul_result
mul_v8max = refl

mul_v8max_code : mul_op 5 ≡ Some MulUnit.V8max
unfolding mul_op
mul_v8max_code = refl

mul_v8adds : lanes (λ i. mul_result MulUnit.V8adds (lane first i) (lane second i)) ≡ 0x0 ∷ 0xffffffff ∷ 0x7fffffff ∷ 0xff000000 ∷ 0xffffffff ∷ 0x1 ∷ 0x80000001 ∷ 0xfeffffff ∷ 0xff03ff03 ∷ 0xff03ff03 ∷ 0x1234567c ∷ 0x8000001f ∷ 0xffffffff ∷ 0xffffff ∷ 0x80000008 ∷ 0x80ffff81 ∷ []
unfolding lanes mul_result
mul_v8adds = refl

mul_v8adds_code : mul_op 6 ≡ Some MulUnit.V8adds
unfolding mul_op
mul_v8adds_code = refl

mul_v8subs : lanes (λ i. mul_result MulUnit.V8subs (lane first i) (lane second i)) ≡ 0x0 ∷ 0x0 ∷ 0x7ffffffe ∷ 0x0 ∷ 0x0 ∷ 0x0 ∷ 0x1 ∷ 0x0 ∷ 0xfd00fd00 ∷ 0x10001 ∷ 0x12345674 ∷ 0x80000000 ∷ 0xffffffdf ∷ 0x0 ∷ 0x2 ∷ 0x7e008000 ∷ []
unfolding lanes mul_result
mul_v8subs = refl

mul_v8subs_code : mul_op 7 ≡ Some MulUnit.V8subs
unfolding mul_op
mul_v8subs_code = refl
