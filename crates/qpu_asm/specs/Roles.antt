-- What names stand for, by where they stand. The codes and addresses are those of the VideoCore IV 3D
-- Architecture Reference Guide, "QPU Instruction Encoding" and "QPU Register Address Map"; the names are
-- this project's own.
use Rattle.std.specs.Prelude.{ℕ, ◌+◌, ◌==◌, ◌&&◌, Bool, true, false, not, nat_lt, find, Option, Some, None, is_some, if◌then◌else◌}
use Rattle.std.specs.List.{range_with_len}
use Rattle.qpu_word.specs.declared.operation.AddOp.{AddOp}
use Rattle.qpu_word.specs.declared.operation.AddOp.TheVariants as add
use Rattle.qpu_word.specs.declared.operation.MulOp.{MulOp}
use Rattle.qpu_word.specs.declared.operation.MulOp.TheVariants as mul
use Rattle.qpu_word.specs.declared.name.Place.{Place}
use Rattle.qpu_word.specs.declared.name.Place.TheVariants as place
use Rattle.qpu_word.specs.Operands.{small_value}
use Rattle.qpu_word.specs.Words.{is_link_address}
use Rattle.qpu_line.specs.Targets.{address_of, is_row_a}
use Rattle.qpu_word.specs.declared.code.TheConstants.{READ_VPM, WRITE_R0, WRITE_VPM}
use Rattle.qpu_line.specs.declared.operand.Operand.{Operand}
use Rattle.qpu_line.specs.declared.operand.Operand.TheVariants as operand
use Rattle.qpu_line.specs.declared.name.Name.{Name}
use Rattle.qpu_line.specs.declared.name.Name.TheVariants as name
use Rattle.qpu_line.specs.declared.name.Register.{Register}
use Rattle.qpu_line.specs.declared.name.Register.TheVariants as register

-- operations

abbrev pub add_code : AddOp → ℕ
add_code add.Add = 12
add_code add.Sub = 13
add_code add.Shr = 14
add_code add.Asr = 15
add_code add.Ror = 16
add_code add.Shl = 17
add_code add.Min = 18
add_code add.Max = 19
add_code add.And = 20
add_code add.Or = 21
add_code add.Xor = 22
add_code add.Not = 23
add_code add.Clz = 24
add_code add.V8adds = 30
add_code add.V8subs = 31

abbrev pub mul_code : MulOp → ℕ
mul_code mul.Mul24 = 2
mul_code mul.V8muld = 3
mul_code mul.V8min = 4
mul_code mul.V8max = 5
mul_code mul.V8adds = 6
mul_code mul.V8subs = 7

-- in the add unit's part; `mov` is an `or`
abbrev pub op_in_add : Name → Option ℕ
op_in_add (name.Add op) = Some (add_code op)
op_in_add name.Mov = Some (add_code add.Or)
op_in_add _ = None

-- in the mul unit's part; `mov` is a `v8min`
abbrev pub op_in_mul : Name → Option ℕ
op_in_mul (name.Mul op) = Some (mul_code op)
op_in_mul (name.Add add.V8adds) = Some (mul_code mul.V8adds)
op_in_mul (name.Add add.V8subs) = Some (mul_code mul.V8subs)
op_in_mul name.Mov = Some (mul_code mul.V8min)
op_in_mul _ = None

-- one operand is written, that counts as both
abbrev pub takes_one : Name → Bool
takes_one name.Mov = true
takes_one (name.Add add.Not) = true
takes_one (name.Add add.Clz) = true
takes_one _ = false

-- registers

-- as a target
abbrev pub target_register : Register → Option Place
target_register (register.Accumulator n) = if nat_lt n 4 then Some (place.Both (WRITE_R0 + n)) else None
target_register (register.RowA n) = Some (place.FileA n)
target_register (register.RowB n) = Some (place.FileB n)
target_register register.Vpm = Some (place.Both WRITE_VPM)
target_register (register.Source p) = None
target_register (register.Target p) = Some p

abbrev pub target_meant : Name → Option Place
target_meant (name.Register r) = target_register r
target_meant _ = None

-- as an operand, without unpacking
abbrev pub source_register : Register → Option Operand
source_register (register.Accumulator n) = Some (operand.Accumulator n)
source_register (register.RowA n) = Some (operand.FileA n 0)
source_register (register.RowB n) = Some (operand.FileB n)
source_register register.Vpm = Some (operand.FileA READ_VPM 0)
source_register (register.Source (place.FileA n)) = Some (operand.FileA n 0)
source_register (register.Source (place.FileB n)) = Some (operand.FileB n)
source_register (register.Source (place.Both n)) = None
source_register (register.Target p) = None

abbrev pub source_of : Name → Option Operand
source_of (name.Register r) = source_register r
source_of _ = None

-- what a branch links to: rows, r0 to r3 and `-`
abbrev pub if_link : Option Place → Option Place
if_link None = None
if_link (Some p) = if is_link_address (address_of p) then Some p else None

-- suffixes

abbrev pub pack_of : Name → Option ℕ
pack_of (name.Pack mode) = Some mode
pack_of _ = None

abbrev pub unpack_of : Name → Option ℕ
unpack_of (name.Pack mode) = if nat_lt mode 8 && not (mode == 3) then Some mode else None
unpack_of name.Replicate = Some 3
unpack_of _ = None

-- a name that may be there or not
abbrev pub is_condition : Option Name → Bool
is_condition (Some (name.Condition n)) = true
is_condition _ = false

abbrev pub is_set_flags : Option Name → Bool
is_set_flags (Some name.SetFlags) = true
is_set_flags _ = false

abbrev pub is_branch_condition : Option Name → Bool
is_branch_condition (Some (name.BranchCondition n)) = true
is_branch_condition _ = false

abbrev pub is_pack : Option Name → Bool
is_pack None = false
is_pack (Some n) = is_some (pack_of n)

abbrev pub is_row : Option Place → Bool
is_row None = false
is_row (Some p) = is_row_a p

abbrev pub unpack_name : Option Name → Option ℕ
unpack_name None = None
unpack_name (Some n) = unpack_of n

-- the code of a small immediate with a value
unfoldable pub code_of : ℕ → Option ℕ
code_of value = find (λ code. small_value code == value) (range_with_len 0 48)

-- a part of a line may begin with this name
abbrev pub is_mnemonic : Name → Bool
is_mnemonic name.SetFlags = false
is_mnemonic name.Word = false
is_mnemonic name.Set = false
is_mnemonic (name.Condition n) = false
is_mnemonic (name.BranchCondition n) = false
is_mnemonic (name.Pack n) = false
is_mnemonic name.Replicate = false
is_mnemonic (name.Register r) = false
is_mnemonic _ = true
