-- This project's own: how the names of the assembler's language are spelled. Those of registers that
-- stand under an address are the names of that address.
use Rattle.std.specs.Prelude.{ℕ, ◌==◌, Bool, true, false, List, [], codes, Option, Some, None, if◌then◌else◌}
use Rattle.qpu_word.specs.declared.operation.AddOp.{AddOp}
use Rattle.qpu_word.specs.declared.operation.AddOp.TheVariants as add
use Rattle.qpu_word.specs.declared.operation.MulOp.{MulOp}
use Rattle.qpu_word.specs.declared.operation.MulOp.TheVariants as mul
use Rattle.qpu_word.specs.declared.name.Place.{Place}
use Rattle.qpu_word.specs.declared.name.Place.TheVariants.{Both, FileA, FileB}
use Rattle.qpu_word.specs.Names.{read_name, write_name}
use Rattle.qpu_line.specs.declared.load.LoadKind.{LoadKind}
use Rattle.qpu_line.specs.declared.load.LoadKind.TheVariants.{Whole, Signed, Unsigned}
use Rattle.qpu_line.specs.declared.name.Name.{Name}
use Rattle.qpu_line.specs.declared.name.Name.TheVariants as name
use Rattle.qpu_line.specs.declared.name.Register.{Register}
use Rattle.qpu_line.specs.declared.name.Register.TheVariants as register

abbrev pub add_spelling : AddOp → List ℕ
add_spelling add.Add = codes "add"
add_spelling add.Sub = codes "sub"
add_spelling add.Shr = codes "shr"
add_spelling add.Asr = codes "asr"
add_spelling add.Ror = codes "ror"
add_spelling add.Shl = codes "shl"
add_spelling add.Min = codes "min"
add_spelling add.Max = codes "max"
add_spelling add.And = codes "and"
add_spelling add.Or = codes "or"
add_spelling add.Xor = codes "xor"
add_spelling add.Not = codes "not"
add_spelling add.Clz = codes "clz"
add_spelling add.V8adds = codes "v8adds"
add_spelling add.V8subs = codes "v8subs"

abbrev pub mul_spelling : MulOp → List ℕ
mul_spelling mul.Mul24 = codes "mul24"
mul_spelling mul.V8muld = codes "v8muld"
mul_spelling mul.V8min = codes "v8min"
mul_spelling mul.V8max = codes "v8max"
mul_spelling mul.V8adds = codes "v8adds"
mul_spelling mul.V8subs = codes "v8subs"

abbrev pub load_spelling : LoadKind → List ℕ
load_spelling Whole = codes "ldi"
load_spelling Signed = codes "ldis"
load_spelling Unsigned = codes "ldiu"

-- write conditions by their codes
abbrev pub condition_spelling : ℕ → List ℕ
condition_spelling n =
    if n == 2 then codes "ifz"
    else if n == 3 then codes "ifnz"
    else if n == 4 then codes "ifn"
    else if n == 5 then codes "ifnn"
    else if n == 6 then codes "ifc"
    else if n == 7 then codes "ifnc"
    else []

-- branch conditions by their codes
abbrev pub branch_condition_spelling : ℕ → List ℕ
branch_condition_spelling n =
    if n == 0 then codes "allz"
    else if n == 1 then codes "allnz"
    else if n == 2 then codes "anyz"
    else if n == 3 then codes "anynz"
    else if n == 4 then codes "alln"
    else if n == 5 then codes "allnn"
    else if n == 6 then codes "anyn"
    else if n == 7 then codes "anynn"
    else if n == 8 then codes "allc"
    else if n == 9 then codes "allnc"
    else if n == 10 then codes "anyc"
    else if n == 11 then codes "anync"
    else []

-- pack modes
abbrev pub pack_spelling : ℕ → List ℕ
pack_spelling n =
    if n == 1 then codes "16a"
    else if n == 2 then codes "16b"
    else if n == 3 then codes "8abcd"
    else if n == 4 then codes "8a"
    else if n == 5 then codes "8b"
    else if n == 6 then codes "8c"
    else if n == 7 then codes "8d"
    else if n == 9 then codes "16as"
    else if n == 10 then codes "16bs"
    else if n == 11 then codes "8abcds"
    else if n == 12 then codes "8as"
    else if n == 13 then codes "8bs"
    else if n == 14 then codes "8cs"
    else if n == 15 then codes "8ds"
    else []

abbrev pub accumulator_spelling : ℕ → List ℕ
accumulator_spelling n =
    if n == 0 then codes "r0"
    else if n == 1 then codes "r1"
    else if n == 2 then codes "r2"
    else if n == 3 then codes "r3"
    else if n == 4 then codes "r4"
    else if n == 5 then codes "r5"
    else []

-- the name of a place in a table of names by file and address
abbrev pub place_name : (Bool → ℕ → Option (List ℕ)) → Place → Option (List ℕ)
place_name names (Both address) = names false address
place_name names (FileA address) = names false address
place_name names (FileB address) = names true address

abbrev pub or_nothing : Option (List ℕ) → List ℕ
or_nothing None = []
or_nothing (Some name) = name

unfoldable pub register_spelling : Register → List ℕ
register_spelling (register.Accumulator n) = accumulator_spelling n
register_spelling (register.RowA n) = or_nothing (place_name read_name (FileA n))
register_spelling (register.RowB n) = or_nothing (place_name read_name (FileB n))
register_spelling register.Vpm = codes "vpm"
register_spelling (register.Source place) = or_nothing (place_name read_name place)
register_spelling (register.Target place) = or_nothing (place_name write_name place)

-- the spelling of a name; none where a number in it stands for none
unfoldable pub spelling : Name → List ℕ
spelling (name.Add op) = add_spelling op
spelling (name.Mul op) = mul_spelling op
spelling name.Nop = codes "nop"
spelling name.Mov = codes "mov"
spelling (name.Load kind) = load_spelling kind
spelling name.Also = codes "also"
spelling name.Increment = codes "sinc"
spelling name.Decrement = codes "sdec"
spelling name.Branch = codes "bra"
spelling name.RelativeBranch = codes "brr"
spelling name.Link = codes "link"
spelling name.Row = codes "reg"
spelling name.End = codes "thrend"
spelling name.Load0 = codes "ldtmu0"
spelling name.Load1 = codes "ldtmu1"
spelling name.Rotate = codes "rot"
spelling name.ReadA = codes "reada"
spelling name.ReadB = codes "readb"
spelling name.SetFlags = codes "setf"
spelling name.Word = codes "word"
spelling name.Set = codes "set"
spelling (name.Condition n) = condition_spelling n
spelling (name.BranchCondition n) = branch_condition_spelling n
spelling (name.Pack n) = pack_spelling n
spelling name.Replicate = codes "8dr"
spelling (name.Register r) = register_spelling r
