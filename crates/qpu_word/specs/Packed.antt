-- VideoCore IV 3D Architecture Reference Guide, "QPU Instruction Encoding": where the fields of a
-- word stand, form by form. Of each number as many low bits count as its field has.
use Rattle.std.specs.Prelude.{ℕ, ◌+◌, ◌*◌, ◌%◌, ◌^◌}
use Rattle.qpu_word.specs.declared.word.Fields.{Fields}

-- what the upper halves of all forms share: the signal, and from the exchange of the files down
abbrev pub ends_of : Fields → ℕ
ends_of f = f.sig % 16 * 2 ^ 28 + f.ws % 2 * 2 ^ 12 + f.waddr_add % 64 * 2 ^ 6 + f.waddr_mul % 64

-- what the upper halves of words other than branches share
abbrev pub high_of : Fields → ℕ
high_of f = ends_of f + f.pm % 2 * 2 ^ 24 + f.pack % 16 * 2 ^ 20 + f.cond_add % 8 * 2 ^ 17 + f.cond_mul % 8 * 2 ^ 14 + f.sf % 2 * 2 ^ 13

-- the upper half of a branch
abbrev pub branch_high : Fields → ℕ
branch_high f =
    ends_of f + f.kind % 8 * 2 ^ 25 + f.pm % 2 * 2 ^ 24 + f.cond_br % 16 * 2 ^ 20 + f.rel % 2 * 2 ^ 19 + f.reg % 2 * 2 ^ 18 + f.raddr_br % 32 * 2 ^ 13

-- the lower half of an ALU or small immediate word
abbrev pub unit_low : Fields → ℕ
unit_low f =
    f.op_mul % 8 * 2 ^ 29
    + f.op_add % 32 * 2 ^ 24
    + f.raddr_a % 64 * 2 ^ 18
    + f.raddr_b % 64 * 2 ^ 12
    + f.add_a % 8 * 2 ^ 9
    + f.add_b % 8 * 2 ^ 6
    + f.mul_a % 8 * 2 ^ 3
    + f.mul_b % 8

-- an ALU or small immediate word
unfoldable pub unit_word : Fields → ℕ
unit_word f = (high_of f + f.unpack % 8 * 2 ^ 25) * 2 ^ 32 + unit_low f

-- a load immediate or semaphore word
unfoldable pub immediate_word : Fields → ℕ
immediate_word f = (high_of f + f.kind % 8 * 2 ^ 25) * 2 ^ 32 + f.immediate % 2 ^ 32

-- a branch
unfoldable pub branch_word : Fields → ℕ
branch_word f = branch_high f * 2 ^ 32 + f.immediate % 2 ^ 32
