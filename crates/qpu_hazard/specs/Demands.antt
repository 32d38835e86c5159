-- VideoCore IV 3D Architecture Reference Guide, "QPU Instruction Encoding" and "QPU Core
-- Architecture": what the hazard rules ask of one word, and of two words executed one after the
-- other. Which of them the rules join is told by each rule.
use Rattle.std.specs.Prelude.{ℕ, ◌+◌, ◌==◌, ◌&&◌, ◌||◌, Bool, false, not, nat_lt, nat_le, Option, Some, None, is_some, if◌then◌else◌}
use Rattle.qpu_word.specs.declared.word.Fields.{Fields}
use Rattle.qpu_word.specs.declared.operation.AddOp.{AddOp}
use Rattle.qpu_word.specs.declared.code.TheConstants.{COND_ALWAYS, MUX_FILE_A, MUX_FILE_B, ROWS, NOWHERE, READ_UNIFORM, READ_VPM, READ_DMA_BUSY, READ_DMA_WAIT, READ_MUTEX, WRITE_R0, WRITE_R3, WRITE_R5, WRITE_UNIFORMS_ADDRESS, WRITE_VPM, WRITE_VPM_SETUP, WRITE_DMA_ADDRESS, WRITE_TMU0_S, WRITE_TMU1_S, ROTATE_BY_R5}
use Rattle.qpu_word.specs.Words.{one_if, between, is_alu, is_small, is_load, is_semaphore, is_branch, is_tmu_load, add_active, mul_active, add_writes, mul_writes, uses, reads, reads_a, reads_b, writes, writes_a, writes_b}
use Rattle.qpu_word.specs.Operations.{add_op, add_carry}
use Rattle.qpu_word.specs.Instruction.{is_look_address}
use Rattle.qpu_hazard.specs.declared.demands.TheConstants.{END_ROW, MUX_R3, MUX_R4, COND_ZN_FIRST, COND_ZN_LAST, COND_C_FIRST, COND_C_LAST, BRANCH_ZN_LAST, BRANCH_C_FIRST, BRANCH_C_LAST}

-- rows

-- an active unit reads the row of file A that its field names
abbrev pub takes_row_a : Fields → Bool
takes_row_a f = uses f MUX_FILE_A && nat_lt f.raddr_a ROWS

-- an active unit reads the row of file B that its field names; a small immediate is no row
abbrev pub takes_row_b : Fields → Bool
takes_row_b f = uses f MUX_FILE_B && is_alu f && nat_lt f.raddr_b ROWS

-- a branch adds a row of file A to its target
abbrev pub adds_row : Fields → Bool
adds_row f = is_branch f && (f.reg == 1)

-- a word reads a row that the word before wrote
unfoldable pub row_conflict : Fields → Fields → Bool
row_conflict before f =
    (takes_row_a f && writes_a before f.raddr_a)
    || (takes_row_b f && writes_b before f.raddr_b)
    || (adds_row f && writes_a before f.raddr_br)

-- a word reads a row of this number in either file
abbrev pub reads_row : Fields → ℕ → Bool
reads_row f row =
    (takes_row_a f && (f.raddr_a == row)) || (takes_row_b f && (f.raddr_b == row)) || (adds_row f && (f.raddr_br == row))

-- a word writes a row of either file
unfoldable pub writes_row : Fields → Bool
writes_row f = (add_writes f && nat_lt f.waddr_add ROWS) || (mul_writes f && nat_lt f.waddr_mul ROWS)

-- a word reads or writes row 14 of either file
unfoldable pub touches_end_row : Fields → Bool
touches_end_row f = reads_row f END_ROW || writes f END_ROW

-- rotations

-- a rotation of what the active mul unit computes
abbrev pub rotates : Fields → Bool
rotates f = is_small f && nat_le ROTATE_BY_R5 f.raddr_b && mul_active f

-- a rotation by r5 directly after a write of r5
unfoldable pub rotation_conflict : Fields → Fields → Bool
rotation_conflict before f = rotates f && (f.raddr_b == ROTATE_BY_R5) && writes before WRITE_R5

-- a word writes the accumulator of a mux, r0 to r3
abbrev pub writes_mux : Fields → ℕ → Bool
writes_mux f mux = nat_le mux MUX_R3 && writes f (WRITE_R0 + mux)

-- a rotation of an accumulator directly after its write
unfoldable pub rotated_conflict : Fields → Fields → Bool
rotated_conflict before f = rotates f && (writes_mux before f.mul_a || writes_mux before f.mul_b)

-- uniforms, the VPM and DMA

-- a word reads a uniform shortly after the uniforms address was written
unfoldable pub uniform_conflict : Fields → Fields → Bool
uniform_conflict before f = writes before WRITE_UNIFORMS_ADDRESS && reads f READ_UNIFORM

-- a word accesses uniforms, the VPM or DMA
unfoldable pub accesses : Fields → Bool
accesses f =
    reads f READ_UNIFORM || writes f WRITE_UNIFORMS_ADDRESS
    || reads f READ_VPM || reads f READ_DMA_BUSY || reads f READ_DMA_WAIT
    || writes f WRITE_VPM || writes f WRITE_VPM_SETUP || writes f WRITE_DMA_ADDRESS

-- how often a word accesses the VPM
unfoldable pub vpm_accesses : Fields → ℕ
vpm_accesses f =
    one_if (reads_a f READ_VPM) + one_if (reads_b f READ_VPM)
    + one_if (add_writes f && (f.waddr_add == WRITE_VPM)) + one_if (mul_writes f && (f.waddr_mul == WRITE_VPM))

-- what only one of may stand in a word

-- how many look-ups, TMU loads, acquirings of the mutex and semaphore steps a word has
unfoldable pub actions : Fields → ℕ
actions f =
    one_if (add_writes f && is_look_address f.waddr_add) + one_if (mul_writes f && is_look_address f.waddr_mul)
    + one_if (is_tmu_load f 0 || is_tmu_load f 1)
    + one_if (reads_a f READ_MUTEX) + one_if (reads_b f READ_MUTEX)
    + one_if (is_semaphore f)

-- an address that is one place, whichever unit writes it: rows, and the addresses of setups and of
-- DMA, are other places in file A and in file B
abbrev pub is_one_place : ℕ → Bool
is_one_place address =
    nat_le ROWS address && not (address == WRITE_VPM_SETUP) && not (address == WRITE_DMA_ADDRESS)

-- both units write one place
unfoldable pub writes_one_place : Fields → Bool
writes_one_place f =
    add_writes f && mul_writes f && (f.waddr_add == f.waddr_mul) && is_one_place f.waddr_add

-- conditions

-- a unit writes an address behind the accumulators r0 to r3 by a condition other than always
unfoldable pub writes_by_condition : Fields → Bool
writes_by_condition f =
    (add_writes f && nat_lt WRITE_R3 f.waddr_add && not (f.cond_add == COND_ALWAYS))
    || (mul_writes f && nat_lt WRITE_R3 f.waddr_mul && not (f.cond_mul == COND_ALWAYS))

-- the add unit tests by its condition: where it is active, or a load writes
abbrev pub add_tests : Fields → Bool
add_tests f = add_active f || (is_load f && not (f.waddr_add == NOWHERE))

-- the mul unit tests by its condition
abbrev pub mul_tests : Fields → Bool
mul_tests f = mul_active f || (is_load f && not (f.waddr_mul == NOWHERE))

-- a word tests Z or N
unfoldable pub tests_zn : Fields → Bool
tests_zn f =
    (add_tests f && between COND_ZN_FIRST f.cond_add COND_ZN_LAST)
    || (mul_tests f && between COND_ZN_FIRST f.cond_mul COND_ZN_LAST)
    || (is_branch f && nat_le f.cond_br BRANCH_ZN_LAST)

-- a word tests C
unfoldable pub tests_carry : Fields → Bool
tests_carry f =
    (add_tests f && between COND_C_FIRST f.cond_add COND_C_LAST)
    || (mul_tests f && between COND_C_FIRST f.cond_mul COND_C_LAST)
    || (is_branch f && between BRANCH_C_FIRST f.cond_br BRANCH_C_LAST)

-- a word sets the flags
unfoldable pub sets_flags : Fields → Bool
sets_flags f = (f.sf == 1) && (add_active f || mul_active f || is_load f)

-- an operation of the add unit has a carry
abbrev pub has_carry : Option AddOp → Bool
has_carry None = false
has_carry (Some op) = is_some (add_carry op)

-- a setting of the flags defines C: by the add unit's add or sub
unfoldable pub defines_carry : Fields → Bool
defines_carry f = add_active f && has_carry (add_op f.op_add)

-- look-ups

-- a word uses r4
unfoldable pub uses_r4 : Fields → Bool
uses_r4 f = uses f MUX_R4

-- a word loads r4
unfoldable pub loads_r4 : Fields → Bool
loads_r4 f = is_tmu_load f 0 || is_tmu_load f 1

-- the address whose writes are look-ups of a unit
abbrev pub look_place : ℕ → ℕ
look_place unit = if unit == 0 then WRITE_TMU0_S else WRITE_TMU1_S

-- the look-ups of a unit that a word makes
unfoldable pub looks_made : Fields → ℕ → ℕ
looks_made f unit =
    one_if (add_writes f && (f.waddr_add == look_place unit)) + one_if (mul_writes f && (f.waddr_mul == look_place unit))

-- the look-ups of a unit that a word takes
unfoldable pub looks_taken : Fields → ℕ → ℕ
looks_taken f unit = one_if (is_tmu_load f unit)
