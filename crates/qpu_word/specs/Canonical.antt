-- This project's own: which words of the profile are canonical. One rule after another says that no
-- field speaks where it has no effect.
use Rattle.std.specs.Prelude.{◌≡◌, ℕ, ◌==◌, ◌&&◌, ◌||◌, Bool, true, not, nat_lt, is_none, if◌then◌else◌}
use Rattle.qpu_word.specs.declared.word.Fields.{Fields}
use Rattle.qpu_word.specs.declared.code.TheConstants.{MUX_FILE_A, MUX_FILE_B, NOWHERE, ROWS, ROTATE_BY_R5, WRITE_R5, WRITE_VPM_SETUP, WRITE_DMA_ADDRESS}
use Rattle.qpu_word.specs.Words.{fields_of, is_unit_word, is_small, is_load, is_semaphore, is_branch, add_active, mul_active, add_writes, mul_writes, is_unary, uses, word_fault, IsInProfile}

-- a write address that is another place in file A than in file B
abbrev pub file_matters : ℕ → Bool
file_matters a = nat_lt a ROWS || (a == WRITE_R5) || (a == WRITE_VPM_SETUP) || (a == WRITE_DMA_ADDRESS)

-- the rules

-- a unit of an ALU or small immediate word: where it is idle its fields are 0, and its address 39;
-- where it is active its address is 39 only with the condition always
abbrev pub unit_rule : Bool → ℕ → ℕ → ℕ → ℕ → ℕ → Bool
unit_rule active op cond address x y =
    if active then (if address == NOWHERE then cond == 1 else true)
    else (op == 0) && (cond == 0) && (address == NOWHERE) && (x == 0) && (y == 0)

unfoldable pub add_rule : Fields → Bool
add_rule f = not (is_unit_word f) || unit_rule (add_active f) f.op_add f.cond_add f.waddr_add f.add_a f.add_b

unfoldable pub mul_rule : Fields → Bool
mul_rule f = not (is_unit_word f) || unit_rule (mul_active f) f.op_mul f.cond_mul f.waddr_mul f.mul_a f.mul_b

-- operations with one operand name it twice, and the packing's unit is never chosen
unfoldable pub operand_rule : Fields → Bool
operand_rule f = (f.pm == 0) && (not (add_active f && is_unary f.op_add) || (f.add_b == f.add_a))

-- flags are set only by a unit that is active
unfoldable pub flags_rule : Fields → Bool
flags_rule f = not (is_unit_word f) || (f.sf == 0) || add_active f || mul_active f

-- the files are exchanged only where that matters to a unit that is active, or writes
unfoldable pub exchange_rule : Fields → Bool
exchange_rule f =
    (f.ws == 0)
    || ((add_active f || add_writes f) && file_matters f.waddr_add)
    || ((mul_active f || mul_writes f) && file_matters f.waddr_mul)

-- a row that isn't read isn't named
unfoldable pub row_rule : Fields → Bool
row_rule f =
    not (is_unit_word f)
    || ((not (nat_lt f.raddr_a ROWS) || uses f MUX_FILE_A)
    && (is_small f || not (nat_lt f.raddr_b ROWS) || uses f MUX_FILE_B))

-- a small immediate is used, and a rotation's mul unit is active
unfoldable pub small_rule : Fields → Bool
small_rule f = not (is_small f) || (if nat_lt f.raddr_b ROTATE_BY_R5 then uses f MUX_FILE_B else mul_active f)

-- a unit that doesn't write of a load has the condition never and the address 39
unfoldable pub load_rule : Fields → Bool
load_rule f =
    not (is_load f)
    || ((add_writes f || ((f.cond_add == 0) && (f.waddr_add == NOWHERE)))
    && (mul_writes f || ((f.cond_mul == 0) && (f.waddr_mul == NOWHERE))))

-- a semaphore word says nothing beside its kind, addresses, direction and number
unfoldable pub semaphore_rule : Fields → Bool
semaphore_rule f =
    not (is_semaphore f)
    || ((f.pack == 0) && (f.cond_add == 0) && (f.cond_mul == 0) && (f.sf == 0) && (f.ws == 0) && nat_lt f.immediate 32)

-- a branch has no kind, and names a row only where it adds one
unfoldable pub branch_rule : Fields → Bool
branch_rule f = not (is_branch f) || ((f.kind == 0) && ((f.reg == 1) || (f.raddr_br == 0)))

-- what all rules say of a word's fields
unfoldable pub keeps_rules : Fields → Bool
keeps_rules f =
    add_rule f && mul_rule f && operand_rule f && flags_rule f && exchange_rule f && row_rule f && small_rule f && load_rule f
    && semaphore_rule f && branch_rule f

-- a word of the profile whose fields keep the rules
pub record IsCanonical (word : ℕ) : Type 0 where
  pub inside : IsInProfile word
  pub adds : add_rule (fields_of word) ≡ true
  pub muls : mul_rule (fields_of word) ≡ true
  pub operands : operand_rule (fields_of word) ≡ true
  pub flags : flags_rule (fields_of word) ≡ true
  pub exchange : exchange_rule (fields_of word) ≡ true
  pub rows : row_rule (fields_of word) ≡ true
  pub small : small_rule (fields_of word) ≡ true
  pub loads : load_rule (fields_of word) ≡ true
  pub semaphores : semaphore_rule (fields_of word) ≡ true
  pub branches : branch_rule (fields_of word) ≡ true

-- the same as a test
unfoldable pub is_canonical : ℕ → Bool
is_canonical word = is_none (word_fault word) && keeps_rules (fields_of word)
