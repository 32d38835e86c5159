-- This project's own: the one canonical word of a word's meaning. One equation after another says
-- what each of its fields holds.
use Rattle.std.specs.Prelude.{ℕ, ◌%◌, ◌^◌, ◌==◌, ◌&&◌, ◌||◌, Bool, not, nat_lt, Result, Ok, Err, if◌then◌else◌}
use Rattle.qpu_word.specs.declared.word.Fields.{Fields}
use Rattle.qpu_word.specs.declared.form.Form.{Form}
use Rattle.qpu_word.specs.declared.form.Form.TheVariants.{Alu, Small, Load32, LoadSigned, LoadUnsigned, Semaphore, Branch}
use Rattle.qpu_word.specs.declared.fault.WordFault.{WordFault}
use Rattle.qpu_word.specs.declared.code.TheConstants.{SIGNAL_NONE, MUX_FILE_A, MUX_FILE_B, NOWHERE, ROWS, ROTATE_BY_R5}
use Rattle.qpu_word.specs.Words.{fields_of, is_small, add_active, mul_active, add_writes, mul_writes, is_unary, uses}
use Rattle.qpu_word.specs.Form.{word_form}
use Rattle.qpu_word.specs.Packed.{unit_word, immediate_word, branch_word}
use Rattle.qpu_word.specs.Canonical.{file_matters}

-- the files are exchanged, and that matters to a unit that is active, or writes
abbrev pub exchange_matters : Fields → Bool
exchange_matters f =
    ((add_active f || add_writes f) && file_matters f.waddr_add) || ((mul_active f || mul_writes f) && file_matters f.waddr_mul)

-- the code of a small immediate word has an effect
abbrev pub code_acts : Fields → Bool
code_acts f = if nat_lt f.raddr_b ROTATE_BY_R5 then uses f MUX_FILE_B else mul_active f

-- a field of a unit that acts; else 0
abbrev pub said_by : Bool → ℕ → ℕ
said_by acts n = if acts then n else 0

-- the address of a unit that acts; else 39
abbrev pub address_by : Bool → ℕ → ℕ
address_by acts address = if acts then address else NOWHERE

-- the condition of a unit that acts, which is always where its address is 39; else 0
abbrev pub cond_by : Bool → ℕ → ℕ → ℕ
cond_by acts address cond = said_by acts (if address == NOWHERE then 1 else cond)

-- a read address; 39 in place of a row that isn't read
abbrev pub row_by : Bool → ℕ → ℕ
row_by used address = if nat_lt address ROWS && not used then NOWHERE else address

-- the signal and the field of file B, where a code has no effect
unfoldable pub canonical_signal : Fields → ℕ
canonical_signal f = if is_small f && not (code_acts f) then SIGNAL_NONE else f.sig

unfoldable pub canonical_row_b : Fields → ℕ
canonical_row_b f = if is_small f then address_by (code_acts f) f.raddr_b else row_by (uses f MUX_FILE_B) f.raddr_b

-- whether the files are exchanged
unfoldable pub canonical_exchange : Fields → ℕ
canonical_exchange f = said_by (exchange_matters f) f.ws

-- the second operand of the add unit
abbrev pub second_by : Fields → ℕ
second_by f = if is_unary f.op_add then f.add_a else f.add_b

-- the fields of an ALU or small immediate word
unfoldable pub canonical_units : Fields → Fields
canonical_units f = record f {
  sig = canonical_signal f;
  pm = 0;
  cond_add = cond_by (add_active f) f.waddr_add f.cond_add;
  cond_mul = cond_by (mul_active f) f.waddr_mul f.cond_mul;
  sf = said_by (add_active f || mul_active f) f.sf;
  ws = canonical_exchange f;
  waddr_add = address_by (add_active f) f.waddr_add;
  waddr_mul = address_by (mul_active f) f.waddr_mul;
  op_mul = said_by (mul_active f) f.op_mul;
  op_add = said_by (add_active f) f.op_add;
  raddr_a = row_by (uses f MUX_FILE_A) f.raddr_a;
  raddr_b = canonical_row_b f;
  add_a = said_by (add_active f) f.add_a;
  add_b = said_by (add_active f) (second_by f);
  mul_a = said_by (mul_active f) f.mul_a;
  mul_b = said_by (mul_active f) f.mul_b;
}

-- the fields of a load immediate
unfoldable pub canonical_load : Fields → Fields
canonical_load f = record f {
  pm = 0;
  cond_add = said_by (add_writes f) f.cond_add;
  cond_mul = said_by (mul_writes f) f.cond_mul;
  ws = canonical_exchange f;
  waddr_add = address_by (add_writes f) f.waddr_add;
  waddr_mul = address_by (mul_writes f) f.waddr_mul;
}

-- the fields of a semaphore word: the low five bits are its direction and its number
unfoldable pub canonical_semaphore : Fields → Fields
canonical_semaphore f = record f { pm = 0; pack = 0; cond_add = 0; cond_mul = 0; sf = 0; ws = 0; immediate = f.immediate % 2 ^ 5 }

-- the fields of a branch
unfoldable pub canonical_branch : Fields → Fields
canonical_branch f = record f { kind = 0; pm = 0; ws = canonical_exchange f; raddr_br = said_by (f.reg == 1) f.raddr_br }

-- the canonical word of a word's fields, by its form
unfoldable pub canonical_of_form : Form → Fields → ℕ
canonical_of_form Alu f = unit_word (canonical_units f)
canonical_of_form Small f = unit_word (canonical_units f)
canonical_of_form Load32 f = immediate_word (canonical_load f)
canonical_of_form LoadSigned f = immediate_word (canonical_load f)
canonical_of_form LoadUnsigned f = immediate_word (canonical_load f)
canonical_of_form Semaphore f = immediate_word (canonical_semaphore f)
canonical_of_form Branch f = branch_word (canonical_branch f)

-- the canonical word of a word; a word outside the profile itself
abbrev pub canonical_by : Result Form WordFault → ℕ → ℕ
canonical_by (Ok form) word = canonical_of_form form (fields_of word)
canonical_by (Err fault) word = word

unfoldable pub canonical_word : ℕ → ℕ
canonical_word word = canonical_by (word_form word) word
