-- VideoCore IV 3D Architecture Reference Guide, "QPU Instruction Encoding" and "QPU Register
-- Address Map": the fields of an instruction word, and which units act. The profile, its faults,
-- and local and shared words are this project's own.
use Rattle.std.specs.Prelude.{◌≡◌, if◌then◌else◌, ℕ, ◌+◌, ◌/◌, ◌%◌, ◌^◌, ◌==◌, ◌&&◌, ◌||◌, Bool, not, nat_lt, nat_le, List, [], ◌∷◌, Option, None, find, map}
use Rattle.qpu_word.specs.declared.word.Word.{Word}
use Rattle.qpu_word.specs.declared.word.Fields.{Fields}
use Rattle.qpu_word.specs.declared.fault.WordFault.{WordFault}
use Rattle.qpu_word.specs.declared.fault.WordFault.TheVariants.{Signal, FloatOp, ReservedOp, ReadAddress, WriteAddress, Packing, BranchCond, LoadKind, Rotation, SemaphoreTarget, NoSource}
use Rattle.qpu_word.specs.declared.code.TheConstants.{SIGNAL_NONE, SIGNAL_PROGRAM_END, SIGNAL_LOAD_TMU0, SIGNAL_LOAD_TMU1, SIGNAL_SMALL_IMMEDIATE, SIGNAL_LOAD_IMMEDIATE, SIGNAL_BRANCH, KIND_LOAD, KIND_LOAD_SIGNED, KIND_LOAD_UNSIGNED, KIND_SEMAPHORE, MUX_FILE_A, MUX_FILE_B, ROWS, NOWHERE, READ_UNIFORM, READ_NUMBER, READ_VPM, READ_DMA_BUSY, READ_DMA_WAIT, READ_MUTEX, WRITE_R3, WRITE_R5, WRITE_HOST_INT, WRITE_UNIFORMS_ADDRESS, WRITE_VPM, WRITE_VPM_SETUP, WRITE_DMA_ADDRESS, WRITE_MUTEX, WRITE_TMU0_S, WRITE_TMU1_S, ROTATE_BY_R5}

-- 1 where a test holds, else 0
abbrev pub one_if : Bool → ℕ
one_if test = if test then 1 else 0

-- the numbers of words
unfoldable pub numbers_of : List Word → List ℕ
numbers_of words = map (λ (word : Word). word.0) words

-- bits low to low + n - 1 of a word
abbrev pub field : ℕ → ℕ → ℕ → ℕ
field word low n = word / 2 ^ low % 2 ^ n

-- the fields of a word, whatever its form
abbrev pub fields_of : ℕ → Fields
fields_of word = record {
  sig = field word 60 4;
  unpack = field word 57 3;
  pm = field word 56 1;
  pack = field word 52 4;
  cond_add = field word 49 3;
  cond_mul = field word 46 3;
  sf = field word 45 1;
  ws = field word 44 1;
  waddr_add = field word 38 6;
  waddr_mul = field word 32 6;
  op_mul = field word 29 3;
  op_add = field word 24 5;
  raddr_a = field word 18 6;
  raddr_b = field word 12 6;
  add_a = field word 9 3;
  add_b = field word 6 3;
  mul_a = field word 3 3;
  mul_b = field word 0 3;
  kind = field word 57 3;
  immediate = field word 0 32;
  down = field word 4 1;
  number = field word 0 4;
  cond_br = field word 52 4;
  rel = field word 51 1;
  reg = field word 50 1;
  raddr_br = field word 45 5;
}

-- a number from low to high
abbrev pub between : ℕ → ℕ → ℕ → Bool
between low n high = nat_le low n && nat_le n high

-- the forms of words, by their signal

-- an ALU word without a small immediate
abbrev pub is_alu : Fields → Bool
is_alu f = (f.sig == SIGNAL_NONE) || (f.sig == SIGNAL_PROGRAM_END) || (f.sig == SIGNAL_LOAD_TMU0) || (f.sig == SIGNAL_LOAD_TMU1)

-- an ALU word with a small immediate or a rotation
abbrev pub is_small : Fields → Bool
is_small f = f.sig == SIGNAL_SMALL_IMMEDIATE

-- a word in which both units compute
abbrev pub is_unit_word : Fields → Bool
is_unit_word f = is_alu f || is_small f

-- a load immediate
abbrev pub is_load : Fields → Bool
is_load f = (f.sig == SIGNAL_LOAD_IMMEDIATE) && ((f.kind == KIND_LOAD) || (f.kind == KIND_LOAD_SIGNED) || (f.kind == KIND_LOAD_UNSIGNED))

-- a semaphore word
abbrev pub is_semaphore : Fields → Bool
is_semaphore f = (f.sig == SIGNAL_LOAD_IMMEDIATE) && (f.kind == KIND_SEMAPHORE)

-- a branch
abbrev pub is_branch : Fields → Bool
is_branch f = f.sig == SIGNAL_BRANCH

-- a program end
abbrev pub is_program_end : Fields → Bool
is_program_end f = f.sig == SIGNAL_PROGRAM_END

-- a TMU load, of unit 0 or 1
abbrev pub is_tmu_load : Fields → ℕ → Bool
is_tmu_load f unit = f.sig == (SIGNAL_LOAD_TMU0 + unit)

-- which units act

-- the add unit of an ALU or small immediate word computes: its operation isn't nop, its condition isn't never
abbrev pub add_active : Fields → Bool
add_active f = is_unit_word f && not (f.op_add == 0) && not (f.cond_add == 0)

-- the mul unit of an ALU or small immediate word computes
abbrev pub mul_active : Fields → Bool
mul_active f = is_unit_word f && not (f.op_mul == 0) && not (f.cond_mul == 0)

-- the add unit's place is written: of an active unit, of a load, or of a branch that links
abbrev pub add_writes : Fields → Bool
add_writes f = not (f.waddr_add == NOWHERE) && (add_active f || (is_load f && not (f.cond_add == 0)) || is_branch f)

-- the mul unit's place is written
abbrev pub mul_writes : Fields → Bool
mul_writes f = not (f.waddr_mul == NOWHERE) && (mul_active f || (is_load f && not (f.cond_mul == 0)) || is_branch f)

-- what the units read

-- the operation doesn't use its second operand: not and clz
abbrev pub is_unary : ℕ → Bool
is_unary op_add = (op_add == 23) || (op_add == 24)

-- an active add unit uses a mux
abbrev pub add_uses : Fields → ℕ → Bool
add_uses f mux = add_active f && ((f.add_a == mux) || (not (is_unary f.op_add) && (f.add_b == mux)))

-- an active mul unit uses a mux
abbrev pub mul_uses : Fields → ℕ → Bool
mul_uses f mux = mul_active f && ((f.mul_a == mux) || (f.mul_b == mux))

-- an active unit uses a mux
abbrev pub uses : Fields → ℕ → Bool
uses f mux = add_uses f mux || mul_uses f mux

-- a read address past the rows stands in the field of file A; it acts whether or not a unit uses it
abbrev pub reads_a : Fields → ℕ → Bool
reads_a f address = is_unit_word f && (f.raddr_a == address)

-- the same of file B, whose field is no address in a small immediate word
abbrev pub reads_b : Fields → ℕ → Bool
reads_b f address = is_alu f && (f.raddr_b == address)

-- a read address past the rows stands in the field of either file
abbrev pub reads : Fields → ℕ → Bool
reads f address = reads_a f address || reads_b f address

-- where the units write

-- the add unit writes file B, and the mul unit file A
abbrev pub swaps_writes : Fields → Bool
swaps_writes f = f.ws == 1

-- the unit of file A writes an address
abbrev pub writes_a : Fields → ℕ → Bool
writes_a f address =
    if swaps_writes f then mul_writes f && (f.waddr_mul == address) else add_writes f && (f.waddr_add == address)

-- the unit of file B writes an address
abbrev pub writes_b : Fields → ℕ → Bool
writes_b f address =
    if swaps_writes f then add_writes f && (f.waddr_add == address) else mul_writes f && (f.waddr_mul == address)

-- a unit writes an address
abbrev pub writes : Fields → ℕ → Bool
writes f address = (add_writes f && (f.waddr_add == address)) || (mul_writes f && (f.waddr_mul == address))

-- a branch that writes a link
abbrev pub writes_link : Fields → Bool
writes_link f = is_branch f && (add_writes f || mul_writes f)

-- the profile

-- a read address with a name
abbrev pub is_read_address : ℕ → Bool
is_read_address a =
    nat_lt a ROWS || (a == READ_UNIFORM) || (a == READ_NUMBER) || (a == NOWHERE) || (a == READ_VPM)
    || (a == READ_DMA_BUSY) || (a == READ_DMA_WAIT) || (a == READ_MUTEX)

-- a write address with a name
abbrev pub is_write_address : ℕ → Bool
is_write_address a =
    nat_le a WRITE_R3 || (a == WRITE_R5) || (a == WRITE_HOST_INT) || (a == NOWHERE) || (a == WRITE_UNIFORMS_ADDRESS)
    || (a == WRITE_VPM) || (a == WRITE_VPM_SETUP) || (a == WRITE_DMA_ADDRESS) || (a == WRITE_MUTEX)
    || (a == WRITE_TMU0_S) || (a == WRITE_TMU1_S)

-- a write address that a branch can link to
abbrev pub is_link_address : ℕ → Bool
is_link_address a = nat_le a WRITE_R3 || (a == NOWHERE)

-- the unit that writes file A is active and writes a row
abbrev pub packs_row : Fields → Bool
packs_row f =
    if swaps_writes f then mul_active f && nat_lt f.waddr_mul ROWS else add_active f && nat_lt f.waddr_add ROWS

-- the packing of an ALU or small immediate word can't be done
abbrev pub bad_packing : Fields → Bool
bad_packing f =
    ((f.pm == 1) && not ((f.pack == 0) && (f.unpack == 0)))
    || (f.pack == 8)
    || (not (f.pack == 0) && not (packs_row f))
    || (not (f.unpack == 0) && (nat_le ROWS f.raddr_a || not (uses f MUX_FILE_A)))

-- whether a row of the table of faults holds
unfoldable pub has_fault : Fields → WordFault → Bool
has_fault f Signal = not (is_unit_word f || (f.sig == SIGNAL_LOAD_IMMEDIATE) || (f.sig == SIGNAL_BRANCH))
has_fault f FloatOp = is_unit_word f && (between 1 f.op_add 8 || (f.op_mul == 1))
has_fault f ReservedOp = is_unit_word f && (between 9 f.op_add 11 || between 25 f.op_add 29)
has_fault f ReadAddress =
    is_unit_word f && (not (is_read_address f.raddr_a) || (not (is_small f) && not (is_read_address f.raddr_b)))
has_fault f WriteAddress =
    ((add_active f || (is_load f && not (f.cond_add == 0))) && not (is_write_address f.waddr_add))
    || ((mul_active f || (is_load f && not (f.cond_mul == 0))) && not (is_write_address f.waddr_mul))
    || (is_branch f && not (is_link_address f.waddr_add && is_link_address f.waddr_mul))
has_fault f Packing = (is_unit_word f && bad_packing f) || ((f.sig == SIGNAL_LOAD_IMMEDIATE) && not (f.pack == 0))
has_fault f BranchCond = is_branch f && between 12 f.cond_br 14
has_fault f LoadKind = (f.sig == SIGNAL_LOAD_IMMEDIATE) && not (is_load f || is_semaphore f)
has_fault f Rotation =
    is_small f && nat_le ROTATE_BY_R5 f.raddr_b
    && ((mul_active f && (nat_lt 3 f.mul_a || nat_lt 3 f.mul_b)) || uses f MUX_FILE_B)
has_fault f SemaphoreTarget = is_semaphore f && not ((f.waddr_add == NOWHERE) && (f.waddr_mul == NOWHERE))
has_fault f NoSource =
    (uses f MUX_FILE_A && (f.raddr_a == NOWHERE)) || (uses f MUX_FILE_B && not (is_small f) && (f.raddr_b == NOWHERE))

-- the rows of the table, in the order in which they are tried
abbrev pub all_faults : List WordFault
all_faults =
    Signal ∷ FloatOp ∷ ReservedOp ∷ ReadAddress ∷ WriteAddress ∷ Packing ∷ BranchCond ∷ LoadKind ∷ Rotation
    ∷ SemaphoreTarget ∷ NoSource ∷ []

-- the least fault of a word, or none
unfoldable pub word_fault : ℕ → Option WordFault
word_fault word = find (has_fault (fields_of word)) all_faults

-- a word of the profile has no fault
abbrev pub IsInProfile : ℕ → Type 0
IsInProfile word = word_fault word ≡ None

-- a word that touches more than its processor
unfoldable pub is_shared : Fields → Bool
is_shared f =
    reads f READ_UNIFORM || reads f READ_VPM || reads f READ_DMA_BUSY || reads f READ_DMA_WAIT || reads f READ_MUTEX
    || writes f WRITE_VPM || writes f WRITE_DMA_ADDRESS || writes f WRITE_MUTEX || writes f WRITE_TMU0_S || writes f WRITE_TMU1_S
    || is_tmu_load f 0 || is_tmu_load f 1 || is_semaphore f

-- a word that touches its processor alone
abbrev pub is_local : Fields → Bool
is_local f = not (is_shared f)
