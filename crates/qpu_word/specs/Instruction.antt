-- VideoCore IV 3D Architecture Reference Guide, "QPU Instruction Encoding" and "QPU Core
-- Architecture": what one whole instruction makes of its processor, for given reads of the shared
-- parts, and what it sends out. All reads, then both units, then all writes, as one step; the
-- places, the slots' count, and the fault of a register branch are this project's own.
use Rattle.std.specs.Prelude.{ℕ, ◌+◌, ◌-◌, ◌*◌, ◌/◌, ◌%◌, ◌^◌, ◌==◌, ◌&&◌, ◌||◌, Bool, false, not, nat_lt, nat_le, List, length, Option, Some, None, option_map, Result, Ok, Err, slice_index, slice_set, if◌then◌else◌}
use Rattle.qpu_word.specs.declared.word.Fields.{Fields}
use Rattle.qpu_word.specs.declared.lanes.Lanes.{Lanes}
use Rattle.qpu_word.specs.declared.traffic.Ins.{Ins}
use Rattle.qpu_word.specs.declared.traffic.Outs.{Outs}
use Rattle.qpu_word.specs.declared.setup.Book.{Book}
use Rattle.qpu_word.specs.declared.state.Flags.{Flags}
use Rattle.qpu_word.specs.declared.state.Rest.{Rest}
use Rattle.qpu_word.specs.declared.state.Rest.TheVariants.{Straight, Ending, To}
use Rattle.qpu_word.specs.declared.state.Halt.{Halt}
use Rattle.qpu_word.specs.declared.state.Halt.TheVariants.{Going, Ended, Faulted}
use Rattle.qpu_word.specs.declared.operation.AddOp.{AddOp}
use Rattle.qpu_word.specs.declared.operation.MulOp.{MulOp}
use Rattle.qpu_word.specs.declared.fault.FaultKind.{FaultKind}
use Rattle.qpu_word.specs.declared.fault.FaultKind.TheVariants.{Branch}
use Rattle.qpu_word.specs.declared.code.TheConstants.{KIND_LOAD, KIND_LOAD_SIGNED, NOWHERE, BRANCH_SLOTS, END_SLOTS, INSTRUCTION_BYTES, WRITE_HOST_INT, WRITE_UNIFORMS_ADDRESS, WRITE_VPM, WRITE_VPM_SETUP, WRITE_DMA_ADDRESS, WRITE_TMU0_S, WRITE_TMU1_S}
use Rattle.qpu_word.specs.Lanes.{lanes, lane, mask}
use Rattle.qpu_word.specs.Words.{writes_link, field, fields_of, is_unit_word, is_load, is_branch, is_program_end, is_tmu_load, add_active, mul_active, add_writes, mul_writes, swaps_writes, writes, writes_a, writes_b}
use Rattle.qpu_word.specs.Operations.{low32, add_result, add_carry, mul_result, add_op, mul_op}
use Rattle.qpu_word.specs.Operands.{row_of, operand}
use Rattle.qpu_word.specs.Flags.{branch_test}
use Rattle.qpu_word.specs.Writing.{rotation, rotated, stored, written}
use Rattle.qpu_word.specs.Setups.{put_read, put_write}
use Rattle.qpu_word.specs.Processor.{ProcessorState}

-- the units

-- the add unit's result on two operands; nop gives 0
abbrev pub add_lane : Option AddOp → ℕ → ℕ → ℕ
add_lane None a b = 0
add_lane (Some op) a b = add_result op a b

-- the mul unit's result on two operands; nop gives 0
abbrev pub mul_lane : Option MulOp → ℕ → ℕ → ℕ
mul_lane None a b = 0
mul_lane (Some op) a b = mul_result op a b

-- the add unit's results, before the condition
unfoldable pub add_values : Fields → ProcessorState → Ins → List ℕ
add_values f p ins = lanes (λ i. add_lane (add_op f.op_add) (operand f p ins f.add_a i) (operand f p ins f.add_b i))

-- the mul unit's results, before rotation and condition
unfoldable pub mul_values : Fields → ProcessorState → Ins → List ℕ
mul_values f p ins = lanes (λ i. mul_lane (mul_op f.op_mul) (operand f p ins f.mul_a i) (operand f p ins f.mul_b i))

-- loads and links

-- two bits as a signed number: 0, 1, -2, -1
abbrev pub signed_pair : ℕ → ℕ
signed_pair n = if nat_lt n 2 then n else n + (2 ^ 32 - 4)

-- the two bits of a lane in an immediate: the high one at bit 16 + i, the low one at bit i
abbrev pub bit_pair : ℕ → ℕ → ℕ
bit_pair immediate i = 2 * field immediate (16 + i) 1 + field immediate i 1

-- what a load immediate gives in a lane: ldi, ldis, ldiu
unfoldable pub loaded : Fields → ℕ → ℕ
loaded f i =
    if f.kind == KIND_LOAD then f.immediate
    else if f.kind == KIND_LOAD_SIGNED then signed_pair (bit_pair f.immediate i)
    else bit_pair f.immediate i

-- the place after the slots of a branch at a place
abbrev pub after_slots : ℕ → ℕ
after_slots place = place + 1 + BRANCH_SLOTS

-- the link of a branch at a place: the byte address after its slots
abbrev pub link_of : ℕ → ℕ
link_of place = INSTRUCTION_BYTES * after_slots place

-- the values of a load immediate, or the link of a branch at a place
unfoldable pub plain_values : Fields → ℕ → List ℕ
plain_values f place = lanes (λ i. if is_branch f then link_of place else loaded f i)

-- what the add unit sends to its address
unfoldable pub add_sent : Fields → ProcessorState → Ins → List ℕ
add_sent f p ins = if is_unit_word f then add_values f p ins else plain_values f p.place

-- what the mul unit sends to its address
unfoldable pub mul_sent : Fields → ProcessorState → Ins → List ℕ
mul_sent f p ins = if is_unit_word f then rotated (rotation f p) (mul_values f p ins) else plain_values f p.place

-- registers

-- the condition of a unit's write; a link is always written
abbrev pub write_cond : Fields → ℕ → ℕ
write_cond f cond = if is_branch f then 1 else cond

-- what the add unit leaves at its address
unfoldable pub add_stored : Fields → ProcessorState → Ins → List ℕ
add_stored f p ins = stored f p (swaps_writes f) f.waddr_add (write_cond f f.cond_add) (add_sent f p ins)

-- what the mul unit leaves at its address
unfoldable pub mul_stored : Fields → ProcessorState → Ins → List ℕ
mul_stored f p ins = stored f p (not (swaps_writes f)) f.waddr_mul (write_cond f f.cond_mul) (mul_sent f p ins)

-- the registers after the add unit's write
unfoldable pub put_add : Fields → List ℕ → ProcessorState → ProcessorState
put_add f values p = if add_writes f then written (swaps_writes f) f.waddr_add values p else p

-- the registers after the mul unit's write
unfoldable pub put_mul : Fields → List ℕ → ProcessorState → ProcessorState
put_mul f values p = if mul_writes f then written (not (swaps_writes f)) f.waddr_mul values p else p

-- r4 after a TMU load
unfoldable pub put_loaded : Fields → Ins → ProcessorState → ProcessorState
put_loaded f ins p =
    if is_tmu_load f 0 || is_tmu_load f 1 then record p { accumulators = slice_set p.accumulators 4 ins.loaded.v } else p

-- flags

-- Z and N of a list of results
unfoldable pub zn_of : List ℕ → ℕ × ℕ
zn_of values = (mask (λ i. lane values i == 0), mask (λ i. nat_le (2 ^ 31) (lane values i)))

-- C after the add unit's operation on operands told by the lane: defined for add and sub alone
abbrev pub carry_mask : Option AddOp → (ℕ → ℕ) → (ℕ → ℕ) → Option ℕ
carry_mask None a b = None
carry_mask (Some op) a b = option_map (λ carry. mask (λ i. carry (a i) (b i))) (add_carry op)

-- C after the add unit's operation
unfoldable pub add_carries : Fields → ProcessorState → Ins → Option ℕ
add_carries f p ins = carry_mask (add_op f.op_add) (operand f p ins f.add_a) (operand f p ins f.add_b)

-- the flags after a setting by a list of results and a mask C
abbrev pub flags_of : List ℕ → Option ℕ → Flags
flags_of values c = record { zn = Some (zn_of values); c = c }

-- the flags after both units: of the add unit where it is active, else of the mul unit; in all
-- lanes, whatever the condition, before rotation and packing
unfoldable pub unit_flags : Fields → Flags → List ℕ → Option ℕ → List ℕ → Flags
unit_flags f flags add carries mul =
    if not (f.sf == 1) then flags
    else if add_active f then flags_of add carries
    else if mul_active f then flags_of mul None
    else flags

-- the flags after a load immediate, of its lanes; branches and semaphore words set none
unfoldable pub load_flags : Fields → Flags → List ℕ → Flags
load_flags f flags values = if (f.sf == 1) && is_load f then flags_of values None else flags

-- the flags after an instruction
unfoldable pub flags_after : Fields → ProcessorState → Ins → Flags
flags_after f p ins =
    if is_unit_word f then unit_flags f p.flags (add_values f p ins) (add_carries f p ins) (mul_values f p ins)
    else load_flags f p.flags (plain_values f p.place)

-- control

-- a branch whose condition holds
abbrev pub is_taken : Fields → ProcessorState → Bool
is_taken f p = is_branch f && branch_test f.cond_br p.flags

-- the target of a branch, in bytes
unfoldable pub target_of : Fields → ProcessorState → ℕ
target_of f p =
    low32
    (f.immediate
    + (if f.rel == 1 then link_of p.place else 0)
    + (if f.reg == 1 then lane (row_of p.file_a f.raddr_br) 0 else 0))

-- a taken register branch whose target isn't 8 times a link point of its program
unfoldable pub branch_fails : (ℕ → Bool) → Fields → ProcessorState → Bool
branch_fails is_link f p =
    is_taken f p && (f.reg == 1)
    && not ((target_of f p % INSTRUCTION_BYTES == 0) && is_link (target_of f p / INSTRUCTION_BYTES))

-- what is in progress one word later
abbrev pub rest_later : Rest → Rest
rest_later Straight = Straight
rest_later (Ending n) = if nat_lt n 2 then Straight else Ending (n - 1)
rest_later (To n t) = if nat_lt n 2 then Straight else To (n - 1) t

-- what is in progress after a word; a branch or program end replaces what was
unfoldable pub rest_after : Fields → ProcessorState → Rest
rest_after f p =
    if is_branch f then (if is_taken f p then To BRANCH_SLOTS (target_of f p / INSTRUCTION_BYTES) else Straight)
    else if is_program_end f then Ending END_SLOTS
    else rest_later p.rest

-- the place one word later: after the last slot of a taken branch its target
abbrev pub place_later : Rest → ℕ → ℕ
place_later Straight place = place + 1
place_later (Ending n) place = place + 1
place_later (To n t) place = if nat_lt n 2 then t else place + 1

-- the place after a word
unfoldable pub place_after : Fields → ProcessorState → ℕ
place_after f p = if is_branch f || is_program_end f then p.place + 1 else place_later p.rest p.place

-- the halt one word later: after the last slot of program end the processor has ended
abbrev pub halt_later : Rest → Halt
halt_later Straight = Going
halt_later (Ending n) = if nat_lt n 2 then Ended else Going
halt_later (To n t) = Going

-- the halt after a word
unfoldable pub halt_after : Fields → ProcessorState → Halt
halt_after f p = if is_branch f || is_program_end f then Going else halt_later p.rest

-- what an instruction sends out

-- the value sent to an address of either file, from what the units send; the mul unit's stands
-- where both write it
unfoldable pub sent_to : Fields → List ℕ → List ℕ → ℕ → Option (List ℕ)
sent_to f add mul address =
    if mul_writes f && (f.waddr_mul == address) then Some mul
    else if add_writes f && (f.waddr_add == address) then Some add
    else None

-- the value sent to an address of file A
unfoldable pub sent_to_a : Fields → List ℕ → List ℕ → ℕ → Option (List ℕ)
sent_to_a f add mul address = if writes_a f address then Some (if swaps_writes f then mul else add) else None

-- the value sent to an address of file B
unfoldable pub sent_to_b : Fields → List ℕ → List ℕ → ℕ → Option (List ℕ)
sent_to_b f add mul address = if writes_b f address then Some (if swaps_writes f then add else mul) else None

-- a value's lane 0
abbrev pub first_lane : Option (List ℕ) → Option ℕ
first_lane None = None
first_lane (Some values) = Some (lane values 0)

-- a value as lanes
abbrev pub as_lanes : Option (List ℕ) → Option Lanes
as_lanes None = None
as_lanes (Some values) = Some (record { v = values })

-- an address that issues a look-up
abbrev pub is_look_address : ℕ → Bool
is_look_address address = (address == WRITE_TMU0_S) || (address == WRITE_TMU1_S)

-- the address that issues a look-up; the mul unit's stands where both issue one, 39 is none
unfoldable pub look_address : Fields → ℕ
look_address f =
    if mul_writes f && is_look_address f.waddr_mul then f.waddr_mul
    else if add_writes f && is_look_address f.waddr_add then f.waddr_add
    else NOWHERE

-- the TMU unit to which a look-up is issued; 0 where none is
abbrev pub look_unit_of : Fields → ℕ
look_unit_of f = if look_address f == WRITE_TMU1_S then 1 else 0

-- what an instruction sends to the shared parts, the setups and the uniforms address, from what the
-- units send
unfoldable pub outs_from : Fields → List ℕ → List ℕ → Outs
outs_from f add mul = record {
  vpm = as_lanes (sent_to f add mul WRITE_VPM);
  to_read_setup = first_lane (sent_to_a f add mul WRITE_VPM_SETUP);
  to_write_setup = first_lane (sent_to_b f add mul WRITE_VPM_SETUP);
  uniform_to = first_lane (sent_to f add mul WRITE_UNIFORMS_ADDRESS);
  load_at = first_lane (sent_to_a f add mul WRITE_DMA_ADDRESS);
  store_at = first_lane (sent_to_b f add mul WRITE_DMA_ADDRESS);
  look_unit = look_unit_of f;
  look = as_lanes (sent_to f add mul (look_address f));
}

-- what an instruction sends out
abbrev pub outs_of : Fields → ProcessorState → Ins → Outs
outs_of f p ins = outs_from f (add_sent f p ins) (mul_sent f p ins)

-- the book

-- the book after a value for the read setup register, where there is one
abbrev pub after_read_setup : Option ℕ → Book → Result Book FaultKind
after_read_setup None book = Ok book
after_read_setup (Some value) book = put_read book value

-- the book after a value for the write setup register, where there is one
abbrev pub after_write_setup : Option ℕ → Book → Result Book FaultKind
after_write_setup None book = Ok book
after_write_setup (Some value) book = put_write book value

-- the book after a new uniforms address, where there is one
abbrev pub after_uniform_to : Option ℕ → Book → Book
after_uniform_to None book = book
after_uniform_to (Some value) book = record book { uniform_at = value }

-- one step after another, up to the first fault
abbrev pub then_after : {A B : Type 0} → Result A FaultKind → (A → Result B FaultKind) → Result B FaultKind
then_after (Ok a) next = next a
then_after (Err kind) next = Err kind

-- the book after both setup registers, in their order
unfoldable pub after_setups : Outs → Book → Result Book FaultKind
after_setups outs book =
    then_after (after_read_setup outs.to_read_setup book) (λ b. after_write_setup outs.to_write_setup b)

-- the whole

-- the registers after an instruction: the add unit's write, the mul unit's, and a TMU load
unfoldable pub registers_after : Fields → ProcessorState → Ins → ProcessorState
registers_after f p ins = put_loaded f ins (put_mul f (mul_stored f p ins) (put_add f (add_stored f p ins) p))

-- the interrupts that a word raises
abbrev pub raised_by : Fields → ℕ
raised_by f = if writes f WRITE_HOST_INT then 1 else 0

-- a processor one instruction further, with these flags, place, rest, book, interrupts and halt
unfoldable pub moved_on : Flags → ℕ → Rest → Book → ℕ → Halt → ProcessorState → ProcessorState
moved_on flags place rest book raised halt p = record p {
  flags = flags;
  place = place;
  rest = rest;
  book = book;
  executed = p.executed + 1;
  interrupts = p.interrupts + raised;
  halt = halt;
}

-- the processor after an instruction with these reads, which leaves this book
unfoldable pub done : Fields → ProcessorState → Ins → Book → ProcessorState
done f p ins book =
    moved_on (flags_after f p ins) (place_after f p) (rest_after f p) book (raised_by f) (halt_after f p) (registers_after f p ins)

-- a processor that faulted at its place
unfoldable pub halted : FaultKind → ProcessorState → ProcessorState
halted kind p = record p { halt = Faulted kind p.place }

-- what is read where nothing shared is
abbrev pub no_ins : Ins
no_ins = record {
  uniform = 0;
  vpm = record { v = lanes (λ i. 0) };
  load_busy = false;
  store_busy = false;
  loaded = record { v = lanes (λ i. 0) };
}

-- what a local word makes of its processor, or why it faults
unfoldable pub local_result : (ℕ → Bool) → ℕ → ProcessorState → Result ProcessorState FaultKind
local_result is_link word p =
    let f = fields_of word in
    let outs = outs_of f p no_ins in
    if branch_fails is_link f p then Err Branch
    else then_after (after_setups outs p.book) (λ book. Ok (done f p no_ins (after_uniform_to outs.uniform_to book)))

-- the link points of a program

-- a place of the program is a link point: the word after the slots of a branch that writes a link
unfoldable pub is_link_point : List ℕ → ℕ → Bool
is_link_point words at =
    nat_lt at (length words) && nat_le (after_slots 0) at
    && writes_link (fields_of (slice_index words (at - after_slots 0)))
