-- VideoCore IV 3D Architecture Reference Guide, "QPU Instruction Encoding" (pack modes,
-- horizontal vector rotation, write addresses): what a unit leaves in its destination.
use Rattle.std.specs.Prelude.{ℕ, ◌+◌, ◌-◌, ◌*◌, ◌/◌, ◌%◌, ◌^◌, ◌==◌, ◌||◌, Bool, nat_lt, nat_le, min, List, slice_set, if◌then◌else◌}
use Rattle.qpu_word.specs.declared.word.Fields.{Fields}
use Rattle.qpu_word.specs.declared.state.Flags.{Flags}
use Rattle.qpu_word.specs.declared.code.TheConstants.{ROWS, WRITE_R0, WRITE_R3, WRITE_R5, ROTATE_BY_R5}
use Rattle.qpu_word.specs.Lanes.{lanes, lane}
use Rattle.qpu_word.specs.Words.{is_small, is_branch}
use Rattle.qpu_word.specs.Operations.{byte, of_bytes}
use Rattle.qpu_word.specs.Operands.{row_of}
use Rattle.qpu_word.specs.Flags.{lane_test}
use Rattle.qpu_word.specs.Processor.{ProcessorState}

-- by how many lanes the mul unit's result rotates
unfoldable pub rotation : Fields → ProcessorState → ℕ
rotation f p =
    if is_small f then
    (if nat_lt f.raddr_b ROTATE_BY_R5 then 0
    else if f.raddr_b == ROTATE_BY_R5 then lane (row_of p.accumulators 5) 0 % 16
    else f.raddr_b - ROTATE_BY_R5)
    else 0

-- rotation by n: lane i of the value goes to lane (i + n) mod 16
unfoldable pub rotated : ℕ → List ℕ → List ℕ
rotated n values = lanes (λ i. lane values ((i + 16 - n) % 16))

-- a signed value of 32 bits, kept within -32768 to 32767
abbrev pub clamped_half : ℕ → ℕ
clamped_half n =
    if nat_lt n (2 ^ 31) then min n (2 ^ 15 - 1)
    else if nat_lt n (2 ^ 32 - 2 ^ 15) then 2 ^ 32 - 2 ^ 15
    else n

-- a signed value of 32 bits, kept within 0 to 255
abbrev pub clamped_byte : ℕ → ℕ
clamped_byte n = if nat_lt n (2 ^ 31) then min n 255 else 0

-- a low half word in the low or the high half, the other bits old
abbrev pub with_half : ℕ → ℕ → ℕ → ℕ
with_half k old n =
    if k == 0 then old / 2 ^ 16 * 2 ^ 16 + n % 2 ^ 16 else n % 2 ^ 16 * 2 ^ 16 + old % 2 ^ 16

-- a low byte in byte k, the other bits old
abbrev pub with_byte : ℕ → ℕ → ℕ → ℕ
with_byte k old n = of_bytes (λ j. if j == k then byte n 0 else byte old j)

-- the value of a pack mode below 8, in the old value
abbrev pub placed : ℕ → ℕ → ℕ → ℕ
placed mode old n =
    if mode == 0 then n
    else if mode == 1 then with_half 0 old n
    else if mode == 2 then with_half 1 old n
    else if mode == 3 then of_bytes (λ j. byte n 0)
    else with_byte (mode - 4) old n

-- the value that a pack mode leaves: 9 and 10 as 1 and 2 after clamping to a half word, 11 to 15
-- as 3 to 7 after clamping to a byte
unfoldable pub packed : ℕ → ℕ → ℕ → ℕ
packed mode old n =
    if nat_lt mode 8 then placed mode old n
    else if nat_lt mode 11 then placed (mode - 8) old (clamped_half n)
    else placed (mode - 8) old (clamped_byte n)

-- what a condition and a packing leave of an old value in a destination
unfoldable pub left : ℕ → Flags → ℕ → List ℕ → List ℕ → List ℕ
left cond flags mode old values =
    lanes (λ i. if lane_test cond flags i then packed mode (lane old i) (lane values i) else lane old i)

-- r5 after a value: lane 0 of each group of four to the group from file A, lane 0 to all from file B
unfoldable pub replicated : Bool → List ℕ → List ℕ
replicated in_b values = lanes (λ i. if in_b then lane values 0 else lane values (i / 4 * 4))

-- the row or accumulator at an address of a file
abbrev pub old_at : ProcessorState → Bool → ℕ → List ℕ
old_at p in_b address =
    if nat_lt address ROWS then (if in_b then row_of p.file_b address else row_of p.file_a address)
    else row_of p.accumulators (address - WRITE_R0)

-- a row or accumulator at an address of a file replaced
unfoldable pub written : Bool → ℕ → List ℕ → ProcessorState → ProcessorState
written in_b address values p =
    if nat_lt address ROWS then
    (if in_b then record p { file_b = slice_set p.file_b address values }
    else record p { file_a = slice_set p.file_a address values })
    else if nat_le address WRITE_R3 then record p { accumulators = slice_set p.accumulators (address - WRITE_R0) values }
    else if address == WRITE_R5 then record p { accumulators = slice_set p.accumulators 5 values }
    else p

-- the packing of what goes to a file: a branch has none, and file B has none
abbrev pub pack_mode : Fields → Bool → ℕ
pack_mode f in_b = if is_branch f || in_b then 0 else f.pack

-- what a unit leaves at its address of a file, from the processor before the instruction: a row
-- or r0 to r3 by packing and condition, r5 whole
unfoldable pub stored : Fields → ProcessorState → Bool → ℕ → ℕ → List ℕ → List ℕ
stored f before in_b address cond values =
    if nat_le address WRITE_R3 then left cond before.flags (pack_mode f in_b) (old_at before in_b address) values
    else replicated in_b values
