-- VideoCore IV 3D Architecture Reference Guide, "QPU Instruction Encoding" (muxes, small
-- immediates, packing of file A reads) and "QPU Register Address Map": what a unit's operand is
-- in one lane. What is read from shared parts is handed in. Busy reads of 1 in all lanes, and the
-- value 0 of the wait and mutex reads, are this project's own.
use Rattle.std.specs.Prelude.{ℕ, ◌+◌, ◌-◌, ◌*◌, ◌/◌, ◌%◌, ◌^◌, ◌==◌, Bool, nat_lt, List, [], slice_index_or, if◌then◌else◌}
use Rattle.qpu_word.specs.declared.word.Fields.{Fields}
use Rattle.qpu_word.specs.declared.traffic.Ins.{Ins}
use Rattle.qpu_word.specs.declared.code.TheConstants.{ROWS, READ_UNIFORM, READ_NUMBER, READ_VPM, READ_DMA_BUSY, ROTATE_BY_R5, MUX_FILE_A, MUX_FILE_B}
use Rattle.qpu_word.specs.Lanes.{lane}
use Rattle.qpu_word.specs.Words.{is_small}
use Rattle.qpu_word.specs.Operations.{byte, of_bytes}
use Rattle.qpu_word.specs.Processor.{ProcessorState}

-- the row of a list of rows
abbrev pub row_of : List (List ℕ) → ℕ → List ℕ
row_of rows k = slice_index_or rows k []

-- 1 for true, 0 for false
abbrev pub bit_of : Bool → ℕ
bit_of on = if on then 1 else 0

-- the half word with its sign over 32 bits
abbrev pub sign_extended : ℕ → ℕ
sign_extended half = if nat_lt half (2 ^ 15) then half else half + (2 ^ 32 - 2 ^ 16)

-- the value after an unpack mode
unfoldable pub unpacked : ℕ → ℕ → ℕ
unpacked mode n =
    if mode == 0 then n
    else if mode == 1 then sign_extended (n % 2 ^ 16)
    else if mode == 2 then sign_extended (n / 2 ^ 16)
    else if mode == 3 then of_bytes (λ k. byte n 3)
    else byte n (mode - 4)

-- the value of a small immediate's code below 48: 0 to 15, -16 to -1, 1.0 to 128.0, 1/256 to 1/2
unfoldable pub small_value : ℕ → ℕ
small_value code =
    if nat_lt code 16 then code
    else if nat_lt code 32 then 2 ^ 32 + code - 32
    else if nat_lt code 40 then 0x3f80_0000 + (code - 32) * 0x0080_0000
    else 0x3b80_0000 + (code - 40) * 0x0080_0000

-- what a read address of file A gives in a lane
unfoldable pub read_a : ProcessorState → Ins → ℕ → ℕ → ℕ
read_a p ins address i =
    if nat_lt address ROWS then lane (row_of p.file_a address) i
    else if address == READ_UNIFORM then ins.uniform
    else if address == READ_NUMBER then i
    else if address == READ_VPM then lane ins.vpm.v i
    else if address == READ_DMA_BUSY then bit_of ins.load_busy
    else 0

-- what a read address of file B gives in a lane
unfoldable pub read_b : ProcessorState → Ins → ℕ → ℕ → ℕ
read_b p ins address i =
    if nat_lt address ROWS then lane (row_of p.file_b address) i
    else if address == READ_UNIFORM then ins.uniform
    else if address == READ_NUMBER then p.q
    else if address == READ_VPM then lane ins.vpm.v i
    else if address == READ_DMA_BUSY then bit_of ins.store_busy
    else 0

-- the immediate of a small immediate word; the codes that rotate have none
abbrev pub immediate_of : ℕ → ℕ
immediate_of code = if nat_lt code ROTATE_BY_R5 then small_value code else 0

-- what a mux gives in a lane: an accumulator, the file A value after unpacking, the file B value,
-- or the small immediate in its place
unfoldable pub operand : Fields → ProcessorState → Ins → ℕ → ℕ → ℕ
operand f p ins mux i =
    if mux == MUX_FILE_A then unpacked f.unpack (read_a p ins f.raddr_a i)
    else if mux == MUX_FILE_B then (if is_small f then immediate_of f.raddr_b else read_b p ins f.raddr_b i)
    else lane (row_of p.accumulators mux) i
