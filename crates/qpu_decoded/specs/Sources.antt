-- Where the lanes of an operand come from (Guide, "QPU Instruction Encoding", muxes and small
-- immediates, and "QPU Register Address Map"), in a word that reads nothing of the shared parts.
use Rattle.std.specs.Prelude.{ℕ, ◌<◌, ◌==◌, nat_lt, ⊤, if◌then◌else◌}
use Rattle.qpu_word.specs.declared.word.Fields.{Fields}
use Rattle.qpu_word.specs.declared.code.TheConstants.{ROWS, ACCUMULATORS, READ_NUMBER, MUX_FILE_A, MUX_FILE_B}
use Rattle.qpu_word.specs.Lanes.{lane}
use Rattle.qpu_word.specs.Words.{is_small}
use Rattle.qpu_word.specs.Operands.{row_of, immediate_of}
use Rattle.qpu_word.specs.Processor.{ProcessorState}
use Rattle.qpu_decoded.specs.declared.source.Source.{Source}
use Rattle.qpu_decoded.specs.declared.source.Source.TheVariants.{FileA, FileB, Accumulator, All, QpuNumber, ElementNumber}

-- what a source gives in a lane
abbrev pub given : ProcessorState → Source → ℕ → ℕ
given p (FileA row) i = lane (row_of p.file_a row) i
given p (FileB row) i = lane (row_of p.file_b row) i
given p (Accumulator n) i = lane (row_of p.accumulators n) i
given p (All n) i = n
given p QpuNumber i = p.q
given p ElementNumber i = i

-- a source is one of the registers, or none
abbrev pub IsSourceThere : Source → Type 0
IsSourceThere (FileA row) = row < ROWS
IsSourceThere (FileB row) = row < ROWS
IsSourceThere (Accumulator n) = n < ACCUMULATORS
IsSourceThere (All n) = ⊤
IsSourceThere QpuNumber = ⊤
IsSourceThere ElementNumber = ⊤

-- where a read address of file A gets its value
abbrev pub source_a : ℕ → Source
source_a address = if nat_lt address ROWS then FileA address else if address == READ_NUMBER then ElementNumber else All 0

-- where a read address of file B gets its value
abbrev pub source_b : ℕ → Source
source_b address = if nat_lt address ROWS then FileB address else if address == READ_NUMBER then QpuNumber else All 0

-- where a mux gets its value: file A, file B or the small immediate in its place, an accumulator
unfoldable pub source_of : Fields → ℕ → Source
source_of f mux =
    if mux == MUX_FILE_A then source_a f.raddr_a
    else if mux == MUX_FILE_B then (if is_small f then All (immediate_of f.raddr_b) else source_b f.raddr_b)
    else Accumulator mux
