-- VideoCore IV 3D Architecture Reference Guide, "QPU Register Address Map": the shared things that
-- a word touches, as a set of bits. That a word which touches none is local is this project's own.
use Rattle.std.specs.Prelude.{ℕ, ◌+◌, ◌^◌, ◌||◌, Bool, if◌then◌else◌}
use Rattle.qpu_word.specs.declared.word.Fields.{Fields}
use Rattle.qpu_word.specs.declared.code.TheConstants.{READ_UNIFORM, READ_VPM, READ_DMA_BUSY, READ_DMA_WAIT, READ_MUTEX, WRITE_VPM, WRITE_DMA_ADDRESS, WRITE_MUTEX, WRITE_TMU0_S, WRITE_TMU1_S}
use Rattle.qpu_word.specs.Words.{reads, reads_a, reads_b, writes, writes_a, writes_b, is_tmu_load, is_semaphore}

-- bit n of a set, where a word touches its thing
unfoldable pub bit : ℕ → Bool → ℕ
bit n touched = if touched then 2 ^ n else 0

-- what a word reads from the shared parts: a uniform, the VPM, the busy and wait reads of both
-- kinds of transfer, the words of a look-up, the mutex
abbrev pub read_needs : Fields → ℕ
read_needs f =
    bit 0 (reads f READ_UNIFORM) + bit 1 (reads f READ_VPM)
    + bit 3 (reads_a f READ_DMA_BUSY) + bit 4 (reads_b f READ_DMA_BUSY)
    + bit 5 (reads_a f READ_DMA_WAIT) + bit 6 (reads_b f READ_DMA_WAIT)
    + bit 10 (is_tmu_load f 0 || is_tmu_load f 1) + bit 11 (reads f READ_MUTEX)

-- what it writes to them: the VPM, the start of a load or a store, a look-up, the mutex, a semaphore
abbrev pub write_needs : Fields → ℕ
write_needs f =
    bit 2 (writes f WRITE_VPM) + bit 7 (writes_a f WRITE_DMA_ADDRESS) + bit 8 (writes_b f WRITE_DMA_ADDRESS)
    + bit 9 (writes f WRITE_TMU0_S || writes f WRITE_TMU1_S) + bit 12 (writes f WRITE_MUTEX) + bit 13 (is_semaphore f)

-- the shared things of a word
unfoldable pub needs_of : Fields → ℕ
needs_of f = read_needs f + write_needs f
