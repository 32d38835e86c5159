-- VideoCore IV 3D Architecture Reference Guide, "QPU Instruction Encoding": semaphore words.
use Rattle.std.specs.Prelude.{ℕ, ◌+◌, ◌*◌, ◌%◌, ◌^◌, ◌==◌, if◌then◌else◌}
use Rattle.qpu_word.specs.declared.word.Fields.{Fields}
use Rattle.qpu_word.specs.declared.code.TheConstants.{SIGNAL_LOAD_IMMEDIATE, KIND_SEMAPHORE, NOWHERE}
use Rattle.qpu_line.specs.declared.semaphore.Semaphore.{Semaphore}

-- the semaphore instruction of a word's fields
abbrev pub semaphore_of : Fields → Semaphore
semaphore_of f = record { down = (f.down == 1); number = f.number }

-- the upper and lower half of a semaphore's word; only the low four bits of a number count
abbrev pub semaphore_high : ℕ
semaphore_high = SIGNAL_LOAD_IMMEDIATE * 2 ^ 28 + KIND_SEMAPHORE * 2 ^ 25 + NOWHERE * 2 ^ 6 + NOWHERE

abbrev pub semaphore_low : Semaphore → ℕ
semaphore_low s = (if s.down then 16 else 0) + s.number % 16

-- the canonical word of a semaphore instruction
abbrev pub semaphore_word : Semaphore → ℕ
semaphore_word s = semaphore_high * 2 ^ 32 + semaphore_low s
