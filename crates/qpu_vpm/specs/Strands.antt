-- The byte places of a vector's lanes in words one after another. This project's own.
use Rattle.std.specs.Prelude.{ℕ, ◌+◌, ◌*◌, ◌/◌, ◌%◌}
use Rattle.qpu_bytes.specs.Elements.{bytes_in, in_word}
use Rattle.qpu_vpm.specs.declared.strand.Strand.{Strand}

-- the byte place of lane i
abbrev pub strand_place : Strand → ℕ → ℕ
strand_place strand i = strand.start + strand.step * (i / in_word strand.filled) + bytes_in strand.filled * (i % in_word strand.filled)
