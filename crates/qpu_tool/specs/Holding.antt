-- What contracts see of a sink in memory that grows. This project's own.
use Rattle.std.specs.Prelude.{ℕ, List, Some}
use Rattle.qpu_io.specs.Output.{Output}

-- the bytes held, and the faults counted
pub record Held : Type 0 where
  pub bytes : List ℕ
  pub faults : ℕ

-- what it shows
abbrev pub held_shown : Held → Output
held_shown s = record { held = Some s.bytes; faults = s.faults }
