-- What a word of the profile tells of its fields, as far as code needs it.
use Rattle.std.specs.Prelude.{◌≢◌, ◌<◌, false}
use Rattle.qpu_word.specs.declared.word.Fields.{Fields}
use Rattle.qpu_word.specs.Writing.{pack_mode}

-- codes stand below their bounds, and the pack mode is one of the table
pub record IsFit (f : Fields) : Type 0 where
  pub unpack : f.unpack < 8
  pub pack : f.pack < 16
  pub known : pack_mode f false ≢ 8
  pub add_a : f.add_a < 8
  pub add_b : f.add_b < 8
  pub mul_a : f.mul_a < 8
  pub mul_b : f.mul_b < 8
  pub raddr_b : f.raddr_b < 64
  pub raddr_br : f.raddr_br < 32
