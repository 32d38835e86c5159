-- What a word does not do: write past the registers, or touch registers and flags at all.
use Rattle.std.specs.Prelude.{◌≡◌, ◌==◌, ◌&&◌, ◌||◌, false, nat_lt}
use Rattle.qpu_word.specs.declared.word.Fields.{Fields}
use Rattle.qpu_word.specs.declared.code.TheConstants.{NOWHERE}
use Rattle.qpu_word.specs.Words.{add_writes, mul_writes, is_tmu_load}

-- no unit writes an address past the registers: no setup, no uniforms address, nothing shared
pub record StaysIn (f : Fields) : Type 0 where
  pub add : (add_writes f && nat_lt NOWHERE f.waddr_add) ≡ false
  pub mul : (mul_writes f && nat_lt NOWHERE f.waddr_mul) ≡ false

-- no unit writes, no flags are set, and no look-up is taken
pub record IsQuiet (f : Fields) : Type 0 where
  pub add : add_writes f ≡ false
  pub mul : mul_writes f ≡ false
  pub flags : (f.sf == 1) ≡ false
  pub takes : (is_tmu_load f 0 || is_tmu_load f 1) ≡ false
