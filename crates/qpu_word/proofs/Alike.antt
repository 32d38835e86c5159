-- What two words' fields have in common where the words have one meaning.
use Rattle.std.proofs.Common.{◌≡◌, ℕ, Bool, true, false}
use Rattle.std.specs.Prelude.{◌==◌, ◌||◌, nat_lt}
use Rattle.qpu_word.specs.declared.word.Fields.{Fields}
use Rattle.qpu_word.specs.declared.traffic.Ins.{Ins}
use Rattle.qpu_word.specs.Processor.{ProcessorState}
use Rattle.qpu_word.specs.Words.{is_unit_word, is_load, is_semaphore, is_branch, is_program_end, is_tmu_load, add_active, mul_active, add_writes, mul_writes, reads_a, reads_b, swaps_writes}
use Rattle.qpu_word.specs.Writing.{rotation, pack_mode}
use Rattle.qpu_word.specs.Instruction.{add_values, add_carries, mul_values, plain_values, write_cond}
use Rattle.qpu_word.specs.Canonical.{file_matters}

-- the files differ where that doesn't matter: no unit that writes has an address whose file matters,
-- and nothing is packed
pub record IsApart (f g : Fields) : Type 0 where
  pub add : add_writes f ≡ true → file_matters f.waddr_add ≡ false
  pub mul : mul_writes f ≡ true → file_matters f.waddr_mul ≡ false
  pub pack : (in_b : Bool) → pack_mode g in_b ≡ 0
  pub own_pack : (in_b : Bool) → pack_mode f in_b ≡ 0

pub data SameFiles (f g : Fields) : Type 0 where
  same : (is : swaps_writes g ≡ swaps_writes f) → SameFiles f g
  apart : (is : IsApart f g) → SameFiles f g

-- what a branch says
pub record SameBranch (f g : Fields) : Type 0 where
  pub cond : g.cond_br ≡ f.cond_br
  pub rel : g.rel ≡ f.rel
  pub reg : g.reg ≡ f.reg
  pub row : (f.reg == 1) ≡ true → g.raddr_br ≡ f.raddr_br
  pub immediate : g.immediate ≡ f.immediate

-- a read address that doesn't act by standing in its field
abbrev pub is_quiet : ℕ → Bool
is_quiet n = nat_lt n 32 || (n == 39)

pub record Alike (f g : Fields) : Type 0 where
  pub unit : is_unit_word g ≡ is_unit_word f
  pub load : is_load g ≡ is_load f
  pub semaphore : is_semaphore g ≡ is_semaphore f
  pub branch : is_branch g ≡ is_branch f
  pub ends : is_program_end g ≡ is_program_end f
  pub take0 : is_tmu_load g 0 ≡ is_tmu_load f 0
  pub take1 : is_tmu_load g 1 ≡ is_tmu_load f 1
  pub stands_a : (n : ℕ) → is_quiet n ≡ false → reads_a g n ≡ reads_a f n
  pub stands_b : (n : ℕ) → is_quiet n ≡ false → reads_b g n ≡ reads_b f n
  pub acts_add : add_active g ≡ add_active f
  pub acts_mul : mul_active g ≡ mul_active f
  pub add : add_writes g ≡ add_writes f
  pub mul : mul_writes g ≡ mul_writes f
  pub add_to : add_writes f ≡ true → g.waddr_add ≡ f.waddr_add
  pub mul_to : mul_writes f ≡ true → g.waddr_mul ≡ f.waddr_mul
  pub files : SameFiles f g
  pub pack : (in_b : Bool) → pack_mode g in_b ≡ pack_mode f in_b
  pub add_cond : add_writes f ≡ true → write_cond g g.cond_add ≡ write_cond f f.cond_add
  pub mul_cond : mul_writes f ≡ true → write_cond g g.cond_mul ≡ write_cond f f.cond_mul
  pub adds : add_active f ≡ true → (p : ProcessorState) (ins : Ins) → add_values g p ins ≡ add_values f p ins
  pub carries : add_active f ≡ true → (p : ProcessorState) (ins : Ins) → add_carries g p ins ≡ add_carries f p ins
  pub muls : mul_active f ≡ true → (p : ProcessorState) (ins : Ins) → mul_values g p ins ≡ mul_values f p ins
  pub turns : mul_active f ≡ true → (p : ProcessorState) → rotation g p ≡ rotation f p
  pub plain : (is_load f || is_branch f) ≡ true → (place : ℕ) → plain_values g place ≡ plain_values f place
  pub unit_sets : (add_active f || mul_active f) ≡ true → g.sf ≡ f.sf
  pub load_sets : is_load f ≡ true → g.sf ≡ f.sf
  pub branches : is_branch f ≡ true → SameBranch f g
  pub down : is_semaphore f ≡ true → g.down ≡ f.down
  pub number : is_semaphore f ≡ true → g.number ≡ f.number
