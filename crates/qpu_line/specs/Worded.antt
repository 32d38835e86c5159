-- This project's own: which instructions have a word. What the fields of its word hold is what each
-- part of the instruction names.
use Rattle.std.specs.Prelude.{◌≡◌, ◌<◌, ◌==◌, ◌^◌, Bool, true, false, not, IfSome}
use Rattle.qpu_word.specs.declared.name.Place.{Place}
use Rattle.qpu_word.specs.declared.code.TheConstants.{NOWHERE}
use Rattle.qpu_word.specs.Words.{is_write_address, is_link_address, between}
use Rattle.qpu_line.specs.declared.semaphore.Semaphore.{Semaphore}
use Rattle.qpu_line.specs.declared.load.Load.{Load}
use Rattle.qpu_line.specs.declared.load.Write.{Write}
use Rattle.qpu_line.specs.declared.branch.Branch.{Branch}
use Rattle.qpu_line.specs.Targets.{target_at_address, address_of, exchange_of}
use Rattle.qpu_line.specs.Loads.{write_target}

-- the semaphores are numbered from 0 to 15
abbrev pub IsSemaphore : Semaphore → Type 0
IsSemaphore s = s.number < 16

-- a target of the file that its unit writes, where that matters
abbrev pub IsTarget : Bool → Place → Type 0
IsTarget in_b to = target_at_address in_b (address_of to) ≡ to

-- what a unit writes of a load: its condition isn't never, its address has a name, and isn't 39
pub record IsWrite (w : Write) : Type 0 where
  pub some : (w.cond == 0) ≡ false
  pub cond : w.cond < 8
  pub named : is_write_address (address_of w.to) ≡ true
  pub somewhere : (address_of w.to == NOWHERE) ≡ false

-- the units' files are exchanged
abbrev pub is_exchanged_load : Load → Bool
is_exchanged_load l = exchange_of (write_target l.add) (write_target l.mul) == 1

pub record IsLoad (l : Load) : Type 0 where
  pub add : IfSome l.add IsWrite
  pub mul : IfSome l.mul IsWrite
  pub add_to : IsTarget (is_exchanged_load l) (write_target l.add)
  pub mul_to : IsTarget (not (is_exchanged_load l)) (write_target l.mul)
  pub immediate : l.immediate < 2 ^ 32

-- the units' files are exchanged
abbrev pub is_exchanged_branch : Branch → Bool
is_exchanged_branch b = exchange_of b.add b.mul == 1

pub record IsBranch (b : Branch) : Type 0 where
  pub cond : b.cond < 16
  pub known : between 12 b.cond 14 ≡ false
  pub row : IfSome b.register (λ row. row < 32)
  pub add : is_link_address (address_of b.add) ≡ true
  pub mul : is_link_address (address_of b.mul) ≡ true
  pub add_to : IsTarget (is_exchanged_branch b) b.add
  pub mul_to : IsTarget (not (is_exchanged_branch b)) b.mul
  pub immediate : b.immediate < 2 ^ 32
