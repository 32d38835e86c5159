-- Machines that differ in one processor and in what is shared. This project's own.
use Rattle.std.specs.Prelude.{◌≡◌, ◌≢◌, ℕ}
use Rattle.qpu_machine.specs.Machine.{MachineState, processor_of}

-- from one machine to the other the limit, the programs and all processors but q are the same
pub record KeepsOthers (q : ℕ) (m n : MachineState) : Type 0 where
  pub limit : n.limit ≡ m.limit
  pub programs : n.programs ≡ m.programs
  pub program_of : n.program_of ≡ m.program_of
  pub others : (r : ℕ) → r ≢ q → processor_of n r ≡ processor_of m r
