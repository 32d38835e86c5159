-- Runs of steps, and for how many more there is room. This project's own.
use Rattle.std.specs.Prelude.{ℕ, List}
use Rattle.qpu_machine.specs.declared.journal.Run.{Run}

-- what a list of runs shows
pub record RunListState : Type 0 where
  pub runs : List Run
  pub room : ℕ
