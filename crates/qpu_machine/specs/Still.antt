-- Processors none of whose actors has a step. This project's own.
use Rattle.std.specs.Prelude.{ℕ, Bool, ◌||◌}
use Rattle.qpu_machine.specs.declared.actor.Actor.TheVariants.{Exec, Load, Store, Fetch}
use Rattle.qpu_machine.specs.Machine.{MachineState, is_enabled}

-- whether an actor of a processor has a step
unfoldable pub has_step : MachineState → ℕ → Bool
has_step m q =
    is_enabled m (Exec q) || is_enabled m (Load q) || is_enabled m (Store q) || is_enabled m (Fetch q 0) || is_enabled m (Fetch q 1)
