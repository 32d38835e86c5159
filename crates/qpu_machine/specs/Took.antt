-- What a call that takes a step answers and does. This project's own.
use Rattle.std.specs.Prelude.{◌≡◌, ℕ, Bool, true, false, Option, Some, None}
use Rattle.qpu_word.specs.Processor.{ProcessorState}
use Rattle.qpu_shared.specs.SharedState.{SharedState}
use Rattle.qpu_machine.specs.declared.actor.Actor.TheVariants.{Exec}
use Rattle.qpu_machine.specs.Machine.{MachineState, with_both, after_step}
use Rattle.qpu_machine.specs.Views.{Started}

-- a call took the step that was due, from a machine before it to the one after it; or there was
-- none, and nothing changed
abbrev pub Took : Bool → Option MachineState → Started → Started → Type 0
Took true due m n = (due ≡ Some n.state) × (n.starts ≡ m.starts)
Took false due m n = (due ≡ None) × (n ≡ m)

-- a call took the instruction of processor q that was due in a machine, where there was one
abbrev pub TookWord : Bool → MachineState → ℕ → ProcessorState → ProcessorState → SharedState → Type 0
TookWord true m q p after left = after_step m (Exec q) ≡ Some (with_both m q after left)
TookWord false m q p after left = (after_step m (Exec q) ≡ None) × (after ≡ p) × (left ≡ m.shared)
