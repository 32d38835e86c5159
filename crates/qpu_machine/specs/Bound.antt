-- How many steps a machine can still take. This project's own.
use Rattle.std.specs.Prelude.{ℕ, zero, suc, ◌+◌, ◌-◌, ◌*◌, List, [], ◌∷◌, Option, Some, None, if◌then◌else◌}
use Rattle.qpu_word.specs.declared.code.TheConstants.{PROCESSORS}
use Rattle.qpu_word.specs.Processor.{ProcessorState}
use Rattle.qpu_dma.specs.Transfers.{TransferState}
use Rattle.qpu_tmu.specs.declared.look_up.LookUp.{LookUp}
use Rattle.qpu_tmu.specs.Looks.{is_waiting}
use Rattle.qpu_word.specs.Words.{one_if}
use Rattle.qpu_shared.specs.declared.pending.Pending.{Pending}
use Rattle.qpu_shared.specs.Instruction.{is_going, pending_of}
use Rattle.qpu_machine.specs.declared.actor.Actor.{Actor}
use Rattle.qpu_machine.specs.declared.actor.Actor.TheVariants.{Exec}
use Rattle.qpu_machine.specs.Machine.{MachineState, processor_of}
use Rattle.qpu_machine.specs.Journal.{is_same_actor}

-- how many instructions a processor has left under a limit
abbrev pub instructions_left : ℕ → Option ProcessorState → ℕ
instructions_left limit None = 0
instructions_left limit (Some p) = if is_going p.halt then limit - p.executed else 0

-- how many look-ups aren't fetched
abbrev pub waiting : List LookUp → ℕ
waiting [] = 0
waiting (look ∷ more) = one_if (is_waiting look) + waiting more

-- how many rows of a transfer aren't moved; the row that is moved next is always there
abbrev pub rows_left : Option TransferState → ℕ
rows_left None = 0
rows_left (Some t) = t.rows - (t.moved + 1) + 1

-- how many moves a processor has pending
abbrev pub moves_pending : Pending → ℕ
moves_pending pending = rows_left pending.load + rows_left pending.store + (waiting pending.looks.looks0 + waiting pending.looks.looks1)

-- how many moves an instruction can make pending: with its two writes it starts a load of sixteen
-- rows and a store of 64, or one of these and a look-up
abbrev pub moves_most : ℕ
moves_most = 80

-- how many steps the actors of a processor have left at most: each instruction with the moves that it
-- can make pending, and the moves that are pending
abbrev pub steps_left_of : MachineState → ℕ → ℕ
steps_left_of m q = (moves_most + 1) * instructions_left m.limit (processor_of m q) + moves_pending (pending_of m.shared q)

-- the sum of a function of the numbers below one
abbrev pub sum_below : (ℕ → ℕ) → ℕ → ℕ
sum_below f zero = 0
sum_below f (suc n) = sum_below f n + f n

-- how many steps a machine has left at most
unfoldable pub steps_left : MachineState → ℕ
steps_left m = sum_below (steps_left_of m) PROCESSORS

-- how many instructions of a processor stand in a schedule
abbrev pub instructions_of : List Actor → ℕ → ℕ
instructions_of [] q = 0
instructions_of (actor ∷ s) q = one_if (is_same_actor actor (Exec q)) + instructions_of s q
