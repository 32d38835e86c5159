-- Local steps of one processor, which touch the processor alone. This project's own.
use Rattle.std.specs.Prelude.{◌≡◌, ℕ, suc, ◌&&◌, Bool, true, false, List, Result, Ok, Err, IsSomeAnd, slice_index}
use Rattle.qpu_word.specs.declared.fault.FaultKind.{FaultKind}
use Rattle.qpu_word.specs.Words.{fields_of, is_local}
use Rattle.qpu_word.specs.Processor.{ProcessorState}
use Rattle.qpu_word.specs.Instruction.{local_result, is_link_point, halted}
use Rattle.qpu_shared.specs.Instruction.{is_running}
use Rattle.qpu_machine.specs.Machine.{MachineState, processor_of, words_of}

-- the next word of a processor of a program is local
abbrev pub is_at_local : List ℕ → ProcessorState → Bool
is_at_local words p = is_local (fields_of (slice_index words p.place))

-- a processor of a program has a local step under a limit: it is running, and its next word is local
abbrev pub is_local_next : List ℕ → ℕ → ProcessorState → Bool
is_local_next words limit p = is_running limit p && is_at_local words p

-- the processor that a word leaves, which has faulted where the word does
abbrev pub or_halted : ProcessorState → Result ProcessorState FaultKind → ProcessorState
or_halted p (Ok after) = after
or_halted p (Err kind) = halted kind p

-- a processor after its local word
abbrev pub local_after : List ℕ → ProcessorState → ProcessorState
local_after words p = or_halted p (local_result (is_link_point words) (slice_index words p.place) p)

-- so many local steps of a processor of a program under a limit, one after another
pub data LocalSteps (words : List ℕ) (limit : ℕ) : ProcessorState → ℕ → ProcessorState → Type 0 where
  none : {p : ProcessorState} → LocalSteps words limit p 0 p
  one_more : {p r s : ProcessorState} {n : ℕ} → LocalSteps words limit p n r → is_local_next words limit r ≡ true → local_after words r ≡ s → LocalSteps words limit p (suc n) s

-- a call took the local step that a processor had, from one to the other; or it had none, and
-- nothing changed
abbrev pub TookLocal : Bool → List ℕ → ℕ → ProcessorState → ProcessorState → Type 0
TookLocal true words limit p after = (is_local_next words limit p ≡ true) × (local_after words p ≡ after)
TookLocal false words limit p after = (is_local_next words limit p ≡ false) × (after ≡ p)

-- a processor is what so many local steps leave of a machine's processor q, which was started
abbrev pub IsOwnAfter : MachineState → ℕ → ProcessorState → ℕ → Type 0
IsOwnAfter m q p n = IsSomeAnd (processor_of m q) (λ before. LocalSteps (words_of m q) m.limit before n p)

-- it is what a whole stretch leaves: after those steps none is left
pub record IsStretched (m : MachineState) (q : ℕ) (p : ProcessorState) (n : ℕ) : Type 0 where
  pub own : IsOwnAfter m q p n
  pub stops : is_local_next (words_of m q) m.limit p ≡ false
