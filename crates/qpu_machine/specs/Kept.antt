-- What a machine keeps of each processor that goes on: a path of its program to where it stands.
-- This project's own.
use Rattle.std.specs.Prelude.{◌≡◌, ◌≢◌, ◌≤◌, ◌+◌, ℕ, List, length, Option, IfSome, is_some}
use Rattle.qpu_word.specs.declared.code.TheConstants.{LOOK_UPS, VPM_ROWS}
use Rattle.qpu_word.specs.declared.state.Halt.TheVariants.{Going}
use Rattle.qpu_word.specs.Processor.{ProcessorState}
use Rattle.qpu_dma.specs.Transfers.{TransferState}
use Rattle.qpu_tmu.specs.Looks.{LookupsState}
use Rattle.qpu_shared.specs.declared.pending.Pending.{Pending}
use Rattle.qpu_shared.specs.SharedState.{SharedState}
use Rattle.qpu_shared.specs.Instruction.{pending_of}
use Rattle.qpu_hazard.specs.Paths.{IsPath, flags_defined, c_defined, outstanding_looks}
use Rattle.qpu_hazard.specs.Standing.{ProcessorStands}

-- a processor stands on a path of its program, which breaks no rule: at its place, with the same in
-- progress, the same masks of flags defined, and as many look-ups outstanding
pub record IsOnPath (code : List ℕ) (p : ProcessorState) (looks : LookupsState) : Type 0 where
  pub path : List ℕ
  pub is_path : IsPath code path
  pub stands : ProcessorStands code path p.place p.rest
  pub flags : is_some p.flags.zn ≡ flags_defined code path
  pub carry : is_some p.flags.c ≡ c_defined code path
  pub looks0 : length looks.looks0 ≡ outstanding_looks code 0 path
  pub looks1 : length looks.looks1 ≡ outstanding_looks code 1 path

-- a processor that goes on does
abbrev pub IsKept : List ℕ → ProcessorState → LookupsState → Type 0
IsKept code p looks = p.halt ≡ Going → IsOnPath code p looks

-- it does with some look-ups outstanding
abbrev pub IsKeptAlone : List ℕ → ProcessorState → Type 0
IsKeptAlone code p = (looks : LookupsState) × IsKept code p looks

-- no unit has more look-ups outstanding than it may
abbrev pub HasFewLooks : LookupsState → Type 0
HasFewLooks looks = (length looks.looks0 ≤ LOOK_UPS) × (length looks.looks1 ≤ LOOK_UPS)

-- a transfer, where there is one, has no more rows than lie in the VPM
abbrev pub IsShort : Option TransferState → Type 0
IsShort transfer = IfSome transfer (λ t. t.rows ≤ VPM_ROWS)

-- no transfer that is pending has more
abbrev pub HasFewRows : Pending → Type 0
HasFewRows pending = IsShort pending.load × IsShort pending.store

-- what a word of processor q keeps, whatever became of it: the number, a count that grows by one at
-- most, where the processor stands, few look-ups and few rows, what others have pending, and for how
-- many there is room
pub record KeepsPath (code : List ℕ) (q : ℕ) (p : ProcessorState) (h : SharedState) (after : ProcessorState) (left : SharedState) : Type 0 where
  pub number : after.q ≡ q
  pub executed : after.executed ≤ p.executed + 1
  pub kept : IsKept code after (pending_of left q).looks
  pub few : HasFewLooks (pending_of left q).looks
  pub rows : HasFewRows (pending_of h q) → HasFewRows (pending_of left q)
  pub others : (other : ℕ) → other ≢ q → pending_of left other ≡ pending_of h other
  pub room : length left.pending ≡ length h.pending
