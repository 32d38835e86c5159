-- Where a unit's whole result goes (Guide, "QPU Register Address Map").
use Rattle.std.specs.Prelude.{ℕ, ◌<◌, ◌-◌, ◌==◌, ◌&&◌, ◌||◌, Bool, not, nat_lt, nat_le, ⊤, List, slice_set, if◌then◌else◌}
use Rattle.qpu_word.specs.declared.word.Fields.{Fields}
use Rattle.qpu_word.specs.declared.code.TheConstants.{ROWS, ACCUMULATORS, COND_ALWAYS, WRITE_R0, WRITE_R3}
use Rattle.qpu_word.specs.Words.{swaps_writes, add_writes, mul_writes}
use Rattle.qpu_word.specs.Writing.{pack_mode}
use Rattle.qpu_word.specs.Instruction.{write_cond}
use Rattle.qpu_word.specs.Processor.{ProcessorState}
use Rattle.qpu_decoded.specs.declared.target.Target.{Target}
use Rattle.qpu_decoded.specs.declared.target.Target.TheVariants.{Nowhere, FileA, FileB, Accumulator}

-- a target replaced
abbrev pub put_to : Target → List ℕ → ProcessorState → ProcessorState
put_to Nowhere values p = p
put_to (FileA row) values p = record p { file_a = slice_set p.file_a row values }
put_to (FileB row) values p = record p { file_b = slice_set p.file_b row values }
put_to (Accumulator n) values p = record p { accumulators = slice_set p.accumulators n values }

-- a target is one of the registers, or none
abbrev pub IsTargetThere : Target → Type 0
IsTargetThere Nowhere = ⊤
IsTargetThere (FileA row) = row < ROWS
IsTargetThere (FileB row) = row < ROWS
IsTargetThere (Accumulator n) = n < ACCUMULATORS

-- where a write address up to r3 of a file is
abbrev pub target_at : Bool → ℕ → Target
target_at in_b address =
    if nat_lt address ROWS then (if in_b then FileB address else FileA address)
    else Accumulator (address - WRITE_R0)

-- where a unit writes, if it does
unfoldable pub target_of : Bool → Bool → ℕ → Target
target_of acts in_b address = if acts then target_at in_b address else Nowhere

-- a unit's write, where there is one, goes to a row or to r0 to r3, in all lanes and unpacked
abbrev pub goes_whole : Bool → Fields → Bool → ℕ → ℕ → Bool
goes_whole acts f in_b address cond =
    not acts || (nat_le address WRITE_R3 && (cond == COND_ALWAYS) && (pack_mode f in_b == 0))

-- so do the writes of both units
abbrev pub is_whole : Fields → Bool
is_whole f =
    goes_whole (add_writes f) f (swaps_writes f) f.waddr_add (write_cond f f.cond_add)
    && goes_whole (mul_writes f) f (not (swaps_writes f)) f.waddr_mul (write_cond f f.cond_mul)
