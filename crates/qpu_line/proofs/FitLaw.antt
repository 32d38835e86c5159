-- The word of an instruction that has one is a word of 64 bits.
use Rattle.std.proofs.Common.{ℕ, ◌+◌, ◌*◌, ◌%◌, ◌<◌, ◌^◌, Bool, true, false, arith}
use Rattle.std.specs.Prelude.{if◌then◌else◌, is_some}
use Rattle.qpu_line.specs.declared.load.Load.{Load as LoadOf}
use Rattle.qpu_line.specs.declared.branch.Branch.{Branch as BranchOf}
use Rattle.qpu_line.specs.declared.load.LoadKind.{LoadKind}
use Rattle.qpu_line.specs.declared.load.LoadKind.TheVariants.{Whole, Signed, Unsigned}
use Rattle.qpu_line.specs.declared.semaphore.Semaphore.{Semaphore as Step}
use Rattle.qpu_line.specs.declared.slots.UnitFields.{UnitFields}
use Rattle.qpu_line.specs.declared.instruction.Instruction.{Instruction}
use Rattle.qpu_line.specs.declared.instruction.Instruction.TheVariants.{Both, Load, Semaphore, Branch}
use Rattle.qpu_line.specs.Instructions.{word_of}
use Rattle.qpu_line.specs.Slots.{units_word}
use Rattle.qpu_line.specs.Units.{fields_of_units}
use Rattle.qpu_line.specs.Loads.{load_high, kind_code, write_target}
use Rattle.qpu_line.specs.Branches.{branch_instruction_high}
use Rattle.qpu_line.specs.Semaphores.{semaphore_high, semaphore_low, semaphore_word}
use Rattle.qpu_line.specs.Targets.{exchange_of}
use Rattle.qpu_line.specs.Named.{HasWord}
use Rattle.qpu_line.proofs.AgainLemmas.{bit_below}

-- both halves fit
halves_fit : (high low : ℕ) → high < 2 ^ 32 → low < 2 ^ 32 → high * 2 ^ 32 + low < 2 ^ 64
halves_fit high low h l = omega arith

units_fit : (s : UnitFields) → units_word s < 2 ^ 64
unfolding units_word
units_fit s = omega arith

code_below : (kind : LoadKind) → kind_code kind < 8
code_below Whole = omega arith
code_below Signed = omega arith
code_below Unsigned = omega arith

load_fits : (l : LoadOf) → load_high l < 2 ^ 32
load_fits l =
    let kind : kind_code l.kind < 8 = code_below l.kind in
    let sets : (if l.sets then 1 else 0) < 2 = bit_below l.sets in
    let exchange : exchange_of (write_target l.add) (write_target l.mul) < 2 = bit_below _ in
    omega arith

branch_fits : (b : BranchOf) → branch_instruction_high b < 2 ^ 32
branch_fits b =
    let relative : (if b.relative then 1 else 0) < 2 = bit_below b.relative in
    let register : (if is_some b.register then 1 else 0) < 2 = bit_below (is_some b.register) in
    let exchange : exchange_of b.add b.mul < 2 = bit_below _ in
    omega arith

low_fits : (down : Bool) (n : ℕ) → (if down then 16 else 0) + n % 16 < 2 ^ 32
low_fits true n = omega arith
low_fits false n = omega arith

semaphore_fits : (s : Step) → semaphore_word s < 2 ^ 64
semaphore_fits s = halves_fit semaphore_high (semaphore_low s) (omega arith) (low_fits s.down s.number)

pub each_fits : (i : Instruction) → HasWord i → word_of i < 2 ^ 64
unfolding word_of
each_fits (Both u) has = units_fit (fields_of_units u)
each_fits (Load l) has = halves_fit (load_high l) l.immediate (load_fits l) has.immediate
each_fits (Semaphore s) has = semaphore_fits s
each_fits (Branch b) has = halves_fit (branch_instruction_high b) b.immediate (branch_fits b) has.immediate
