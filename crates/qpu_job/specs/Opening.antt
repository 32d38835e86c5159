-- The machine of a job before any step, and why there is none. This project's own.
use Rattle.std.specs.Prelude.{◌≡◌, ℕ, ◌<◌, ◌≤◌, List, [], fold, length, replicate, slice_index_or, slice_set, All}
use Rattle.std.specs.List.{AllWithin}
use Rattle.qpu_word.specs.declared.code.TheConstants.{PROGRAM_WORDS}
use Rattle.qpu_flow.specs.Code.{AllInProfile, IsFirstOutside}
use Rattle.qpu_hazard.specs.declared.checked.CheckFault.{CheckFault}
use Rattle.qpu_hazard.specs.declared.checked.CheckFault.TheVariants as check
use Rattle.qpu_hazard.specs.Refusal.{IsFirst, NoneRefusable}
use Rattle.qpu_machine.specs.Machine.{MachineState, machine_of}
use Rattle.qpu_machine.specs.Views.{Started}
use Rattle.qpu_job.specs.declared.job.Value.{Value}
use Rattle.qpu_job.specs.declared.fault.JobFault.{JobFault}
use Rattle.qpu_job.specs.declared.fault.JobFault.TheVariants as fault
use Rattle.qpu_job.specs.Plan.{Plan}
use Rattle.qpu_job.specs.Programs.{HaveCodes, IsCodesFault}

-- memory

abbrev pub with_value : List ℕ → Value → List ℕ
with_value memory value = slice_set memory value.at value.value

-- the words of memory: of two values for one word the later stands
unfoldable pub memory_of : Plan → List ℕ
memory_of plan = fold with_value (replicate plan.words 0) plan.values

-- the machine of a job whose programs have these codes
unfoldable pub opening_machine : Plan → List (List ℕ) → MachineState
opening_machine plan codes = machine_of (memory_of plan) plan.limit codes plan.starts

-- codes that run

-- a program is short enough
abbrev pub IsShort : List ℕ → Type 0
IsShort code = length code ≤ PROGRAM_WORDS

-- the programs of a job have these codes, all of whose words are in the profile, and no path of which
-- breaks a hazard rule
pub record AreClean (plan : Plan) (codes : List (List ℕ)) : Type 0 where
  pub built : HaveCodes plan.programs codes
  pub inside : All AllInProfile codes
  pub clean : All NoneRefusable codes

-- a machine is a job's before any step
pub record Opens (plan : Plan) (machine : Started) : Type 0 where
  pub codes : List (List ℕ)
  pub are_clean : AreClean plan codes
  pub state : machine.state ≡ opening_machine plan codes
  pub starts : machine.starts ≡ plan.starts

-- why there is no machine

abbrev pub code_at : List (List ℕ) → ℕ → List ℕ
code_at codes k = slice_index_or codes k []

-- what the checker says of a program, where all programs are assembled: words outside the profile come
-- before hazards
abbrev pub IsChecked : List (List ℕ) → ℕ → CheckFault → Type 0
IsChecked codes program (check.Word at fault) =
    (program < length codes) × IsFirstOutside (code_at codes program) at fault × AllWithin AllInProfile codes 0 program
IsChecked codes program (check.Hazard rule at before) =
    (program < length codes) × All AllInProfile codes
    × IsFirst (code_at codes program) (record { at = at; rule = rule; before = before })
    × AllWithin NoneRefusable codes 0 program
IsChecked codes program check.Memory = ⊥

-- the first of programs that is refused; want of memory is free
abbrev pub IsCheckedFault : List (List ℕ) → JobFault → Type 0
IsCheckedFault codes (fault.Check program refused) = IsChecked codes program refused
IsCheckedFault codes fault.Memory = Unit {0}
IsCheckedFault codes _ = ⊥

-- the programs of a job are assembled, and one of them is refused
pub record IsRefused (plan : Plan) (program : ℕ) (fault : CheckFault) : Type 0 where
  pub codes : List (List ℕ)
  pub built : HaveCodes plan.programs codes
  pub first : IsChecked codes program fault

-- why a job has no machine; want of memory is free
abbrev pub IsMakeFault : Plan → JobFault → Type 0
IsMakeFault plan (fault.Asm told) = IsCodesFault plan.programs (fault.Asm told)
IsMakeFault plan (fault.Check program refused) = IsRefused plan program refused
IsMakeFault plan fault.Memory = Unit {0}
IsMakeFault plan _ = ⊥
