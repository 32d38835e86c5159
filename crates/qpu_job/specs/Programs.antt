-- The words of a job's programs, and the first program that has none. This project's own.
use Rattle.std.specs.Prelude.{◌≡◌, ◌≢◌, ℕ, ◌+◌, ◌-◌, ◌^◌, min, List, [], ◌∷◌, ◌++◌, map, Ok, Err}
use Rattle.qpu_word.specs.Words.{numbers_of}
use Rattle.qpu_token.specs.declared.fault.AsmFault.{AsmFault}
use Rattle.qpu_token.specs.declared.fault.AsmKind.TheVariants as asm
use Rattle.qpu_asm.specs.Assembly.{IsAssembly}
use Rattle.qpu_job.specs.declared.code.Code.{Code}
use Rattle.qpu_job.specs.declared.fault.JobFault.{JobFault}
use Rattle.qpu_job.specs.declared.fault.JobFault.TheVariants as fault
use Rattle.qpu_job.specs.Plan.{Program}

-- one program

-- a text is assembled to these words
abbrev pub IsCode : List ℕ → List ℕ → Type 0
IsCode text code = IsAssembly text (Ok code)

-- the job's line of a line of a text that begins at this line of the job. All count from 1. Lines end at
-- 2^32 - 1, which no job of at most 2^28 bytes reaches
abbrev pub line_in_job : ℕ → ℕ → ℕ
line_in_job first line = min (first + (line - 1)) (2 ^ 32 - 1)

-- a text's fault with its line in the job
abbrev pub fault_in_job : ℕ → AsmFault → AsmFault
fault_in_job first own = record own { line = line_in_job first own.line }

-- a program isn't assembled: its text's one fault, which is never want of memory, at the job's line
pub record IsAsmFault (program : Program) (told : AsmFault) : Type 0 where
  pub own : AsmFault
  pub due : IsAssembly program.text (Err own)
  pub known : own.kind ≢ asm.Memory
  pub placed : told ≡ fault_in_job program.line own

-- why a program isn't assembled; want of memory is free
abbrev pub IsCodeFault : Program → JobFault → Type 0
IsCodeFault program (fault.Asm told) = IsAsmFault program told
IsCodeFault program fault.Memory = Unit {0}
IsCodeFault program _ = ⊥

-- programs

-- the numbers of the words of programs
abbrev pub codes_of : List Code → List (List ℕ)
codes_of codes = map (λ code. numbers_of code.words.items) codes

-- programs have these codes
pub data HaveCodes : List Program → List (List ℕ) → Type 0 where
  no_program : HaveCodes [] []
  one_more : {programs : List Program} {codes : List (List ℕ)} {code : List ℕ} (program : Program) → HaveCodes programs codes → IsCode program.text code → HaveCodes (programs ++ program ∷ []) (codes ++ code ∷ [])

-- the first of the programs that isn't assembled has this fault
pub record IsFirstAsmFault (programs : List Program) (told : AsmFault) : Type 0 where
  pub above : List Program
  pub program : Program
  pub below : List Program
  pub codes : List (List ℕ)
  pub all : programs ≡ above ++ program ∷ below
  pub built : HaveCodes above codes
  pub fails : IsAsmFault program told

-- why programs aren't assembled; want of memory is free
abbrev pub IsCodesFault : List Program → JobFault → Type 0
IsCodesFault programs (fault.Asm told) = IsFirstAsmFault programs told
IsCodesFault programs fault.Memory = Unit {0}
IsCodesFault programs _ = ⊥
