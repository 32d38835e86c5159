-- Why an input, or the words of a command, are refused: the status and the line of each. This project's own.
use Rattle.std.specs.Prelude.{ℕ, List, [], ◌∷◌, Option, Some, None, codes, decimal, slice_index_or, map}
use Rattle.qpu_io.specs.Text.{joined}
use Rattle.qpu_word.specs.declared.fault.WordFault.{WordFault}
use Rattle.qpu_word.specs.declared.fault.WordFault.TheVariants as word
use Rattle.qpu_token.specs.declared.fault.AsmKind.{AsmKind}
use Rattle.qpu_token.specs.declared.fault.AsmKind.TheVariants as kind
use Rattle.qpu_token.specs.declared.fault.AsmFault.{AsmFault}
use Rattle.qpu_hazard.specs.declared.checked.CheckFault.{CheckFault}
use Rattle.qpu_hazard.specs.declared.checked.CheckFault.TheVariants as check
use Rattle.qpu_job.specs.declared.fault.JobFault.{JobFault}
use Rattle.qpu_job.specs.declared.fault.JobFault.TheVariants as fault
use Rattle.qpu_job.specs.Plan.{Plan}
use Rattle.qpu_record.specs.declared.fault.RecordFault.{RecordFault}
use Rattle.qpu_record.specs.declared.fault.RecordFault.TheVariants as record_fault
use Rattle.qpu_replay.specs.declared.fault.ReplayFault.{ReplayFault}
use Rattle.qpu_replay.specs.declared.fault.ReplayFault.TheVariants as replay_fault
use Rattle.qpu_tool.specs.declared.status.Status.{Status}
use Rattle.qpu_tool.specs.declared.status.Status.TheVariants as status
use Rattle.qpu_tool.specs.declared.refusal.Refusal.{Refusal}
use Rattle.qpu_tool.specs.declared.refusal.Refusal.TheVariants.{Usage, ReadFault, TooLong, NotAscii, Asm, Job, Hazard, Record, Schedule, Report}

-- a line of words and a number
abbrev pub numbered_line : List ℕ → ℕ → List ℕ
numbered_line words number = joined (words ∷ decimal number ∷ codes "\n" ∷ [])

-- assembly text

-- the name of a kind of fault; want of memory has none
abbrev pub asm_kind_name : AsmKind → List ℕ
asm_kind_name kind.BadByte = codes "BadByte"
asm_kind_name kind.NumberTooLarge = codes "NumberTooLarge"
asm_kind_name kind.UnknownName = codes "UnknownName"
asm_kind_name kind.Twice = codes "Twice"
asm_kind_name kind.TooDeep = codes "TooDeep"
asm_kind_name kind.TooLong = codes "TooLong"
asm_kind_name kind.DivideByZero = codes "DivideByZero"
asm_kind_name kind.Shape = codes "Shape"
asm_kind_name kind.UnknownOp = codes "UnknownOp"
asm_kind_name kind.Operands = codes "Operands"
asm_kind_name kind.TwoImmediates = codes "TwoImmediates"
asm_kind_name kind.TwoReads = codes "TwoReads"
asm_kind_name kind.Label = codes "Label"
asm_kind_name kind.Range = codes "Range"
asm_kind_name kind.Memory = []

-- the line that refuses a text: the fault's kind, line and column
abbrev pub asm_line : AsmFault → List ℕ
asm_line fault =
    joined
    (codes "refused asm " ∷ asm_kind_name fault.kind ∷ codes " at line " ∷ decimal fault.line ∷ codes " column "
    ∷ decimal fault.column ∷ codes "\n" ∷ [])

-- jobs

-- the line of a kind of fault, with the job's line
abbrev pub kind_line : List ℕ → ℕ → List ℕ
kind_line kind line =
    joined (codes "refused job " ∷ kind ∷ codes " at line " ∷ decimal line ∷ codes "\n" ∷ [])

-- the line of a fault of a job's line; other faults have none
abbrev pub job_line : JobFault → List ℕ
job_line (fault.Line line) = kind_line (codes "Line") line
job_line (fault.Size line) = kind_line (codes "Size") line
job_line (fault.Limit line) = kind_line (codes "Limit") line
job_line (fault.Twice line) = kind_line (codes "Twice") line
job_line (fault.Processor line) = kind_line (codes "Processor") line
job_line (fault.NoProgram line) = kind_line (codes "NoProgram") line
job_line (fault.Place line) = kind_line (codes "Place") line
job_line _ = []

-- programs

-- the name of a word's fault
abbrev pub word_fault_name : WordFault → List ℕ
word_fault_name word.Signal = codes "Signal"
word_fault_name word.FloatOp = codes "FloatOp"
word_fault_name word.ReservedOp = codes "ReservedOp"
word_fault_name word.ReadAddress = codes "ReadAddress"
word_fault_name word.WriteAddress = codes "WriteAddress"
word_fault_name word.Packing = codes "Packing"
word_fault_name word.BranchCond = codes "BranchCond"
word_fault_name word.LoadKind = codes "LoadKind"
word_fault_name word.Rotation = codes "Rotation"
word_fault_name word.SemaphoreTarget = codes "SemaphoreTarget"
word_fault_name word.NoSource = codes "NoSource"

-- the line of what the checker refuses, with a word before the name of the program; want of memory
-- has none
abbrev pub hazard_line : List ℕ → List ℕ → CheckFault → List ℕ
hazard_line within name (check.Word at fault) =
    joined (codes "refused word " ∷ word_fault_name fault ∷ within ∷ name ∷ codes " at " ∷ decimal at ∷ codes "\n" ∷ [])
hazard_line within name (check.Hazard rule at before) =
    joined
    (codes "refused hazard H" ∷ decimal rule ∷ within ∷ name ∷ codes " at " ∷ decimal at ∷ codes " after "
    ∷ decimal before ∷ codes "\n" ∷ [])
hazard_line within name check.Memory = []

-- of a program with a name or without
abbrev pub program_line : Option (List ℕ) → CheckFault → List ℕ
program_line None refused = hazard_line [] [] refused
program_line (Some name) refused = hazard_line (codes " in ") name refused

-- the name of the program of an index
abbrev pub name_at : List (List ℕ) → ℕ → List ℕ
name_at names program = slice_index_or names program []

-- the names of a job's programs
abbrev pub names_of : Plan → List (List ℕ)
names_of plan = map (λ program. program.name) plan.programs

-- records

-- the line of a record's fault
abbrev pub record_line : RecordFault → List ℕ
record_line record_fault.Version = codes "refused record version\n"
record_line (record_fault.Line line) = numbered_line (codes "refused record line ") line
record_line (record_fault.Number line) = numbered_line (codes "refused record number at line ") line

-- the line of a schedule that isn't a complete permitted one
abbrev pub schedule_line : ReplayFault → List ℕ
schedule_line (replay_fault.NotEnabled item step) =
    joined (codes "refused record item " ∷ decimal item ∷ codes " step " ∷ decimal step ∷ codes "\n" ∷ [])
schedule_line replay_fault.NotFinished = codes "refused record not finished\n"

-- all refusals

abbrev pub refusal_line : Refusal → List ℕ
refusal_line Usage = codes "usage\n"
refusal_line ReadFault = codes "read fault\n"
refusal_line TooLong = codes "too long\n"
refusal_line (NotAscii at) = numbered_line (codes "not ascii at ") at
refusal_line (Asm fault) = asm_line fault
refusal_line (Job fault) = job_line fault
refusal_line (Hazard program fault) = program_line program fault
refusal_line (Record fault) = record_line fault
refusal_line (Schedule fault) = schedule_line fault
refusal_line (Report line) = numbered_line (codes "refused record report at line ") line

abbrev pub refusal_status : Refusal → Status
refusal_status Usage = status.Usage
refusal_status ReadFault = status.ReadFault
refusal_status TooLong = status.TooLong
refusal_status (NotAscii at) = status.NotAscii
refusal_status (Asm fault) = status.AsmRefused
refusal_status (Job fault) = status.JobRefused
refusal_status (Hazard program fault) = status.HazardRefused
refusal_status (Record fault) = status.RecordRefused
refusal_status (Schedule fault) = status.RecordRefused
refusal_status (Report line) = status.RecordRefused
