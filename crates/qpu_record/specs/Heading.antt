-- What stands before the items of a record. This project's own.
use Rattle.std.specs.Prelude.{ℕ, ◌+◌, ◌==◌, ◌&&◌, Bool, false, nat_eq, nat_le, List, [], ◌∷◌, length, take, drop, codes, bytes_eq, Option, Some, None, option_and_then, Result, Ok, Err, if◌then◌else◌}
use Rattle.std.specs.List.{starts_with}
use Rattle.std.specs.Borrow.{Bor}
use Rattle.qpu_record.specs.declared.fault.RecordFault.{RecordFault}
use Rattle.qpu_record.specs.declared.fault.RecordFault.TheVariants as fault
use Rattle.qpu_record.specs.declared.heading.Heading.{Heading as Told}
use Rattle.qpu_record.specs.declared.heading.JobPart.{JobPart as PartTold}
use Rattle.qpu_record.specs.declared.parts.Version.{Version}
use Rattle.qpu_record.specs.declared.parts.Version.TheVariants.{First, Second}
use Rattle.qpu_text.specs.Bytes.{LF}
use Rattle.qpu_text.specs.Lines.{Cut, first_line, line_feeds}
use Rattle.qpu_record.specs.Numbers.{number_of}
use Rattle.qpu_record.specs.Record.{ends_line}

-- one part after another, up to the first fault

abbrev pub and_then : {A B : Type 0} → Result A RecordFault → (A → Result B RecordFault) → Result B RecordFault
and_then (Ok a) f = f a
and_then (Err fault) f = Err fault

abbrev pub or_line : {A : Type 0} → ℕ → Option A → Result A RecordFault
or_line number None = Err (fault.Line number)
or_line number (Some a) = Ok a

-- the version that line 1 without its line end tells
abbrev pub version_of : List ℕ → Result Version RecordFault
version_of line =
    if bytes_eq line (codes "qpurecord 1") then Ok First
    else if bytes_eq line (codes "qpurecord 2") then Ok Second
    else Err fault.Version

abbrev pub with_line_end : Cut → Version → Result (Version × List ℕ) RecordFault
with_line_end line version = if line.found then Ok (version, line.rest) else Err (fault.Line 1)

-- line 1, `qpurecord 1` or `qpurecord 2`: the version, and what stands behind this line
unfoldable pub opening : List ℕ → Result (Version × List ℕ) RecordFault
opening text =
    if starts_with nat_eq (first_line text).front (codes "qpurecord ") then
    and_then (version_of (first_line text).front) (with_line_end (first_line text))
    else Err (fault.Line 1)

-- line 2, `job N`: the size of the job, where so many bytes follow, and what stands behind this line

abbrev pub that_fit : ℕ → List ℕ → Option (ℕ × List ℕ)
that_fit size rest = if nat_le size (length rest) then Some (size, rest) else None

unfoldable pub size_line : List ℕ → Option (ℕ × List ℕ)
size_line text =
    if (first_line text).found && starts_with nat_eq (first_line text).front (codes "job ") then
    option_and_then (λ size. that_fit size (first_line text).rest)
    (number_of (length (first_line text).rest) (drop 4 (first_line text).front))
    else None

-- a job, what stands behind it, and the line with which that begins
pub record JobPart : Type 0 where
  pub job : List ℕ
  pub rest : List ℕ
  pub number : ℕ

-- the line in which a job's last byte stands, or which follows its last line feed
abbrev pub line_behind : List ℕ → ℕ
line_behind job = 3 + line_feeds job

-- whether a text begins with a line feed
abbrev pub begins_lf : List ℕ → Bool
begins_lf [] = false
begins_lf (byte ∷ text) = byte == LF

-- a job that doesn't end with a line feed has one behind it
abbrev pub after_job : List ℕ → List ℕ → Result JobPart RecordFault
after_job job rest =
    if ends_line job then Ok (record { job = job; rest = rest; number = line_behind job })
    else if begins_lf rest then Ok (record { job = job; rest = drop 1 rest; number = line_behind job + 1 })
    else Err (fault.Line (line_behind job))

-- the job of a size, and the line feed that it lacks
unfoldable pub job_part : ℕ → List ℕ → Result JobPart RecordFault
job_part size text = after_job (take size text) (drop size text)

-- the line `schedule`: what stands behind it
unfoldable pub schedule_line : ℕ → List ℕ → Result (List ℕ) RecordFault
schedule_line number text =
    if (first_line text).found && bytes_eq (first_line text).front (codes "schedule") then Ok (first_line text).rest
    else Err (fault.Line number)

-- a record's version, its job, what stands behind the line `schedule`, and the line with which that begins
pub record Heading : Type 0 where
  pub version : Version
  pub job : List ℕ
  pub rest : List ℕ
  pub number : ℕ

abbrev pub headed : Version → JobPart → List ℕ → Heading
headed version part rest = record { version = version; job = part.job; rest = rest; number = part.number + 1 }

abbrev pub with_schedule : Version → JobPart → Result Heading RecordFault
with_schedule version part = and_then (schedule_line part.number part.rest) (λ rest. Ok (headed version part rest))

abbrev pub with_job : Version × List ℕ → Result Heading RecordFault
with_job opened =
    and_then (or_line 2 (size_line opened.1)) (λ sized. and_then (job_part sized.0 sized.1) (with_schedule opened.0))

-- all that stands before the items
unfoldable pub heading_of : List ℕ → Result Heading RecordFault
heading_of text = and_then (opening text) with_job

-- what a heading has, without where it lies in memory
abbrev pub told : Told → Heading
told heading =
    record { version = heading.version; job = heading.job.now; rest = heading.rest.now; number = heading.number }

abbrev pub part_told : PartTold → JobPart
part_told part = record { job = part.job.now; rest = part.rest.now; number = part.number }

abbrev pub opened_told : Version × Bor (List ℕ) → Version × List ℕ
opened_told opened = (opened.0, opened.1.now)

abbrev pub text_told : Bor (List ℕ) → List ℕ
text_told text = text.now

abbrev pub sized_told : ℕ × Bor (List ℕ) → ℕ × List ℕ
sized_told sized = (sized.0, sized.1.now)

abbrev pub seen : {A B : Type 0} → (A → B) → Result A RecordFault → Result B RecordFault
seen view (Ok a) = Ok (view a)
seen view (Err fault) = Err fault
