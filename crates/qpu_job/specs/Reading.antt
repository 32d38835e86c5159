-- The job of a text, or its first fault, line after line. This project's own.
use Rattle.std.specs.Prelude.{◌≡◌, ℕ, ◌+◌, ◌&&◌, Bool, true, false, List, [], ◌∷◌, Option, Some, None, is_none, codes, bytes_eq, Result, Ok, Err, if◌then◌else◌}
use Rattle.qpu_job.specs.declared.fault.JobFault.{JobFault}
use Rattle.qpu_job.specs.declared.fault.JobFault.TheVariants as fault
use Rattle.qpu_job.specs.declared.reason.Reason.{Reason}
use Rattle.qpu_job.specs.declared.stage.Stage.{Stage}
use Rattle.qpu_job.specs.declared.stage.Stage.TheVariants.{Nothing, Opened, Sized, Limited}
use Rattle.qpu_job.specs.Plan.{Plan, Program}
use Rattle.qpu_text.specs.Lines.{lines}
use Rattle.qpu_job.specs.Lines.{content}
use Rattle.qpu_job.specs.Words.{line_words}
use Rattle.qpu_job.specs.Shapes.{Shape, shape_of}
use Rattle.qpu_job.specs.Above.{Above, at_first, above_next, with_line, with_program}
use Rattle.qpu_job.specs.Faults.{first_reason, fault_at}

-- a line outside programs, of a shape or of none

abbrev pub unless_fault : ℕ → Above → Shape → Option Reason → Result Above JobFault
unless_fault number above shape None = Ok (above_next number above shape)
unless_fault number above shape (Some cause) = Err (fault_at number cause)

unfoldable pub after_shape : ℕ → Above → Option Shape → Result Above JobFault
after_shape number above None = Err (fault.Line number)
after_shape number above (Some shape) = unless_fault number above shape (first_reason above shape)

-- the line that ends a program: these letters alone
abbrev pub is_end : List ℕ → Bool
is_end line = bytes_eq (content line) (codes "endprogram")

-- a line outside programs
unfoldable pub after_outside : ℕ → Above → List ℕ → Result Above JobFault
after_outside number above line = after_shape number above (shape_of (line_words (content line)))

-- a line inside of one
unfoldable pub after_inside : Program → Above → List ℕ → Result Above JobFault
after_inside program above line =
    if is_end line then Ok (with_program above program) else Ok (with_line above program line)

abbrev pub after_line_in : Option Program → ℕ → Above → List ℕ → Result Above JobFault
after_line_in None number above line = after_outside number above line
after_line_in (Some program) number above line = after_inside program above line

-- what stands above the next line, or the fault of this one
abbrev pub after_line : ℕ → Above → List ℕ → Result Above JobFault
after_line number above line = after_line_in above.inside number above line

abbrev pub is_limited : Stage → Bool
is_limited Nothing = false
is_limited Opened = false
is_limited Sized = false
is_limited Limited = true

-- the end of the text, which is told as the line after the last
unfoldable pub at_end : ℕ → Above → Result Plan JobFault
at_end number above =
    if is_limited above.stage && is_none above.inside then Ok above.plan else Err (fault.Line number)

abbrev pub and_then : {A B : Type 0} → Result A JobFault → (A → Result B JobFault) → Result B JobFault
and_then (Ok a) f = f a
and_then (Err fault) f = Err fault

-- the job of these lines, of which the first has this number
unfoldable pub read_lines : ℕ → Above → List (List ℕ) → Result Plan JobFault
read_lines number above [] = at_end number above
read_lines number above (line ∷ more) =
    and_then (after_line number above line) (λ next. read_lines (number + 1) next more)

unfoldable pub job_of : List ℕ → Result Plan JobFault
job_of text = read_lines 1 at_first (lines text)

-- a call answered what is due, seen without where it lies in memory; want of memory is free

abbrev pub Fails : {Y : Type 0} → JobFault → Result Y JobFault → Type 0
Fails fault.Memory due = Unit {0}
Fails other due = due ≡ Err other

abbrev pub GivesJob : {X Y : Type 0} → (X → Y) → Result X JobFault → Result Y JobFault → Type 0
GivesJob view (Ok x) due = due ≡ Ok (view x)
GivesJob view (Err fault) due = Fails fault due

-- the same of a call that changes what stands above
abbrev pub GoesOn : Above → Result (Unit {0}) JobFault → Result Above JobFault → Type 0
GoesOn next (Ok _) due = due ≡ Ok next
GoesOn next (Err fault) due = Fails fault due

-- the faults that reading tells
abbrev pub IsReadFault : JobFault → Type 0
IsReadFault (fault.Asm told) = ⊥
IsReadFault (fault.Check program check) = ⊥
IsReadFault other = Unit {0}
