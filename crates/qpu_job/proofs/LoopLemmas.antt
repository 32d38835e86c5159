-- Reading line after line: what is read before a line and behind it, and how it ends.
use Rattle.std.proofs.Common.{◌≡◌, ℕ, ◌+◌, ◌<◌, ◌≤◌, List, ◌∷◌, length, Option, Some, None, Result, Ok, Err, refl, sym, subst, ◌∙◌, arith}
use Rattle.std.specs.Prelude.{IfOk, IfErr, Bool, true, false, ◌==◌, ◌&&◌, is_none, if◌then◌else◌}
use Rattle.std.proofs.lemmas.Bool.Decides.{nat_tests}
use Rattle.std.proofs.lemmas.List.{nil_from_length}
use Rattle.qpu_job.specs.declared.job.TheConstants.{MOST_TEXT}
use Rattle.qpu_job.specs.declared.job.Job.{Job}
use Rattle.qpu_job.specs.declared.fault.JobFault.{JobFault}
use Rattle.qpu_job.specs.declared.fault.JobFault.TheVariants as fault
use Rattle.qpu_job.specs.declared.reason.Reason.{Reason}
use Rattle.qpu_job.specs.declared.reason.Reason.TheVariants as cause
use Rattle.qpu_text.specs.Lines.{lines}
use Rattle.qpu_job.specs.Lines.{content}
use Rattle.qpu_job.specs.Words.{line_words}
use Rattle.qpu_job.specs.Shapes.{Shape, shape_of}
use Rattle.qpu_job.specs.Plan.{Program, plan_of}
use Rattle.qpu_job.specs.Above.{Above, at_first, with_line, with_program}
use Rattle.qpu_job.specs.Faults.{first_reason, fault_at}
use Rattle.qpu_job.specs.Reading.{is_end, is_limited, unless_fault, after_shape, after_outside, after_inside, after_line_in, after_line, at_end, read_lines, job_of, Fails, GivesJob, IsReadFault}
use Rattle.qpu_job.specs.ReadJob.{IsReadJob}
use Rattle.qpu_text.proofs.LineLemmas.{lines_none}
use Rattle.qpu_job.proofs.KeptLemmas.{IsAbove, begins}
use Rattle.qpu_job.proofs.LineKeeps.{job_end, line_keeps, end_keeps}

-- the text is read up to the rest, of which the first line has this number
pub record IsRead (text rest : List ℕ) (number : ℕ) (above : Above) : Type 0 where
  pub read : read_lines number above (lines rest) ≡ job_of text
  pub kept : IsAbove (length text) number (length rest) above

pub read_nothing : (text : List ℕ) → length text ≤ MOST_TEXT → IsRead text text 1 at_first
unfolding job_of
read_nothing text most = record { read = refl; kept = begins (length text) most }

-- a line without fault
pub read_more : (text rest line behind : List ℕ) (number : ℕ) (above next : Above) → IsRead text rest number above → lines rest ≡ line ∷ lines behind
    → 0 < length line → length line + length behind ≡ length rest → after_line number above line ≡ Ok next → IsRead text behind (number + 1) next
unfolding read_lines
read_more text rest line behind number above next r split some long e = record {
  read =
      let here : read_lines number above (lines rest) ≡ read_lines (number + 1) next (lines behind) = rw (split, e) refl in
      sym here ∙ r.read;
  kept = line_keeps (length text) number (length rest) (length behind) above next line long some r.kept e;
}

-- a line with a fault

fails_by : (f : JobFault) (number : ℕ) (above : Above) (line : List ℕ) (more : List (List ℕ)) → Fails f (after_line number above line) → Fails f (read_lines number above (line ∷ more))
unfolding read_lines
fails_by fault.Memory number above line more h = tt
fails_by (fault.Line n) number above line more h = rw h refl
fails_by (fault.Size n) number above line more h = rw h refl
fails_by (fault.Limit n) number above line more h = rw h refl
fails_by (fault.Twice n) number above line more h = rw h refl
fails_by (fault.Processor n) number above line more h = rw h refl
fails_by (fault.NoProgram n) number above line more h = rw h refl
fails_by (fault.Place n) number above line more h = rw h refl
fails_by (fault.Asm told) number above line more h = rw h refl
fails_by (fault.Check program check) number above line more h = rw h refl

pub read_fails : (text rest line behind : List ℕ) (number : ℕ) (above : Above) (f : JobFault) → IsRead text rest number above → lines rest ≡ line ∷ lines behind
    → Fails f (after_line number above line) → Fails f (job_of text)
read_fails text rest line behind number above f r split h =
    let due : read_lines number above (line ∷ lines behind) ≡ job_of text = rw split at r.read in
    subst (Fails f) due (fails_by f number above line (lines behind) h)

-- the end of the text

pub some_bytes : (text : List ℕ) → (length text == 0) ≡ false → 0 < length text
some_bytes text h = grind (arith, nat_tests)

read_ends : (text rest : List ℕ) (number : ℕ) (above : Above) → IsRead text rest number above → length rest ≡ 0 → at_end number above ≡ job_of text
unfolding read_lines
read_ends text rest number above r none =
    let here : read_lines number above (lines rest) ≡ at_end number above = rw (nil_from_length rest none, lines_none) refl in
    sym here ∙ r.read

pub gives_end : (text rest : List ℕ) (number : ℕ) (above : Above) (result : Result Job JobFault) → IsRead text rest number above → length rest ≡ 0
    → GivesJob plan_of result (at_end number above) → GivesJob plan_of result (job_of text)
gives_end text rest number above result r none h = subst (GivesJob plan_of result) (read_ends text rest number above r none) h

pub keeps_end : (text rest : List ℕ) (number : ℕ) (above : Above) (result : Result Job JobFault) → IsRead text rest number above
    → GivesJob plan_of result (at_end number above) → IfOk result (λ job. IsReadJob (plan_of job))
keeps_end text rest number above (Ok job) r h = end_keeps (length text) number (length rest) above (plan_of job) r.kept h
keeps_end text rest number above (Err f) r h = tt

-- the kinds of faults

abbrev pub Tells : {A : Type 0} → Result A JobFault → Type 0
Tells (Ok a) = Unit {0}
Tells (Err f) = IsReadFault f

told_at : (number : ℕ) (c : Reason) → IsReadFault (fault_at number c)
told_at number cause.Line = tt
told_at number cause.Size = tt
told_at number cause.Limit = tt
told_at number cause.Twice = tt
told_at number cause.Processor = tt
told_at number cause.NoProgram = tt
told_at number cause.Place = tt

told_unless : (number : ℕ) (above : Above) (shape : Shape) (c : Option Reason) → Tells (unless_fault number above shape c)
told_unless number above shape None = tt
told_unless number above shape (Some c) = told_at number c

told_shape : (number : ℕ) (above : Above) (shape : Option Shape) → Tells (after_shape number above shape)
unfolding after_shape
told_shape number above None = tt
told_shape number above (Some shape) = told_unless number above shape (first_reason above shape)

abbrev either : {A : Type 0} → Bool → A → A → Result A JobFault
either b x y = if b then Ok x else Ok y

told_either : {A : Type 0} (b : Bool) (x y : A) (number : ℕ) → Tells (either b x y)
told_either true x y number = tt
told_either false x y number = tt

told_line_in : (number : ℕ) (above : Above) (inside : Option Program) (line : List ℕ) → Tells (after_line_in inside number above line)
unfolding after_outside after_inside
told_line_in number above None line = told_shape number above (shape_of (line_words (content line)))
told_line_in number above (Some program) line = told_either (is_end line) (with_program above program) (with_line above program line) number

told_end_by : (number : ℕ) (above : Above) (b : Bool) → Tells (job_end number above b)
told_end_by number above true = tt
told_end_by number above false = tt

told_end : (number : ℕ) (above : Above) → Tells (at_end number above)
unfolding at_end
told_end number above = told_end_by number above (is_limited above.stage && is_none above.inside)

read_fault : {A : Type 0} (f : JobFault) (due : Result A JobFault) → Tells due → Fails f due → IsReadFault f
read_fault fault.Memory due told h = tt
read_fault (fault.Line n) due told h = tt
read_fault (fault.Size n) due told h = tt
read_fault (fault.Limit n) due told h = tt
read_fault (fault.Twice n) due told h = tt
read_fault (fault.Processor n) due told h = tt
read_fault (fault.NoProgram n) due told h = tt
read_fault (fault.Place n) due told h = tt
read_fault (fault.Asm own) due told h = subst Tells h told
read_fault (fault.Check program check) due told h = subst Tells h told

pub line_fault : (number : ℕ) (above : Above) (line : List ℕ) (f : JobFault) → Fails f (after_line number above line) → IsReadFault f
line_fault number above line f h = read_fault f (after_line number above line) (told_line_in number above above.inside line) h

pub kinds_end : (number : ℕ) (above : Above) (result : Result Job JobFault) → GivesJob plan_of result (at_end number above) → IfErr result IsReadFault
kinds_end number above (Ok job) h = tt
kinds_end number above (Err f) h = read_fault f (at_end number above) (told_end number above) h
