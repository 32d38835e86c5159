-- What is read as a job keeps the bounds on its parts, and its machine may open.
use Rattle.std.proofs.Common.{◌≡◌, ℕ, suc, ◌+◌, ◌<◌, Bool, true, false, List, [], ◌∷◌, length, Result, Ok, Err, refl, sym, subst, arith}
use Rattle.std.specs.Prelude.{if◌then◌else◌}
use Rattle.std.specs.List.{onto_first}
use Rattle.qpu_hazard.proofs.CompleteLemmas.{clean_from_none}
use Rattle.qpu_machine.specs.Opening.{MayOpen}
use Rattle.qpu_job.specs.declared.fault.JobFault.{JobFault}
use Rattle.qpu_text.specs.Bytes.{LF, is_lf}
use Rattle.qpu_text.specs.Lines.{lines}
use Rattle.qpu_job.specs.Plan.{Plan}
use Rattle.qpu_job.specs.Above.{Above, at_first}
use Rattle.qpu_job.specs.Reading.{after_line, and_then, read_lines, job_of}
use Rattle.qpu_job.specs.ReadJob.{IsReadJob}
use Rattle.qpu_job.specs.Opening.{AreClean}
use Rattle.qpu_job.specs.MayOpen.{ReadJobsKeep, ReadJobsMayOpen}
use Rattle.qpu_job.proofs.KeptLemmas.{IsAbove, begins}
use Rattle.qpu_job.proofs.LineKeeps.{line_keeps, end_keeps}
use Rattle.qpu_job.proofs.CodeLemmas.{have_length}
use Rattle.qpu_job.proofs.StartLemmas.{starts_differ}

-- how many bytes lines have, and that each has one

abbrev bytes_in : List (List ℕ) → ℕ
bytes_in [] = 0
bytes_in (line ∷ more) = length line + bytes_in more

abbrev AreSome : List (List ℕ) → Type 0
AreSome [] = Unit {0}
AreSome (line ∷ more) = (0 < length line) × AreSome more

bytes_onto : (byte : ℕ) (ls : List (List ℕ)) → bytes_in (onto_first byte ls) ≡ suc (bytes_in ls)
bytes_onto byte [] = refl
bytes_onto byte (line ∷ more) = omega arith

some_onto : (byte : ℕ) (ls : List (List ℕ)) → AreSome ls → AreSome (onto_first byte ls)
some_onto byte [] some = (omega arith, tt)
some_onto byte (line ∷ more) some = (omega arith, some.1)

-- a byte before lines, by whether it is a line feed
abbrev with_byte : Bool → ℕ → List (List ℕ) → List (List ℕ)
with_byte feed byte ls = if feed then (LF ∷ []) ∷ ls else onto_first byte ls

bytes_with : (feed : Bool) (byte : ℕ) (ls : List (List ℕ)) → bytes_in (with_byte feed byte ls) ≡ suc (bytes_in ls)
bytes_with true byte ls = omega arith
bytes_with false byte ls = bytes_onto byte ls

some_with : (feed : Bool) (byte : ℕ) (ls : List (List ℕ)) → AreSome ls → AreSome (with_byte feed byte ls)
some_with true byte ls some = (omega arith, some)
some_with false byte ls some = some_onto byte ls some

bytes_of : (text : List ℕ) → bytes_in (lines text) ≡ length text
unfolding lines
bytes_of [] = refl
bytes_of (byte ∷ text) = omega (arith, bytes_with (is_lf byte) byte (lines text), bytes_of text)

some_of : (text : List ℕ) → AreSome (lines text)
unfolding lines
some_of [] = tt
some_of (byte ∷ text) = some_with (is_lf byte) byte (lines text) (some_of text)

-- one line after another

next_keeps : (total number : ℕ) (above : Above) (line : List ℕ) (more : List (List ℕ)) (plan : Plan) (after : Result Above JobFault) → after_line number above line ≡ after
    → 0 < length line → IsAbove total number (length line + bytes_in more) above
    → ((next : Above) → IsAbove total (number + 1) (bytes_in more) next → read_lines (number + 1) next more ≡ Ok plan → IsReadJob plan)
    → and_then after (λ next. read_lines (number + 1) next more) ≡ Ok plan → IsReadJob plan
next_keeps total number above line more plan (Ok next) e some is rest read =
    rest next (line_keeps total number (length line + bytes_in more) (bytes_in more) above next line refl some is e) read
next_keeps total number above line more plan (Err f) e some is rest read = absurd (cc)

lines_keep : (total number : ℕ) (above : Above) (ls : List (List ℕ)) (plan : Plan) → AreSome ls → IsAbove total number (bytes_in ls) above
    → read_lines number above ls ≡ Ok plan → IsReadJob plan
unfolding read_lines
lines_keep total number above [] plan some is read = end_keeps total number 0 above plan is read
lines_keep total number above (line ∷ more) plan some is read =
    next_keeps total number above line more plan (after_line number above line) refl some.0 is (λ next. lines_keep total (number + 1) next more plan some.1) read

-- what is read as a job keeps the bounds on its parts
pub read_jobs_keep : ReadJobsKeep
unfolding job_of
read_jobs_keep text plan most read =
    lines_keep (length text) 1 at_first (lines text) plan (some_of text)
    (subst (λ rest. IsAbove (length text) 1 rest at_first) (sym (bytes_of text)) (begins (length text) most)) read

-- the machine of such a job may open
pub may_open : (plan : Plan) (codes : List (List ℕ)) → IsReadJob plan → AreClean plan codes → MayOpen plan.limit codes plan.starts
may_open plan codes is are =
    let there : (k : ℕ) → k < length plan.programs → k < length codes = λ k low. omega (arith, low, have_length are.built) in
    record {
      limited = is.limit;
      numbers = λ k d low. (is.starts k d low).q;
      there = λ k d low. there _ (is.starts k d low).program;
      differ = starts_differ plan is;
      clean = λ k d low. clean_from_none _ (are.clean _ [] (there _ (is.starts k d low).program));
    }

pub read_jobs_may_open : ReadJobsMayOpen
read_jobs_may_open text plan codes most read are = may_open plan codes (read_jobs_keep text plan most read) are
