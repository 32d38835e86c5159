-- Every job of the grammar is read, as the plan that it asks for.
use Rattle.std.proofs.Common.{◌≡◌, ◌≢◌, ℕ, ◌+◌, true, false, List, [], ◌∷◌, ◌++◌, Option, Some, None, Ok, refl, ◌∙◌}
use Rattle.std.specs.Prelude.{codes, bytes_eq}
use Rattle.std.proofs.lemmas.Slice.Eq.{bytes_eq-Decides}
use Rattle.std.proofs.lemmas.Bool.{false_from_ne_true}
use Rattle.qpu_job.specs.declared.stage.Stage.TheVariants.{Limited}
use Rattle.qpu_text.specs.Lines.{lines}
use Rattle.qpu_job.specs.Lines.{content}
use Rattle.qpu_job.specs.Words.{line_words}
use Rattle.qpu_job.specs.Shapes.{Shape, shape_of}
use Rattle.qpu_job.specs.Plan.{Plan, Program}
use Rattle.qpu_job.specs.Above.{Above, above_next, with_line, with_program}
use Rattle.qpu_job.specs.Faults.{first_reason}
use Rattle.qpu_job.specs.Reading.{is_end, after_shape, after_outside, after_inside, after_line_in, after_line, at_end, read_lines, job_of}
use Rattle.qpu_job.specs.Grammar.{Asks, ends, says, tells, closes, ReadsEveryJob}
use Rattle.qpu_text.proofs.LineLemmas.{lines_none}
use Rattle.qpu_job.proofs.GrammarLemmas.{line_only, content_only, says_only}

step : (number : ℕ) (above next : Above) (line rest : List ℕ) (plan : Plan) → lines (line ++ rest) ≡ line ∷ lines rest → after_line number above line ≡ Ok next
    → read_lines (number + 1) next (lines rest) ≡ Ok plan → read_lines number above (lines (line ++ rest)) ≡ Ok plan
unfolding read_lines
step number above next line rest plan cut is h = rw (cut, is) h

outside_by : (number : ℕ) (above : Above) (line : List ℕ) (inside : Option Program) → inside ≡ None → after_line_in inside number above line ≡ after_outside number above line
outside_by number above line None is = refl
outside_by number above line (Some program) is = absurd (cc)

shape_step : (number : ℕ) (above : Above) (line body : List ℕ) (words : List (List ℕ)) (shape : Shape) → content line ≡ body → line_words body ≡ words
    → shape_of words ≡ Some shape → first_reason above shape ≡ None → after_outside number above line ≡ Ok (above_next number above shape)
unfolding after_outside after_shape
shape_step number above line body words shape content_is words_are shape_is none = rw (content_is, words_are, shape_is, none) refl

outside_step : (number : ℕ) (above : Above) (line body : List ℕ) (words : List (List ℕ)) (shape : Shape) → above.inside ≡ None → content line ≡ body → line_words body ≡ words
    → shape_of words ≡ Some shape → first_reason above shape ≡ None → after_line number above line ≡ Ok (above_next number above shape)
outside_step number above line body words shape inside content_is words_are shape_is none =
    outside_by number above line above.inside inside ∙ shape_step number above line body words shape content_is words_are shape_is none

no_end : (line body : List ℕ) → content line ≡ body → body ≢ codes "endprogram" → is_end line ≡ false
no_end line body content_is other = rw content_is (false_from_ne_true (bytes_eq body (codes "endprogram")) (λ h. other ((bytes_eq-Decides body (codes "endprogram")).0 h)))

the_end : (line : List ℕ) → content line ≡ codes "endprogram" → is_end line ≡ true
the_end line content_is = rw content_is refl

line_step : (number : ℕ) (above : Above) (line : List ℕ) (program : Program) → above.inside ≡ Some program → is_end line ≡ false → after_line number above line ≡ Ok (with_line above program line)
unfolding after_inside
line_step number above line program inside other = rw (inside, other) refl

end_step : (number : ℕ) (above : Above) (line : List ℕ) (program : Program) → above.inside ≡ Some program → is_end line ≡ true → after_line number above line ≡ Ok (with_program above program)
unfolding after_inside
end_step number above line program inside end = rw (inside, end) refl

at_the_end : (number : ℕ) (above : Above) → above.stage ≡ Limited → above.inside ≡ None → read_lines number above (lines []) ≡ Ok above.plan
unfolding read_lines at_end
at_the_end number above limited none = rw (lines_none, limited, none) refl

only : {number : ℕ} {above : Above} {text : List ℕ} {plan : Plan} → Asks number above text plan → read_lines number above (lines text) ≡ Ok plan
only (ends {number = number} above limited none) = at_the_end number above limited none
only (says {number = number} {rest = rest} {plan = plan} above line body words shape inside is said shape_is none h) =
    step number above (above_next number above shape) line rest plan (line_only line rest is)
    (outside_step number above line body words shape inside (content_only line rest is) (says_only body words said) shape_is none) (only h)
only (tells {number = number} {rest = rest} {plan = plan} above line body program inside is other h) =
    step number above (with_line above program line) line rest plan (line_only line rest is)
    (line_step number above line program inside (no_end line body (content_only line rest is) other)) (only h)
only (closes {number = number} {rest = rest} {plan = plan} above line program inside is h) =
    step number above (with_program above program) line rest plan (line_only line rest is)
    (end_step number above line program inside (the_end line (content_only line rest is))) (only h)

pub every_job : ReadsEveryJob
unfolding job_of
every_job text plan h = only h
