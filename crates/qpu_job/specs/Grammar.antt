-- The grammar of jobs: a text is a concatenation of lines, a line its words between blanks, a comment
-- and a line end. How a text is cut isn't told here. This project's own.
use Rattle.std.specs.Prelude.{◌≡◌, ◌≢◌, ℕ, ◌+◌, ◌-◌, ◌<◌, ◌==◌, Bool, true, false, List, [], ◌∷◌, ◌++◌, length, slice_index, codes, Some, None, Ok}
use Rattle.std.specs.List.{list_any}
use Rattle.qpu_text.specs.Bytes.{is_blank, LF, CR, is_lf, is_hash}
use Rattle.qpu_job.specs.declared.stage.Stage.TheVariants.{Limited}
use Rattle.qpu_job.specs.Shapes.{Shape, shape_of}
use Rattle.qpu_job.specs.Plan.{Plan, Program}
use Rattle.qpu_job.specs.Above.{Above, at_first, above_next, with_line, with_program}
use Rattle.qpu_job.specs.Faults.{first_reason}
use Rattle.qpu_job.specs.Reading.{job_of}

-- no byte passes the test
abbrev pub Lacks : (ℕ → Bool) → List ℕ → Type 0
Lacks test text = list_any test text ≡ false

-- words and blanks

pub record IsWord (word : List ℕ) : Type 0 where
  pub some : 0 < length word
  pub whole : Lacks is_blank word

pub data Words : List ℕ → List (List ℕ) → Type 0 where
  nothing : Words [] []
  blank : {text : List ℕ} {words : List (List ℕ)} (byte : ℕ) → is_blank byte ≡ true → Words text words → Words (byte ∷ text) words
  last : (word : List ℕ) → IsWord word → Words word (word ∷ [])
  followed : {text : List ℕ} {words : List (List ℕ)} (word : List ℕ) (byte : ℕ) → IsWord word → is_blank byte ≡ true → Words text words → Words (word ++ byte ∷ text) (word ∷ words)

-- nothing, or `#` and any bytes
pub data Comment : List ℕ → Type 0 where
  none : Comment []
  some : (byte : ℕ) (text : List ℕ) → is_hash byte ≡ true → Comment (byte ∷ text)

-- words, and a comment
pub record Says (body : List ℕ) (words : List (List ℕ)) : Type 0 where
  pub bare : List ℕ
  pub comment : List ℕ
  pub parts : body ≡ bare ++ comment
  pub no_hash : Lacks is_hash bare
  pub is_comment : Comment comment
  pub spelled : Words bare words

-- the body of a line with its end, before the rest of the text: LF, or CR and LF; the last line may
-- have none, where it isn't empty

abbrev pub ends_in_cr : List ℕ → Bool
ends_in_cr body = slice_index body (length body - 1) == CR

pub data IsLine (body : List ℕ) : List ℕ → List ℕ → Type 0 where
  by_lf : (rest : List ℕ) → Lacks is_lf body → ends_in_cr body ≡ false → IsLine body (body ++ LF ∷ []) rest
  by_cr_lf : (rest : List ℕ) → Lacks is_lf body → IsLine body (body ++ CR ∷ LF ∷ []) rest
  by_none : Lacks is_lf body → 0 < length body → IsLine body body []

-- from a line of this number on, with this above it, the text asks for a plan
pub data Asks : ℕ → Above → List ℕ → Plan → Type 0 where
  ends : {number : ℕ} (above : Above) → above.stage ≡ Limited → above.inside ≡ None → Asks number above [] above.plan
  says : {number : ℕ} {rest : List ℕ} {plan : Plan} (above : Above) (line body : List ℕ) (words : List (List ℕ)) (shape : Shape)
      → above.inside ≡ None → IsLine body line rest → Says body words → shape_of words ≡ Some shape → first_reason above shape ≡ None
      → Asks (number + 1) (above_next number above shape) rest plan → Asks number above (line ++ rest) plan
  tells : {number : ℕ} {rest : List ℕ} {plan : Plan} (above : Above) (line body : List ℕ) (program : Program)
      → above.inside ≡ Some program → IsLine body line rest → body ≢ codes "endprogram"
      → Asks (number + 1) (with_line above program line) rest plan → Asks number above (line ++ rest) plan
  closes : {number : ℕ} {rest : List ℕ} {plan : Plan} (above : Above) (line : List ℕ) (program : Program)
      → above.inside ≡ Some program → IsLine (codes "endprogram") line rest
      → Asks (number + 1) (with_program above program) rest plan → Asks number above (line ++ rest) plan

-- a text is a job that asks for this plan
abbrev pub IsJob : List ℕ → Plan → Type 0
IsJob text plan = Asks 1 at_first text plan

-- what is read is a job
abbrev pub ReadsJobsAlone : Type 0
ReadsJobsAlone = (text : List ℕ) (plan : Plan) → job_of text ≡ Ok plan → IsJob text plan

-- every job is read
abbrev pub ReadsEveryJob : Type 0
ReadsEveryJob = (text : List ℕ) (plan : Plan) → IsJob text plan → job_of text ≡ Ok plan
