-- The faults of one line, given what stands above it: for each cause whether it holds, and the first
-- that does. This project's own.
use Rattle.std.specs.Prelude.{ℕ, ◌+◌, ◌/◌, ◌%◌, ◌==◌, ◌||◌, Bool, true, false, not, nat_lt, nat_le, List, [], ◌∷◌, length, Option, find, is_some, is_none}
use Rattle.std.specs.List.{list_any}
use Rattle.qpu_job.specs.declared.job.TheConstants.{MOST_PROGRAMS}
use Rattle.qpu_word.specs.declared.code.TheConstants.{WORD_BYTES, PROCESSORS, LIMIT_MOST, MEMORY_WORDS}
use Rattle.qpu_job.specs.declared.fault.JobFault.{JobFault}
use Rattle.qpu_job.specs.declared.fault.JobFault.TheVariants as fault
use Rattle.qpu_job.specs.declared.reason.Reason.{Reason}
use Rattle.qpu_job.specs.declared.reason.Reason.TheVariants as cause
use Rattle.qpu_job.specs.declared.stage.Stage.{Stage}
use Rattle.qpu_job.specs.declared.stage.Stage.TheVariants.{Nothing, Opened, Sized, Limited}
use Rattle.qpu_job.specs.Shapes.{Shape, Empty, Opening, Memory, Limit, Data, Program, Start}
use Rattle.qpu_job.specs.Above.{Above, index_in}

-- the shapes that stand at a stage
unfoldable pub stands : Stage → Shape → Bool
stands Nothing Opening = true
stands Opened (Memory words) = true
stands Sized (Limit limit) = true
stands Limited (Data address values) = true
stands Limited (Program name) = true
stands Limited (Start q name uniforms) = true
stands stage Empty = true
stands stage shape = false

unfoldable pub has_wrong_size : Shape → Bool
has_wrong_size (Memory words) = (words == 0) || nat_lt MEMORY_WORDS words
has_wrong_size shape = false

unfoldable pub is_too_much : Above → Shape → Bool
is_too_much above (Limit limit) = nat_lt LIMIT_MOST limit
is_too_much above (Program name) = nat_le MOST_PROGRAMS (length above.plan.programs)
is_too_much above shape = false

unfoldable pub is_twice : Above → Shape → Bool
is_twice above (Program name) = is_some (index_in above.plan.programs name)
is_twice above (Start q name uniforms) = list_any (λ start. start.q == q) above.plan.starts
is_twice above shape = false

unfoldable pub is_no_processor : Shape → Bool
is_no_processor (Start q name uniforms) = nat_le PROCESSORS q
is_no_processor shape = false

unfoldable pub is_no_program : Above → Shape → Bool
is_no_program above (Start q name uniforms) = is_none (index_in above.plan.programs name)
is_no_program above shape = false

-- some value lies outside memory where the last does
unfoldable pub is_no_place : Above → Shape → Bool
is_no_place above (Data address values) =
    not (address % WORD_BYTES == 0) || not (nat_le (address / WORD_BYTES + length values) above.plan.words)
is_no_place above shape = false

abbrev pub has_reason : Above → Shape → Reason → Bool
has_reason above shape cause.Line = not (stands above.stage shape)
has_reason above shape cause.Size = has_wrong_size shape
has_reason above shape cause.Limit = is_too_much above shape
has_reason above shape cause.Twice = is_twice above shape
has_reason above shape cause.Processor = is_no_processor shape
has_reason above shape cause.NoProgram = is_no_program above shape
has_reason above shape cause.Place = is_no_place above shape

-- in the order in which they count
abbrev pub all_causes : List Reason
all_causes =
    cause.Line ∷ cause.Size ∷ cause.Limit ∷ cause.Twice ∷ cause.Processor ∷ cause.NoProgram ∷ cause.Place ∷ []

unfoldable pub first_reason : Above → Shape → Option Reason
first_reason above shape = find (has_reason above shape) all_causes

-- the fault of a cause in a line
abbrev pub fault_at : ℕ → Reason → JobFault
fault_at number cause.Line = fault.Line number
fault_at number cause.Size = fault.Size number
fault_at number cause.Limit = fault.Limit number
fault_at number cause.Twice = fault.Twice number
fault_at number cause.Processor = fault.Processor number
fault_at number cause.NoProgram = fault.NoProgram number
fault_at number cause.Place = fault.Place number
