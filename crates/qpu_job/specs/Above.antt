-- What stands above a line of a job, and what a line adds to it. This project's own.
use Rattle.std.specs.Prelude.{ℕ, ◌+◌, ◌/◌, List, [], ◌∷◌, ◌++◌, Option, Some, None, position, bytes_eq, unwrap_or, option_map}
use Rattle.qpu_machine.specs.declared.start.Start.{Start as StartOf}
use Rattle.qpu_job.specs.declared.job.Value.{Value}
use Rattle.qpu_job.specs.declared.stage.Stage.{Stage}
use Rattle.qpu_job.specs.declared.stage.Stage.TheVariants as stage
use Rattle.qpu_word.specs.declared.code.TheConstants.{WORD_BYTES}
use Rattle.qpu_job.specs.declared.above.Above.{Above as Held}
use Rattle.qpu_job.specs.Plan.{Plan, Program as ProgramOf, plan_of, program_of}
use Rattle.qpu_job.specs.Shapes.{Shape, Empty, Opening, Memory, Limit, Data, Program, Start}

-- how far the lines go that stand in order, what was asked for, and the program whose end isn't there yet
pub record Above : Type 0 where
  pub stage : Stage
  pub plan : Plan
  pub inside : Option ProgramOf

-- the same without where it lies in memory
abbrev pub above_of : Held → Above
above_of held =
    record { stage = held.stage; plan = plan_of held.job; inside = option_map program_of held.inside }

abbrev pub empty_plan : Plan
empty_plan = record { words = 0; limit = 0; values = []; programs = []; starts = [] }

-- above the first line
abbrev pub at_first : Above
at_first = record { stage = stage.Nothing; plan = empty_plan; inside = None }

-- the index of the program of a name
abbrev pub index_in : List ProgramOf → List ℕ → Option ℕ
index_in programs name = position (λ program. bytes_eq program.name name) programs

-- values for the words from this index on
unfoldable pub values_from : ℕ → List ℕ → List Value
values_from at [] = []
values_from at (value ∷ values) = record { at = at; value = value } ∷ values_from (at + 1) values

abbrev pub new_program : ℕ → List ℕ → ProgramOf
new_program number name = record { name = name; text = []; line = number + 1 }

-- a start of the program of this index
abbrev pub new_start : Option ℕ → ℕ → ℕ → StartOf
new_start index q uniforms = record { q = q; program = unwrap_or index 0; uniforms = uniforms }

-- what stands above the next line, where this one has a number and a shape, and no fault
unfoldable pub above_next : ℕ → Above → Shape → Above
above_next number above Empty = above
above_next number above Opening = record above { stage = stage.Opened }
above_next number above (Memory words) =
    record above { stage = stage.Sized; plan = record above.plan { words = words } }
above_next number above (Limit limit) =
    record above { stage = stage.Limited; plan = record above.plan { limit = limit } }
above_next number above (Data address values) =
    record above { plan = record above.plan { values = above.plan.values ++ values_from (address / WORD_BYTES) values } }
above_next number above (Program name) = record above { inside = Some (new_program number name) }
above_next number above (Start q name uniforms) =
    record above { plan = record above.plan { starts = above.plan.starts ++ new_start (index_in above.plan.programs name) q uniforms ∷ [] } }

-- inside a program: a line of its text, and its end

abbrev pub with_line : Above → ProgramOf → List ℕ → Above
with_line above program line = record above { inside = Some (record program { text = program.text ++ line }) }

abbrev pub with_program : Above → ProgramOf → Above
with_program above program =
    record above { plan = record above.plan { programs = above.plan.programs ++ program ∷ [] }; inside = None }
