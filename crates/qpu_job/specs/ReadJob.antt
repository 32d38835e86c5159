-- What each job that was read keeps: the bounds on its parts. This project's own.
use Rattle.std.specs.Prelude.{◌≡◌, ℕ, ◌<◌, ◌≤◌, ◌&&◌, Bool, true, not, nat_eq, List, [], ◌∷◌, length, map, All, bytes_eq}
use Rattle.qpu_word.specs.declared.code.TheConstants.{PROCESSORS, LIMIT_MOST, MEMORY_WORDS}
use Rattle.std.specs.List.{list_any}
use Rattle.qpu_machine.specs.declared.start.Start.{Start}
use Rattle.qpu_job.specs.declared.job.Value.{Value}
use Rattle.qpu_job.specs.declared.job.TheConstants.{MOST_PROGRAMS, MOST_TEXT}
use Rattle.qpu_job.specs.Words.{is_name}
use Rattle.qpu_job.specs.Plan.{Plan, Program}

-- no two are the same, by a test
abbrev pub differ : {X : Type 0} → (X → X → Bool) → List X → Bool
differ same [] = true
differ same (x ∷ xs) = not (list_any (same x) xs) && differ same xs

abbrev pub names : Plan → List (List ℕ)
names plan = map (λ program. program.name) plan.programs

abbrev pub started_processors : Plan → List ℕ
started_processors plan = map (λ start. start.q) plan.starts

-- a program's name is one, and its text and line are within the longest text
pub record IsProgram (program : Program) : Type 0 where
  pub name : is_name program.name ≡ true
  pub text : length program.text ≤ MOST_TEXT
  pub line : program.line ≤ MOST_TEXT

-- a start is of a processor and of a program that are there
pub record IsStart (programs : ℕ) (start : Start) : Type 0 where
  pub q : start.q < PROCESSORS
  pub program : start.program < programs

-- what a job keeps
pub record IsReadJob (plan : Plan) : Type 0 where
  pub some_memory : 0 < plan.words
  pub most_memory : plan.words ≤ MEMORY_WORDS
  pub limit : plan.limit ≤ LIMIT_MOST
  pub values : All (λ (value : Value). value.at < plan.words) plan.values
  pub few_programs : length plan.programs ≤ MOST_PROGRAMS
  pub programs : All IsProgram plan.programs
  pub names : differ bytes_eq (names plan) ≡ true
  pub starts : All (IsStart (length plan.programs)) plan.starts
  pub processors : differ nat_eq (started_processors plan) ≡ true
