-- What a job asks for, without where it lies in memory. This project's own.
use Rattle.std.specs.Prelude.{ℕ, List, map, string_bytes}
use Rattle.qpu_machine.specs.declared.start.Start.{Start}
use Rattle.qpu_job.specs.declared.job.Value.{Value}
use Rattle.qpu_job.specs.declared.job.ProgramText.{ProgramText}
use Rattle.qpu_job.specs.declared.job.Job.{Job}

-- a program's name, its lines as they stand, and the line in which they begin
pub record Program : Type 0 where
  pub name : List ℕ
  pub text : List ℕ
  pub line : ℕ

-- words of memory, the limit, values by word index, programs, and which processors run which of them
pub record Plan : Type 0 where
  pub words : ℕ
  pub limit : ℕ
  pub values : List Value
  pub programs : List Program
  pub starts : List Start

abbrev pub program_of : ProgramText → Program
program_of program =
    record { name = string_bytes program.name; text = string_bytes program.text; line = program.line }

abbrev pub programs_of : List ProgramText → List Program
programs_of programs = map program_of programs

abbrev pub plan_of : Job → Plan
plan_of job = record {
  words = job.words;
  limit = job.limit;
  values = job.values.items;
  programs = programs_of job.programs.items;
  starts = job.starts.items;
}
