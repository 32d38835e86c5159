-- What the generated job of a number asks for. This project's own.
use Rattle.std.specs.Prelude.{ℕ, ◌+◌, ◌^◌, ◌%◌, List, [], ◌∷◌, codes, map}
use Rattle.std.specs.List.{range_with_len}
use Rattle.qpu_machine.specs.declared.start.Start.{Start}
use Rattle.qpu_job.specs.declared.job.Value.{Value}
use Rattle.qpu_job.specs.Plan.{Plan, Program}
use Rattle.qpu_gen.specs.declared.generated.TheConstants.{COUNTED_WORDS}
use Rattle.qpu_gen.specs.Generated.{program_text}

-- a value for a word of memory
abbrev pub word_value : ℕ → ℕ → Value
word_value at value = record { at = at; value = value }

-- words that count on from a number, from word 16 on
unfoldable pub counted_values : ℕ → ℕ → List Value
counted_values n words = map (λ k. word_value (16 + k) ((n + k) % 2 ^ 32)) (range_with_len 0 words)

unfoldable pub generated_values : ℕ → List Value
generated_values n = word_value 0 64 ∷ word_value 1 n ∷ word_value 2 196672 ∷ counted_values n COUNTED_WORDS

-- the program begins in the job's line 7
abbrev pub generated_program : Program
generated_program = record { name = codes "a"; text = program_text; line = 7 }

-- each processor runs it from uniforms at the beginning of memory
abbrev pub generated_start : ℕ → Start
generated_start q = record { q = q; program = 0; uniforms = 0 }

unfoldable pub generated_plan : ℕ → Plan
generated_plan n = record {
  words = 131072;
  limit = 100000;
  values = generated_values n;
  programs = generated_program ∷ [];
  starts = map generated_start (range_with_len 0 12);
}
