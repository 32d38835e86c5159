-- A processor as plain numbers and lists. This project's own.
use Rattle.std.specs.Prelude.{ℕ, List, None, replicate}
use Rattle.qpu_word.specs.declared.setup.Book.{Book}
use Rattle.qpu_word.specs.declared.state.Flags.{Flags}
use Rattle.qpu_word.specs.declared.state.Rest.{Rest}
use Rattle.qpu_word.specs.declared.state.Rest.TheVariants.{Straight}
use Rattle.qpu_word.specs.declared.state.Halt.{Halt}
use Rattle.qpu_word.specs.declared.state.Halt.TheVariants.{Going}
use Rattle.qpu_word.specs.declared.code.TheConstants.{ROWS, ACCUMULATORS}
use Rattle.qpu_word.specs.Lanes.{lanes}

-- the number, both files of 32 rows, six accumulators, the flags, the place of the next word and
-- what is in progress there, the setups, the counts of instructions and interrupts, and the halt
pub record ProcessorState : Type 0 where
  pub q : ℕ
  pub file_a : List (List ℕ)
  pub file_b : List (List ℕ)
  pub accumulators : List (List ℕ)
  pub flags : Flags
  pub place : ℕ
  pub rest : Rest
  pub book : Book
  pub executed : ℕ
  pub interrupts : ℕ
  pub halt : Halt

-- before any step

-- a row of zeros
abbrev pub clear_row : List ℕ
clear_row = lanes (λ i. 0)

-- a book in which nothing was given but the uniforms address
abbrev pub opening_book : ℕ → Book
opening_book uniforms = record {
  uniform_at = uniforms;
  first = None;
  second = None;
  writes = None;
  load = None;
  load_pitch = 0;
  store = None;
  store_stride = 0;
}

-- a processor before any step
unfoldable pub opening_processor : ℕ → ℕ → ProcessorState
opening_processor q uniforms = record {
  q = q;
  file_a = replicate ROWS clear_row;
  file_b = replicate ROWS clear_row;
  accumulators = replicate ACCUMULATORS clear_row;
  flags = record { zn = None; c = None };
  place = 0;
  rest = Straight;
  book = opening_book uniforms;
  executed = 0;
  interrupts = 0;
  halt = Going;
}
