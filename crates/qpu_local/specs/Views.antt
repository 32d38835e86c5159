-- What contracts see of a processor: its state.
use Rattle.std.specs.Prelude.{ℕ, ◌+◌, ◌^◌, ◌<◌, ◌≤◌}
use Rattle.qpu_word.specs.declared.state.Rest.{Rest}
use Rattle.qpu_word.specs.declared.state.Rest.TheVariants.{Straight, Ending, To}
use Rattle.qpu_word.specs.Processor.{ProcessorState}
use Rattle.qpu_word.specs.Books.{IsSoundBook}
use Rattle.qpu_local.specs.declared.processor.Processor.TheInside.{Inside}

-- the state of a processor's fields
abbrev pub processor_state : Inside → ProcessorState
processor_state inside = record {
  q = inside.q;
  file_a = inside.file_a;
  file_b = inside.file_b;
  accumulators = inside.accumulators;
  flags = inside.flags;
  place = inside.place;
  rest = inside.rest;
  book = inside.book;
  executed = inside.executed;
  interrupts = inside.interrupts;
  halt = inside.halt;
}

-- the fields of a processor's state
abbrev pub fields_back : ProcessorState → Inside
fields_back p = record {
  q = p.q;
  file_a = p.file_a;
  file_b = p.file_b;
  accumulators = p.accumulators;
  flags = p.flags;
  place = p.place;
  rest = p.rest;
  book = p.book;
  executed = p.executed;
  interrupts = p.interrupts;
  halt = p.halt;
}

-- the place that a branch in progress goes to, 0 where there is none
abbrev pub coming_place : Rest → ℕ
coming_place Straight = 0
coming_place (Ending n) = 0
coming_place (To n t) = t

-- each interrupt was raised by an instruction of its own; a place is a branch's target, below
-- 2^29 words, or a few words behind one; the setups are valid ones
pub record IsSoundProcessor (inside : Inside) : Type 0 where
  pub counted : inside.interrupts ≤ inside.executed
  pub place : inside.place ≤ 2 ^ 29 + inside.executed
  pub coming : coming_place inside.rest < 2 ^ 29
  pub book : IsSoundBook inside.book
