-- What the writes of registers keep.
use Rattle.std.proofs.Common.{◌≡◌, ℕ, ◌+◌, Bool, List, refl, ap, arith, ◌∙◌}
use Rattle.std.proofs.lemmas.Bool.Decides.{nat_tests}
use Rattle.qpu_word.specs.declared.word.Fields.{Fields}
use Rattle.qpu_word.specs.declared.traffic.Ins.{Ins}
use Rattle.qpu_word.specs.declared.setup.Book.{Book}
use Rattle.qpu_word.specs.Processor.{ProcessorState}
use Rattle.qpu_word.specs.Writing.{written}
use Rattle.qpu_word.specs.Instruction.{put_add, put_mul, put_loaded, registers_after, place_after, rest_after, halt_after, moved_on, done}

-- a write of a row or accumulator keeps the count of instructions
executed_written : (in_b : Bool) (address : ℕ) (values : List ℕ) (p : ProcessorState) → (written in_b address values p).executed ≡ p.executed
unfolding written
executed_written in_b address values p = grind (arith, nat_tests)

executed_add : (f : Fields) (values : List ℕ) (p : ProcessorState) → (put_add f values p).executed ≡ p.executed
unfolding put_add
executed_add f values p = grind (arith, nat_tests, executed_written)

executed_mul : (f : Fields) (values : List ℕ) (p : ProcessorState) → (put_mul f values p).executed ≡ p.executed
unfolding put_mul
executed_mul f values p = grind (arith, nat_tests, executed_written)

executed_loaded : (f : Fields) (ins : Ins) (p : ProcessorState) → (put_loaded f ins p).executed ≡ p.executed
unfolding put_loaded
executed_loaded f ins p = grind (arith, nat_tests)

-- the writes of registers keep the count of instructions
pub executed_kept : (f : Fields) (p : ProcessorState) (ins : Ins) → (registers_after f p ins).executed ≡ p.executed
unfolding registers_after
executed_kept f p ins = executed_loaded f ins _ ∙ executed_mul f _ _ ∙ executed_add f _ _

q_written : (in_b : Bool) (address : ℕ) (values : List ℕ) (p : ProcessorState) → (written in_b address values p).q ≡ p.q
unfolding written
q_written in_b address values p = grind (arith, nat_tests)

q_add : (f : Fields) (values : List ℕ) (p : ProcessorState) → (put_add f values p).q ≡ p.q
unfolding put_add
q_add f values p = grind (arith, nat_tests, q_written)

q_mul : (f : Fields) (values : List ℕ) (p : ProcessorState) → (put_mul f values p).q ≡ p.q
unfolding put_mul
q_mul f values p = grind (arith, nat_tests, q_written)

q_loaded : (f : Fields) (ins : Ins) (p : ProcessorState) → (put_loaded f ins p).q ≡ p.q
unfolding put_loaded
q_loaded f ins p = grind (arith, nat_tests)

-- the writes of registers keep the number of the processor
pub q_kept : (f : Fields) (p : ProcessorState) (ins : Ins) → (registers_after f p ins).q ≡ p.q
unfolding registers_after
q_kept f p ins = q_loaded f ins _ ∙ q_mul f _ _ ∙ q_add f _ _

-- what an instruction does to the number, the place, what is in progress, the count and the halt
pub record Moves (f : Fields) (p after : ProcessorState) : Type 0 where
  pub q : after.q ≡ p.q
  pub place : after.place ≡ place_after f p
  pub rest : after.rest ≡ rest_after f p
  pub executed : after.executed ≡ p.executed + 1
  pub halt : after.halt ≡ halt_after f p

pub done_moves : (f : Fields) (p : ProcessorState) (ins : Ins) (book : Book) → Moves f p (done f p ins book)
unfolding done moved_on
done_moves f p ins book = record {
  q = q_kept f p ins;
  place = refl;
  rest = refl;
  executed = ap (λ n. n + 1) (executed_kept f p ins);
  halt = refl;
}
