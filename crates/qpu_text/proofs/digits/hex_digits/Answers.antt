-- The digits are written from the last to the first.
use Rattle.std.proofs.Common.{arith, sym, ◌∙◌, length-set}
use Rattle.qpu_text.proofs.DigitLemmas.{digit_written, none_left}
use Rattle.qpu_text.proofs.digits.hex_digits.Goals as goal

pub loop-at-preserved : goal.loop-at-preserved
loop-at-preserved g c = record {
  long = length-set _ _ _ ∙ c.loop-at.invariant.long;
  written = c.loop-at.invariant.written ∙ digit_written c.loop-at.at c.loop-at.rest _ c.loop-at.digits (omega arith) (omega arith) c.hex_digit.ensures;
}

pub returns : goal.returns
returns g c = sym (c.loop-at.invariant.written ∙ none_left c.loop-at.at c.loop-at.rest c.loop-at.digits (omega arith))
