use Rattle.std.proofs.Common.{◌≡◌, take}
use Rattle.std.proofs.lemmas.List.{take_all}
use Rattle.qpu_text.proofs.NumberLemmas.{value_more, is_above, is_within}
use Rattle.qpu_text.proofs.numbers.value_within.Goals as goal

pub loop-digit-preserved : goal.loop-digit-preserved
loop-digit-preserved c =
    rw (c.min-value.ensures, c.from-above.ensures, c.from.ensures, c.from-in-loop-digit.ensures, c.digit_of.ensures, c.loop-digit.invariant)
    (value_more c.args.most c.args.base c.args.digits.now c.loop-digit.digit-index c.loop-digit-test.true)

pub returns-then-value-above-clause-is : goal.returns-then-value-above-clause-is
returns-then-value-above-clause-is c =
    let all : take c.loop-digit.digit-index c.args.digits.now ≡ c.args.digits.now = take_all c.loop-digit.digit-index c.args.digits.now c.loop-digit-test.false in
    is_above c.args.most _ c.loop-digit.value (rw all at c.loop-digit.invariant) (rw c.from-above.ensures at c.if-value-above.true)

pub returns-clause-is : goal.returns-clause-is
returns-clause-is c =
    let all : take c.loop-digit.digit-index c.args.digits.now ≡ c.args.digits.now = take_all c.loop-digit.digit-index c.args.digits.now c.loop-digit-test.false in
    is_within c.args.most _ c.loop-digit.value (rw all at c.loop-digit.invariant) (rw c.from-above.ensures at c.if-value-above.false)
