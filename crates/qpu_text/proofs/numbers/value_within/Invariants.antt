-- The value of the digits before the index, or the number above the most where it is larger.
use Rattle.std.proofs.Common.{◌≡◌, ◌+◌, min, take}
use Rattle.qpu_text.specs.Numbers.{value_in}
use Rattle.qpu_text.proofs.numbers.value_within.Given as goal

abbrev pub invariant-loop-digit : goal.invariant-loop-digit
invariant-loop-digit l = l.value ≡ min (value_in l.base (take l.digit-index l.digits)) (l.most + 1)
