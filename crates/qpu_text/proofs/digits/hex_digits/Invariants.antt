-- What isn't written yet, and behind it the digits that are.
use Rattle.std.proofs.Common.{◌≡◌, ◌++◌, length, drop}
use Rattle.qpu_text.specs.Digits.{hex_digits}
use Rattle.qpu_text.proofs.digits.hex_digits.Given as goal

abbrev pub invariant-loop-at : goal.invariant-loop-at
invariant-loop-at g l = record {
  long : length l.digits ≡ g.row.DIGITS;
  written : hex_digits g.row.DIGITS l.fn.n ≡ hex_digits l.at l.rest ++ drop l.at l.digits;
}
