-- Sixteen digits fit 64 bits.
use Rattle.std.proofs.Common.{◌≤◌, arith}
use Rattle.qpu_text.specs.Numbers.{hex_length}
use Rattle.qpu_text.proofs.NumberLemmas.{within_none}
use Rattle.qpu_asm.proofs.HexLemmas.{digits_fit}
use Rattle.qpu_asm.proofs.hex.number_in.Goals as goal

pub returns-in-None : goal.returns-in-None
returns-in-None c =
    let few : hex_length c.args.rest.now ≤ 16 = omega (arith, c.if-digits-gt-MOST_DIGITS.false, c.hex_length-digits.ensures.value) in
    let above = within_none _ _ (rw c.hex_length-digits.ensures.value at c.in-None.ensures.is) in
    absurd (omega (arith, above, digits_fit c.args.rest.now few))
