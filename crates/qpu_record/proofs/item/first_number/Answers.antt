-- A number ends at the first space.
use Rattle.std.proofs.Common.{sym, refl, ◌+◌}
use Rattle.std.proofs.lemmas.List.{take_rest}
use Rattle.qpu_record.proofs.ItemLemmas.{first_some, first_none}
use Rattle.qpu_record.proofs.item.first_number.Goals as goal

pub returns-in-None : goal.returns-in-None
returns-in-None c = sym (first_none c.args.text.now (sym c.in-None.ensures))

pub returns-in_err-number-in-Some : goal.returns-in_err-number-in-Some
returns-in_err-number-in-Some c =
    rw (first_some c.args.text.now c.in-Some.at (sym c.in-Some.ensures)) (rw (← c.in_err-number-in-Some.ensures.is, c.from_residual.ensures) refl)

pub returns-in_ok-number-in-Some : goal.returns-in_ok-number-in-Some
returns-in_ok-number-in-Some c =
    rw (first_some c.args.text.now c.in-Some.at (sym c.in-Some.ensures)) (rw (← c.in_ok-number-in-Some.ensures.is, take_rest c.args.text.now (c.in-Some.at + 1)) refl)
