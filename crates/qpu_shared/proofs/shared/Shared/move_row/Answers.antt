use Rattle.qpu_shared.proofs.MoveLemmas.{rest_fits}
use Rattle.qpu_shared.proofs.shared.Shared.move_row.Goals as goal

pub put_transfer-requires-clause-fits : goal.put_transfer-requires-clause-fits
put_transfer-requires-clause-fits c = rw (c.carry_row.ensures.long, c.next.ensures) (rest_fits _ c.in-Some.transfer (rw c.in-Some.is at c.transfer_at.ensures.fits))
