use Rattle.qpu_dma.proofs.FitLemmas.{movable_rows}
use Rattle.qpu_dma.proofs.transfer.Transfer.rows.Goals as goal

pub returns-clause-most : goal.returns-clause-most
returns-clause-most c = movable_rows _ c.self.invariant
