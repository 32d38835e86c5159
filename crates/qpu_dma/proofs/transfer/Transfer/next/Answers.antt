use Rattle.std.proofs.Common.{◌+◌, arith}
use Rattle.std.proofs.lemmas.Bool.Decides.{nat_tests}
use Rattle.qpu_dma.specs.States.{state_of}
use Rattle.qpu_dma.proofs.FitLemmas.{movable_moved}
use Rattle.qpu_dma.proofs.transfer.Transfer.next.Goals as goal

pub invariant_of-result : goal.invariant_of-result
invariant_of-result c =
    movable_moved (state_of c.self.inside.places c.self.inside.moved) (c.self.inside.moved + 1) c.self.invariant (grind (arith, nat_tests, c.if-moved-self.true))
