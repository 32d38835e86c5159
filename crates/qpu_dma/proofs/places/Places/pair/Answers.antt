use Rattle.std.proofs.Common.{arith}
use Rattle.qpu_word.specs.declared.code.TheConstants.{MEMORY_WORDS}
use Rattle.qpu_dma.specs.States.{state_of}
use Rattle.qpu_dma.proofs.FitLemmas.{fitting_inside}
use Rattle.qpu_dma.proofs.places.Places.pair.Goals as goal

pub pair-requires-clause-at : goal.pair-requires-clause-at
pair-requires-clause-at c =
    omega (arith, (fitting_inside (state_of c.args.self.now 0) MEMORY_WORDS c.args.k c.args.j c.requires.fits c.requires.k c.requires.j).at, c.spot.ensures.at)

pub pair-requires-clause-row : goal.pair-requires-clause-row
pair-requires-clause-row c =
    rw c.spot.ensures.row (fitting_inside (state_of c.args.self.now 0) MEMORY_WORDS c.args.k c.args.j c.requires.fits c.requires.k c.requires.j).row

pub pair-requires-clause-column : goal.pair-requires-clause-column
pair-requires-clause-column c =
    rw c.spot.ensures.column (fitting_inside (state_of c.args.self.now 0) MEMORY_WORDS c.args.k c.args.j c.requires.fits c.requires.k c.requires.j).column
