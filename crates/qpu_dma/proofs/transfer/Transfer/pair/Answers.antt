use Rattle.std.proofs.Common.{◌<◌, sym, subst, ◌∙◌, IsTrue}
use Rattle.qpu_word.specs.declared.code.TheConstants.{MEMORY_WORDS}
use Rattle.qpu_dma.specs.Transfers.{TransferState, fits}
use Rattle.qpu_dma.specs.States.{state_of}
use Rattle.qpu_dma.proofs.FitLemmas.{fits_moved, fitting_inside, fitting_whole, slice_get-row_pairs}
use Rattle.qpu_dma.proofs.SpotLemmas.{byte_low, place_below}
use Rattle.qpu_dma.proofs.transfer.Transfer.pair.Goals as goal

pub pair-requires-clause-fits : goal.pair-requires-clause-fits
pair-requires-clause-fits c = fits_moved (state_of c.self.inside.places c.self.inside.moved) MEMORY_WORDS 0 ∙ c.self.invariant.fits

pub returns-clause-listed : goal.returns-clause-listed
returns-clause-listed c =
    let within = subst (λ (t : TransferState). c.args.j < t.row_length) (sym c.self.view_is) c.requires.j in
    rw (c.pair.ensures.pair, sym c.self.view_is) (slice_get-row_pairs (state_of c.self.inside.places c.self.inside.moved) c.args.k c.args.j within)

pub returns-clause-word : goal.returns-clause-word
returns-clause-word c words may =
    let low = subst (λ (t : TransferState). c.args.k < t.rows) (sym c.self.view_is) c.requires.k in
    let within = subst (λ (t : TransferState). c.args.j < t.row_length) (sym c.self.view_is) c.requires.j in
    let fit = subst (λ (t : TransferState). IsTrue (fits t words)) (sym c.self.view_is) may in
    rw c.pair.ensures.pair (fitting_inside (state_of c.self.inside.places c.self.inside.moved) words c.args.k c.args.j fit low within).at

pub returns-clause-place : goal.returns-clause-place
returns-clause-place c =
    let low = subst (λ (t : TransferState). c.args.k < t.rows) (sym c.self.view_is) c.requires.k in
    let within = subst (λ (t : TransferState). c.args.j < t.row_length) (sym c.self.view_is) c.requires.j in
    let inside = fitting_inside (state_of c.self.inside.places c.self.inside.moved) MEMORY_WORDS c.args.k c.args.j c.self.invariant.fits low within in
    rw c.pair.ensures.pair
    (place_below _ _ _ inside.row inside.column (byte_low (state_of c.self.inside.places c.self.inside.moved) c.args.j c.self.invariant.possible.begins))

pub returns-clause-at_whole : goal.returns-clause-at_whole
returns-clause-at_whole c =
    let low = subst (λ (t : TransferState). c.args.k < t.rows) (sym c.self.view_is) c.requires.k in
    rw c.pair.ensures.pair
    (fitting_whole (state_of c.self.inside.places c.self.inside.moved) MEMORY_WORDS c.args.k c.args.j c.self.invariant.possible c.self.invariant.fits low)
