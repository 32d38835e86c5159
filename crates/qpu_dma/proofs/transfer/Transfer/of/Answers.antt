use Rattle.std.proofs.Common.{sym, ◌∙◌}
use Rattle.qpu_word.specs.declared.code.TheConstants.{MEMORY_WORDS}
use Rattle.qpu_dma.proofs.FitLemmas.{fits_greater}
use Rattle.qpu_dma.proofs.transfer.Transfer.of.Goals as goal

pub invariant_of-result : goal.invariant_of-result
invariant_of-result c = record {
  possible = c.places-places.ensures.possible;
  fits = fits_greater _ c.args.words MEMORY_WORDS c.requires (sym c.fits.ensures ∙ c.if-fits.true);
  left = c.places-places.ensures.possible.some_rows;
}
