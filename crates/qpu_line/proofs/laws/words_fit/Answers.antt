use Rattle.qpu_line.proofs.FitLaw.{each_fits}
use Rattle.qpu_line.proofs.laws.words_fit.Goals as goal

pub returns : goal.returns
returns c = each_fits
