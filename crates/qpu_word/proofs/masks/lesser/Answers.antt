use Rattle.std.proofs.Common.{nat_lt}
use Rattle.qpu_word.proofs.VectorLemmas.{mask_zip2, mask_fits}
use Rattle.qpu_word.proofs.masks.lesser.Goals as goal

pub overflow_cast-result : goal.overflow_cast-result
overflow_cast-result c = mask_fits nat_lt c.args.a c.args.b c.fits-a.0 c.fits-b.0

pub returns : goal.returns
returns c = mask_zip2 nat_lt c.args.a c.args.b c.fits-a.0 c.fits-b.0
