use Rattle.std.proofs.Common.{nat_eq, replicate, refl}
use Rattle.qpu_word.proofs.VectorLemmas.{mask_splat, mask_fits}
use Rattle.qpu_word.proofs.masks.zeros.Goals as goal

pub overflow_cast-result : goal.overflow_cast-result
overflow_cast-result c = mask_fits nat_eq c.args.values (replicate 16 0) c.fits-values.0 refl

pub returns : goal.returns
returns c = mask_splat nat_eq c.args.values 0 c.fits-values.0
