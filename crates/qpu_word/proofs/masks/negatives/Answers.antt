use Rattle.std.proofs.Common.{◌^◌, nat_le, replicate, refl}
use Rattle.qpu_word.proofs.VectorLemmas.{mask_splat_left, mask_fits}
use Rattle.qpu_word.proofs.masks.negatives.Goals as goal

pub overflow_cast-result : goal.overflow_cast-result
overflow_cast-result c = mask_fits nat_le (replicate 16 (2 ^ 31)) c.args.values refl c.fits-values.0

pub returns : goal.returns
returns c = mask_splat_left nat_le (2 ^ 31) c.args.values c.fits-values.0
