use Rattle.std.proofs.Common.{◌+◌}
use Rattle.qpu_word.specs.Operations.{low32}
use Rattle.qpu_word.proofs.VectorLemmas.{lanes_zip2}
use Rattle.qpu_alu.proofs.vectors.sums.Goals as goal

pub returns : goal.returns
returns c = lanes_zip2 (λ x y. low32 (x + y)) c.args.a c.args.b c.fits-a.0 c.fits-b.0
