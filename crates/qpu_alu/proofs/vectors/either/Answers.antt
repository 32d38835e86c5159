use Rattle.std.proofs.Common.{bit_or}
use Rattle.qpu_word.proofs.VectorLemmas.{lanes_zip2}
use Rattle.qpu_alu.proofs.vectors.either.Goals as goal

pub returns : goal.returns
returns c = lanes_zip2 bit_or c.args.a c.args.b c.fits-a.0 c.fits-b.0
