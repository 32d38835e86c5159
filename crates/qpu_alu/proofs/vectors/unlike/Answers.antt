use Rattle.std.proofs.Common.{bit_xor}
use Rattle.qpu_word.proofs.VectorLemmas.{lanes_zip2}
use Rattle.qpu_alu.proofs.vectors.unlike.Goals as goal

pub returns : goal.returns
returns c = lanes_zip2 bit_xor c.args.a c.args.b c.fits-a.0 c.fits-b.0
