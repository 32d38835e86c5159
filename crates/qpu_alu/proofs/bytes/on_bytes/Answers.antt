use Rattle.qpu_alu.proofs.LaneLaws.{numbers_of_two}
use Rattle.qpu_alu.proofs.bytes.on_bytes.Goals as goal

pub returns : goal.returns
returns g c = numbers_of_two g.O.Bytewise.f c.args.a c.args.b c.all.result c.fits-a c.fits-b c.all.ensures.values c.all.ensures.bytes
