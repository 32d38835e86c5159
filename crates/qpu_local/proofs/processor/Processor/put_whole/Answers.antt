use Rattle.qpu_local.proofs.WholeLemmas.{registers_whole}
use Rattle.qpu_local.proofs.processor.Processor.put_whole.Goals as goal

pub returns : goal.returns
returns c =
    rw (c.put_loaded.ensures, c.put_mul.ensures, c.put_add.ensures)
    (registers_whole c.args.f.now c.args.self.now c.args.ins.now c.args.sent.now.add.v c.args.sent.now.mul.v c.requires.add c.requires.mul c.sixteen.ensures c.sixteen-2.ensures c.requires.whole)
