use Rattle.std.proofs.Common.{refl, rules}
use Rattle.qpu_shared.specs.Views.{shared_state}
use Rattle.qpu_shared.proofs.MoveLemmas.{run_loaded, run_stored}
use Rattle.qpu_shared.proofs.shared.Shared.carry_run.Goals as goal

pub returns-else-not-read-clause-carried : goal.returns-else-not-read-clause-carried
returns-else-not-read-clause-carried c told =
    rw (c.in-Load.is, ← c.self.view_is, c.write.ensures.words)
    (run_loaded (shared_state c.self.inside) c.args.transfer.now c.in-Some.row _ c.read.new.out (search rules) c.in-Some.ensures.run
    (c.if-not-read.ensures.done refl) (c.if-not-read.ensures.there refl) (search rules) (c.if-not-read.ensures.small refl) c.write.ensures.small)

pub returns-in-Store-clause-carried : goal.returns-in-Store-clause-carried
returns-in-Store-clause-carried c told =
    rw (c.in-Store.is, ← c.self.view_is, c.write-in-Store.ensures.done told)
    (run_stored (shared_state c.self.inside) c.args.transfer.now c.in-Some.row _ c.read-in-Store.new.out (search rules) c.in-Some.ensures.run
    c.read-in-Store.ensures.words (c.write-in-Store.ensures.there told) (search rules) (c.write-in-Store.ensures.small told) c.read-in-Store.ensures.small)
