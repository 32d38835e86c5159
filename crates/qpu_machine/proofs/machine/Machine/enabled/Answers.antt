use Rattle.qpu_machine.proofs.MovedLemmas.{some_load, some_store, some_fetch}
use Rattle.qpu_machine.proofs.machine.Machine.enabled.Goals as goal

pub returns-in-Load : goal.returns-in-Load
returns-in-Load c = rw (c.in-Load.is, c.load_pending.ensures, ← c.self.view_is) (some_load _ _)

pub returns-in-Store : goal.returns-in-Store
returns-in-Store c = rw (c.in-Store.is, c.store_pending.ensures, ← c.self.view_is) (some_store _ _)

pub returns-in-Fetch : goal.returns-in-Fetch
returns-in-Fetch c = rw (c.in-Fetch.is, c.fetch_pending.ensures, ← c.self.view_is) (some_fetch _ _ _)
