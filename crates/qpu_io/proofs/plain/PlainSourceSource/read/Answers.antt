-- The bytes read are the front of those left, and the source goes on behind them.
use Rattle.std.proofs.lemmas.List.{drop-drop, take_rest}
use Rattle.qpu_io.proofs.Inputs.{front_read}
use Rattle.qpu_io.proofs.plain.PlainSourceSource.read.Goals as goal

pub returns-clause-ok : goal.returns-clause-ok
returns-clause-ok c =
    let count = rw (take_rest, c.deref.ensures.value) at c.fill-count.ensures.count in
    let filled = rw (take_rest, c.deref.ensures.value) at c.fill-count.ensures.filled in
    rw (← c.self.view_is, ← drop-drop c.fill-count.result c.self.inside.at c.self.inside.bytes.items)
    (front_read _ _ _ _ count filled)
