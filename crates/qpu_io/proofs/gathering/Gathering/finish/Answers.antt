-- Each write hands on a front of what waits, and one that fails leaves the rest.
use Rattle.qpu_io.proofs.Handing.{hands_more}
use Rattle.qpu_io.proofs.gathering.Gathering.finish.Goals as goal

pub loop-self-preserved : goal.loop-self-preserved
loop-self-preserved g c =
    let writes = rw c.bytes-in-loop-self.ensures at c.in_ok-count.ensures.ok in
    hands_more c.loop-self.invariant writes c.take.ensures
