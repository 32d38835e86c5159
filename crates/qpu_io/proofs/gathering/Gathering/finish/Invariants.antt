-- A front of the bytes that waited was handed on, and each write makes the others fewer.
use Rattle.std.proofs.Common.{length}
use Rattle.qpu_io.proofs.Handing.{Hands}
use Rattle.qpu_io.proofs.gathering.Gathering.finish.Given as goal

abbrev pub invariant-loop-self : goal.invariant-loop-self
invariant-loop-self g l =
    Hands g.K.Sink.shown (record { sink = l.fn.self.sink; waiting = l.fn.self.waiting })
    (record { sink = l.self-inside.sink; waiting = l.self-inside.waiting })

abbrev pub decreases-loop-self : goal.decreases-loop-self
decreases-loop-self g l = length l.self-inside.waiting
