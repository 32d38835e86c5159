-- The bytes that were filled in stand behind those that waited.
use Rattle.std.proofs.Common.{◌≡◌, ◌∙◌, ◌-◌, drop, length, arith, length-take-le, length-drop}
use borrow.Rule.Slice.PartMut.{mid_of}
use Rattle.qpu_io.proofs.Waits.{waits_more}
use Rattle.qpu_io.proofs.waiting.Waiting.put.Goals as goal

pub returns-clause-put : goal.returns-clause-put
returns-clause-put c =
    let room = 65536 - c.self.inside.end in
    let within = c.self.invariant.1.0 in
    let long : length (mid_of c.self.inside.end room c.self.inside.buffer) ≡ room =
    length-take-le room (drop c.self.inside.end c.self.inside.buffer) (omega (arith, within, c.self.told, length-drop c.self.inside.end c.self.inside.buffer)) in
    rw (← c.self.view_is)
    (waits_more _ _ _ _ c.self.inside.start c.self.inside.end room c.fill-count.result
    c.self.invariant.0 (omega (arith, within, c.self.told))
    (omega (arith, c.fill-count.ensures.count, long)) (omega (arith, c.fill-count.ensures.count))
    (c.fill-count.auto.buf ∙ long) c.fill-count.ensures.filled)
