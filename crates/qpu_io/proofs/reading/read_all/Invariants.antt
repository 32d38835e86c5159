-- The bytes so far were taken, and are at most as many as the limit allows.
use Rattle.std.proofs.Common.{◌-◌, ◌≤◌, vec_len}
use Rattle.qpu_io.specs.Input.{Takes}
use Rattle.qpu_io.proofs.reading.read_all.Given as goal

abbrev pub invariant-loop-bytes : goal.invariant-loop-bytes
invariant-loop-bytes g l = record {
  at_most : vec_len l.bytes ≤ l.limit;
  taken : Takes (g.S.Source.shown l.fn.source) (g.S.Source.shown l.source) l.bytes.items;
}

abbrev pub decreases-loop-bytes : goal.decreases-loop-bytes
decreases-loop-bytes g l = l.limit - vec_len l.bytes
