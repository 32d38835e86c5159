-- A lane that is cut off cuts the lanes off there.
use Rattle.std.proofs.Common.{arith, refl}
use Rattle.std.proofs.lemmas.Result.{err_from_is_err_and}
use Rattle.qpu_io.specs.Text.{lane_text}
use Rattle.qpu_io.proofs.Outputs.{each_cut}
use Rattle.qpu_io.proofs.pieces.put_lanes.Goals as goal

pub returns-in_err-write_all_of : goal.returns-in_err-write_all_of
returns-in_err-write_all_of g c =
    let p = err_from_is_err_and c.from_residual.result c.from_residual.ensures.1 in
    let cut = rw c.lane_of.ensures at c.in_err-write_all_of.ensures in
    rw p.1 (each_cut lane_text _ _ _ 0 _ _ _ (omega arith) refl c.loop-lane.invariant cut)
