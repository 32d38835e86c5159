use Rattle.std.proofs.Common.{◌∙◌, arith}
use Rattle.qpu_word.proofs.LaneLemmas.{filled_all}
use Rattle.qpu_vpm.specs.Cells.{access_place, lane_place, vector_places}
use Rattle.qpu_vpm.proofs.PutLemmas.{values_of_lanes}
use Rattle.qpu_vpm.proofs.vpm.Vpm.vector.Goals as goal

pub returns : goal.returns
unfolding vector_places
returns c =
    filled_all (omega arith) c.loop-i.invariant
    ∙ values_of_lanes c.args.self.now c.args.setup.size (lane_place c.args.setup (access_place c.args.setup c.args.k))
