use Rattle.qpu_vpm.specs.Cells.{access_place, lane_place}
use Rattle.qpu_vpm.proofs.PutLemmas.{IsPut}
use Rattle.qpu_vpm.proofs.vpm.Vpm.put_vector.Given as goal

abbrev pub invariant-loop-i : goal.invariant-loop-i
invariant-loop-i l = IsPut (lane_place l.setup (access_place l.setup l.k)) l.setup.size l.value.v l.initial.self l.self l.i
