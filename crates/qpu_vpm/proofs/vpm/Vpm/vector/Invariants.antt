use Rattle.qpu_word.proofs.LaneLemmas.{Filled}
use Rattle.qpu_bytes.specs.Elements.{part}
use Rattle.qpu_vpm.specs.Cells.{access_place, lane_place}
use Rattle.qpu_vpm.proofs.vpm.Vpm.vector.Given as goal

abbrev pub invariant-loop-i : goal.invariant-loop-i
invariant-loop-i l = Filled (λ i. part l.self (lane_place l.setup (access_place l.setup l.k) i) l.setup.size) l.out l.i
