use Rattle.std.proofs.Common.{◌≡◌, ◌∙◌, arith}
use Rattle.qpu_vpm.specs.Cells.{access_place, lane_place, vector_places}
use Rattle.qpu_vpm.proofs.PutLemmas.{put_more, put_all}
use Rattle.qpu_vpm.proofs.vpm.Vpm.put_vector.Goals as goal

pub loop-i-preserved : goal.loop-i-preserved
loop-i-preserved c =
    let spot : c.place.result ≡ lane_place c.args.setup (access_place c.args.setup c.args.k) c.loop-i.i =
    c.place.ensures ∙ c.strand-strand.ensures c.loop-i.i (omega arith) in
    put_more (omega arith) (rw spot at c.set_part.ensures.words) c.loop-i.invariant

pub returns : goal.returns
unfolding vector_places
returns c = put_all (omega arith) c.loop-i.invariant
