use Rattle.std.proofs.Common.{◌≡◌, rules}
use Rattle.qpu_pack.proofs.RotationLemmas.{turned, not_turned}
use Rattle.qpu_pack.proofs.rotation.turned.Goals as goal
use Rattle.qpu_pack.proofs.rotation.turned.Goals.{in-0, in-1, in-2, in-3, in-4, in-5, in-6, in-7, in-8, in-9, in-10, in-11, in-12, in-13, in-14, in_default}

pub returns : goal.returns
returns c = elim c.match-n.branch [
  | in-0 w ↦ rw w.in-0.is (not_turned c.args.lanes c.fits-lanes.0 w.result-is)
  | in-1 w ↦ rw w.in-1.is (turned 1 c.args.lanes c.fits-lanes.0 w.result-is)
  | in-2 w ↦ rw w.in-2.is (turned 2 c.args.lanes c.fits-lanes.0 w.result-is)
  | in-3 w ↦ rw w.in-3.is (turned 3 c.args.lanes c.fits-lanes.0 w.result-is)
  | in-4 w ↦ rw w.in-4.is (turned 4 c.args.lanes c.fits-lanes.0 w.result-is)
  | in-5 w ↦ rw w.in-5.is (turned 5 c.args.lanes c.fits-lanes.0 w.result-is)
  | in-6 w ↦ rw w.in-6.is (turned 6 c.args.lanes c.fits-lanes.0 w.result-is)
  | in-7 w ↦ rw w.in-7.is (turned 7 c.args.lanes c.fits-lanes.0 w.result-is)
  | in-8 w ↦ rw w.in-8.is (turned 8 c.args.lanes c.fits-lanes.0 w.result-is)
  | in-9 w ↦ rw w.in-9.is (turned 9 c.args.lanes c.fits-lanes.0 w.result-is)
  | in-10 w ↦ rw w.in-10.is (turned 10 c.args.lanes c.fits-lanes.0 w.result-is)
  | in-11 w ↦ rw w.in-11.is (turned 11 c.args.lanes c.fits-lanes.0 w.result-is)
  | in-12 w ↦ rw w.in-12.is (turned 12 c.args.lanes c.fits-lanes.0 w.result-is)
  | in-13 w ↦ rw w.in-13.is (turned 13 c.args.lanes c.fits-lanes.0 w.result-is)
  | in-14 w ↦ rw w.in-14.is (turned 14 c.args.lanes c.fits-lanes.0 w.result-is)
  | in_default w ↦ let last : c.args.n ≡ 15 = search rules in rw last (turned 15 c.args.lanes c.fits-lanes.0 w.result-is)
]
