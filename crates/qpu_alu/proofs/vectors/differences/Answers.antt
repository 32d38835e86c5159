use Rattle.std.proofs.Common.{◌+◌, ◌-◌, ◌^◌}
use Rattle.qpu_word.specs.Lanes.{lane}
use Rattle.qpu_word.specs.Operations.{low32}
use Rattle.qpu_word.proofs.VectorLemmas.{holds_itself, holds_zip2, holds_same, holds_lanes}
use Rattle.qpu_alu.proofs.LaneLaws.{one_less, one_number}
use Rattle.qpu_alu.proofs.vectors.differences.Goals as goal

pub returns : goal.returns
returns c =
    let a = holds_itself {n = 16} {xs = c.args.a} c.fits-a.0 in
    let b = holds_itself {n = 16} {xs = c.args.b} c.fits-b.0 in
    holds_lanes (holds_same (λ k. low32 (lane c.args.a k + 2 ^ 32 - lane c.args.b k)) (holds_zip2 (λ x y. low32 (x + (2 ^ 32 - y))) a b) (λ k low. one_less (lane c.args.a k) (lane c.args.b k) (one_number c.args.b c.fits-b k low)))
