use Rattle.std.proofs.Common.{min, nat_lt, w8}
use Rattle.qpu_word.specs.Lanes.{lane}
use Rattle.qpu_word.proofs.VectorLemmas.{holds_itself, holds_zip2, holds_chosen, holds_same, holds_one}
use Rattle.qpu_alu.proofs.LaneLaws.{one_least}
use Rattle.qpu_alu.proofs.bytes.MinimaBytewise.all.Goals as goal

pub returns-clause-values : goal.returns-clause-values
returns-clause-values c =
    let a = holds_itself {n = 64} {xs = c.args.a} c.fits-a.0 in
    let b = holds_itself {n = 64} {xs = c.args.b} c.fits-b.0 in
    holds_one (holds_same (λ k. min (lane c.args.a k) (lane c.args.b k)) (holds_chosen w8 nat_lt a b a b) (λ k low. one_least (lane c.args.a k) (lane c.args.b k))) (holds_zip2 (λ x y. min x y) a b)
