use Rattle.std.proofs.Common.{◌+◌, ◌%◌, ◌^◌, min, nat_lt, w8}
use Rattle.qpu_word.specs.Lanes.{lane}
use Rattle.qpu_word.proofs.VectorLemmas.{holds_itself, holds_splat, holds_zip2, holds_chosen, holds_same, holds_one}
use Rattle.qpu_alu.proofs.LaneLaws.{one_byte, one_sum}
use Rattle.qpu_alu.proofs.bytes.SumsBytewise.all.Goals as goal

pub returns-clause-values : goal.returns-clause-values
returns-clause-values c =
    let a = holds_itself {n = 64} {xs = c.args.a} c.fits-a.0 in
    let b = holds_itself {n = 64} {xs = c.args.b} c.fits-b.0 in
    let sums = holds_zip2 (λ x y. (x + y) % 2 ^ 8) a b in
    holds_one (holds_same (λ k. min 255 (lane c.args.a k + lane c.args.b k)) (holds_chosen w8 nat_lt sums a (holds_splat 255) sums) (λ k low. one_sum (lane c.args.a k) (lane c.args.b k) (one_byte c.args.a c.fits-a k low) (one_byte c.args.b c.fits-b k low))) (holds_zip2 (λ x y. min 255 (x + y)) a b)
