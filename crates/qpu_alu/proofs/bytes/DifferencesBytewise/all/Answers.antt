use Rattle.std.proofs.Common.{◌+◌, ◌-◌, ◌%◌, ◌^◌, nat_lt, w8}
use Rattle.qpu_word.specs.Lanes.{lane}
use Rattle.qpu_word.proofs.VectorLemmas.{holds_itself, holds_splat, holds_zip2, holds_chosen, holds_same, holds_one}
use Rattle.qpu_alu.proofs.LaneLaws.{one_byte, one_difference}
use Rattle.qpu_alu.proofs.bytes.DifferencesBytewise.all.Goals as goal

pub returns-clause-values : goal.returns-clause-values
returns-clause-values c =
    let a = holds_itself {n = 64} {xs = c.args.a} c.fits-a.0 in
    let b = holds_itself {n = 64} {xs = c.args.b} c.fits-b.0 in
    holds_one (holds_same (λ k. lane c.args.a k - lane c.args.b k) (holds_chosen w8 nat_lt a b (holds_splat 0) (holds_zip2 (λ x y. (x + (2 ^ 8 - y)) % 2 ^ 8) a b)) (λ k low. one_difference (lane c.args.a k) (lane c.args.b k) (one_byte c.args.a c.fits-a k low) (one_byte c.args.b c.fits-b k low))) (holds_zip2 (λ x y. x - y) a b)
