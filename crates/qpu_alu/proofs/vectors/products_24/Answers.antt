use Rattle.std.proofs.Common.{◌-◌, ◌*◌, ◌%◌, ◌^◌, bit_and}
use Rattle.qpu_word.specs.Lanes.{lane}
use Rattle.qpu_word.specs.Operations.{low32}
use Rattle.qpu_word.proofs.VectorLemmas.{holds_itself, holds_splat, holds_zip2, holds_same, holds_lanes}
use Rattle.qpu_alu.proofs.vectors.products_24.Goals as goal
use Rattle.qpu_alu.proofs.LaneLaws.{low_product}

pub returns : goal.returns
returns c =
    let a = holds_itself {n = 16} {xs = c.args.a} c.fits-a.0 in
    let b = holds_itself {n = 16} {xs = c.args.b} c.fits-b.0 in
    let low = holds_splat {n = 16} (2 ^ 24 - 1) in
    holds_lanes (holds_same (λ k. low32 (lane c.args.a k % 2 ^ 24 * (lane c.args.b k % 2 ^ 24))) (holds_zip2 (λ x y. low32 (x * y)) (holds_zip2 bit_and a low) (holds_zip2 bit_and b low)) (λ k within. low_product (lane c.args.a k) (lane c.args.b k)))
