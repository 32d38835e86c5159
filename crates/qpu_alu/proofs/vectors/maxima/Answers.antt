use Rattle.std.proofs.Common.{◌+◌, ◌^◌, nat_lt, w32}
use Rattle.qpu_word.specs.Operations.{low32}
use Rattle.qpu_word.proofs.VectorLemmas.{holds_itself, holds_splat, holds_zip2, holds_chosen, holds_lanes}
use Rattle.qpu_alu.proofs.vectors.maxima.Goals as goal

pub returns : goal.returns
returns c =
    let a = holds_itself {n = 16} {xs = c.args.a} c.fits-a.0 in
    let b = holds_itself {n = 16} {xs = c.args.b} c.fits-b.0 in
    let signs = holds_splat {n = 16} (2 ^ 31) in
    holds_lanes (holds_chosen w32 nat_lt (holds_zip2 (λ x y. low32 (x + y)) a signs) (holds_zip2 (λ x y. low32 (x + y)) b signs) b a)
