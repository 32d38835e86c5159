use Rattle.std.proofs.Common.{◌+◌, ◌*◌, ◌/◌, ◌%◌, ◌^◌}
use Rattle.qpu_word.specs.Lanes.{lane}
use Rattle.qpu_word.proofs.VectorLemmas.{holds_itself, holds_splat, holds_map, holds_zip2, holds_same, holds_one}
use Rattle.qpu_alu.proofs.LaneLaws.{one_byte, one_product, quotient_low, each_fits}
use Rattle.qpu_alu.proofs.bytes.ProductsBytewise.all.Goals as goal

pub overflow_cast-result : goal.overflow_cast-result
overflow_cast-result c =
    let a = holds_map (λ x. x) (holds_itself {n = 64} {xs = c.args.a} c.fits-a.0) in
    let b = holds_map (λ x. x) (holds_itself {n = 64} {xs = c.args.b} c.fits-b.0) in
    let raised = holds_zip2 (λ x y. (x + y) % 2 ^ 16) (holds_zip2 (λ x y. x * y % 2 ^ 16) a b) (holds_splat 128) in
    let part = holds_zip2 (λ x n. x / 2 ^ n) raised (holds_splat 8) in
    each_fits (holds_zip2 (λ x n. x / 2 ^ n) (holds_zip2 (λ x y. (x + y) % 2 ^ 16) raised part) (holds_splat 8)) (λ k low. quotient_low (lane c.args.a k) (lane c.args.b k) (one_byte c.args.a c.fits-a k low) (one_byte c.args.b c.fits-b k low))

pub returns-clause-values : goal.returns-clause-values
returns-clause-values c =
    let a = holds_map (λ x. x) (holds_itself {n = 64} {xs = c.args.a} c.fits-a.0) in
    let b = holds_map (λ x. x) (holds_itself {n = 64} {xs = c.args.b} c.fits-b.0) in
    let raised = holds_zip2 (λ x y. (x + y) % 2 ^ 16) (holds_zip2 (λ x y. x * y % 2 ^ 16) a b) (holds_splat 128) in
    let part = holds_zip2 (λ x n. x / 2 ^ n) raised (holds_splat 8) in
    let all = holds_zip2 (λ x n. x / 2 ^ n) (holds_zip2 (λ x y. (x + y) % 2 ^ 16) raised part) (holds_splat 8) in
    holds_one
    (holds_same (λ k. (lane c.args.a k * lane c.args.b k + 127) / 255) (holds_map (λ x. x) all) (λ k low. one_product (lane c.args.a k) (lane c.args.b k) (one_byte c.args.a c.fits-a k low) (one_byte c.args.b c.fits-b k low)))
    (holds_zip2 (λ x y. (x * y + 127) / 255) (holds_itself {n = 64} {xs = c.args.a} c.fits-a.0) (holds_itself {n = 64} {xs = c.args.b} c.fits-b.0))
