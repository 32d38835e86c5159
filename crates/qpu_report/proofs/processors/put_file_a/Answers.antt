-- One more row is appended, or cut off.
use Rattle.std.proofs.Common.{◌<◌, length, [], arith}
use Rattle.std.proofs.lemmas.Result.{err_from_is_err_and}
use Rattle.std.specs.Prelude.{codes}
use Rattle.qpu_report.specs.Report.{row_line}
use Rattle.qpu_io.proofs.Outputs.{numbered_more, numbered_cut}
use Rattle.qpu_report.proofs.processors.put_file_a.Goals as goal

pub returns-in_err-put_row : goal.returns-in_err-put_row
returns-in_err-put_row g c =
    let here : c.loop-k.k < length c.args.p.now.file_a = omega (arith, c.row.ensures.rows) in
    let p = err_from_is_err_and c.from_residual.result c.from_residual.ensures.1 in
    rw p.1
    (numbered_cut (row_line (codes "ra")) 0 c.args.p.now.file_a c.loop-k.k c.loop-k.k _ [] _ _ _ here (omega arith)
    c.row.ensures.value c.loop-k.invariant.written c.in_err-put_row.ensures)

pub loop-k-preserved : goal.loop-k-preserved
loop-k-preserved g c =
    let here : c.loop-k.k < length c.args.p.now.file_a = omega (arith, c.row.ensures.rows) in
    record {
      written = numbered_more (row_line (codes "ra")) 0 c.args.p.now.file_a c.loop-k.k c.loop-k.k _ [] _ _ _ here (omega arith)
          c.row.ensures.value c.loop-k.invariant.written c.in_ok-put_row.ensures;
      known = λ more. c.row.ensures.rows;
    }
