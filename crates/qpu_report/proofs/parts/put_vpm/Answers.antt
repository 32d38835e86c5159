-- One more row is appended, or cut off.
use Rattle.std.proofs.Common.{arith, refl, ◌∙◌}
use Rattle.std.specs.List.{range_with_len}
use Rattle.std.proofs.lemmas.Result.{err_from_is_err_and}
use Rattle.std.proofs.lemmas.List.{take_all}
use Rattle.std.proofs.lemmas.List.FromFn.{get_or-range_with_len, length-range_with_len}
use Rattle.qpu_report.specs.Report.{vpm_line, vpm_text}
use Rattle.qpu_io.proofs.Outputs.{each_more, each_cut}
use Rattle.qpu_report.proofs.parts.put_vpm.Goals as goal

pub returns-in_err-put_row : goal.returns-in_err-put_row
unfolding vpm_text
returns-in_err-put_row g c =
    let p = err_from_is_err_and c.from_residual.result c.from_residual.ensures.1 in
    rw p.1
    (each_cut (vpm_line c.args.vpm.now) (range_with_len 0 64) c.loop-row.row c.loop-row.row 0 _ _ _
    (omega (arith, length-range_with_len 0 64)) (omega (arith, get_or-range_with_len 0 64 c.loop-row.row 0 (omega arith)))
    c.loop-row.invariant (rw c.row.ensures at c.in_err-put_row.ensures))

pub loop-row-preserved : goal.loop-row-preserved
loop-row-preserved g c =
    each_more (vpm_line c.args.vpm.now) (range_with_len 0 64) c.loop-row.row c.loop-row.row 0 _ _ _
    (omega (arith, length-range_with_len 0 64)) (omega (arith, get_or-range_with_len 0 64 c.loop-row.row 0 (omega arith)))
    c.loop-row.invariant (rw c.row.ensures at c.in_ok-put_row.ensures)

pub returns : goal.returns
unfolding vpm_text
returns g c =
    c.loop-row.invariant
    ∙ rw (take_all c.loop-row.row (range_with_len 0 64) (omega (arith, length-range_with_len 0 64))) refl
