-- One more line is appended, or cut off.
use Rattle.std.proofs.Common.{refl, arith}
use Rattle.std.proofs.lemmas.Result.{err_from_is_err_and}
use Rattle.qpu_report.specs.Report.{semaphore_line}
use Rattle.qpu_io.proofs.Outputs.{numbered_more, numbered_cut}
use Rattle.qpu_report.proofs.parts.put_semaphores.Goals as goal

pub returns-in_err-put_semaphore : goal.returns-in_err-put_semaphore
returns-in_err-put_semaphore g c =
    let p = err_from_is_err_and c.from_residual.result c.from_residual.ensures.1 in
    rw p.1
    (numbered_cut semaphore_line 0 c.args.counts.now c.loop-n.n c.loop-n.n _ 0 _ _ _ (omega arith) (omega arith) refl
    c.loop-n.invariant c.in_err-put_semaphore.ensures)

pub loop-n-preserved : goal.loop-n-preserved
loop-n-preserved g c =
    numbered_more semaphore_line 0 c.args.counts.now c.loop-n.n c.loop-n.n _ 0 _ _ _ (omega arith) (omega arith) refl
    c.loop-n.invariant c.in_ok-put_semaphore.ensures
