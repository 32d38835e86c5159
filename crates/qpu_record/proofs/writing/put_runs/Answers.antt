-- A run that is cut off cuts the runs off there.
use Rattle.std.proofs.Common.{arith, refl}
use Rattle.std.proofs.lemmas.Result.{err_from_is_err_and}
use Rattle.qpu_record.specs.Record.{item_text}
use Rattle.qpu_io.proofs.Outputs.{each_cut}
use Rattle.qpu_record.proofs.writing.put_runs.Goals as goal

pub returns-in_err-put_run : goal.returns-in_err-put_run
returns-in_err-put_run g c =
    let p = err_from_is_err_and c.from_residual.result c.from_residual.ensures.1 in
    rw p.1
    (each_cut item_text c.args.runs.now c.loop-run.run-index _ _ _ _ _ (omega arith) refl c.loop-run.invariant
    c.in_err-put_run.ensures)
