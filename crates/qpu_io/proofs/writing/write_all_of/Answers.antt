-- Each write appends more of the front, and one that fails cuts the bytes off behind it.
use Rattle.std.proofs.lemmas.Result.{err_from_is_err_and}
use Rattle.qpu_io.proofs.Outputs.{front_within, front_more, front_cut}
use Rattle.qpu_io.proofs.writing.write_all_of.Goals as goal

pub loop-at-preserved : goal.loop-at-preserved
loop-at-preserved g c = record {
  within = front_within _ _ _ c.loop-at.invariant.within c.in_ok-at.ensures.ok.within;
  written = front_more _ _ _ _ _ _ c.loop-at.invariant.written c.in_ok-at.ensures.ok;
}

pub returns-in_err-at : goal.returns-in_err-at
returns-in_err-at g c =
    let p = err_from_is_err_and c.from_residual.result c.from_residual.ensures.1 in
    rw p.1 (front_cut _ _ _ _ _ c.loop-at.invariant.written c.in_err-at.ensures.err)
