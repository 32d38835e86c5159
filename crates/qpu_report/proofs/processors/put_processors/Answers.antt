-- One more processor's lines are appended, or cut off.
use Rattle.std.proofs.Common.{◌<◌, length, None, refl, arith}
use Rattle.std.proofs.lemmas.Result.{err_from_is_err_and}
use Rattle.qpu_report.specs.Report.{started_text}
use Rattle.qpu_io.proofs.Outputs.{numbered_more, numbered_cut}
use Rattle.qpu_report.proofs.processors.put_processors.Goals as goal

pub returns-in_err-put_started : goal.returns-in_err-put_started
returns-in_err-put_started g c =
    let here : c.loop-q.q < length c.args.machine.now.state.processors = omega (arith, c.in_err-put_started.ensures.twelve) in
    let p = err_from_is_err_and c.from_residual.result c.from_residual.ensures.1 in
    rw p.1
    (numbered_cut (started_text c.args.machine.now.state) 0 c.args.machine.now.state.processors c.loop-q.q c.loop-q.q _ None _ _ _ here (omega arith) refl
    c.loop-q.invariant.written c.in_err-put_started.ensures.text)

pub loop-q-preserved : goal.loop-q-preserved
loop-q-preserved g c =
    let here : c.loop-q.q < length c.args.machine.now.state.processors = omega (arith, c.in_ok-put_started.ensures.twelve) in
    record {
      written = numbered_more (started_text c.args.machine.now.state) 0 c.args.machine.now.state.processors c.loop-q.q c.loop-q.q _ None _ _ _ here (omega arith) refl
          c.loop-q.invariant.written c.in_ok-put_started.ensures.text;
      known = λ more. c.in_ok-put_started.ensures.twelve;
    }
